-- The parts of an image that a save writes one after the other, and which counts a version can hold. Assumes nothing: these are
-- definitions.
use Rattle.std.specs.Prelude.{ℕ, Bool, true, List, ◌++◌, eqb}
use Rattle.runs.specs.declared.Version.{Version}
use Rattle.runs.specs.declared.Version.TheVariants.{One, Two}
use Rattle.upd546.specs.declared.Core.{Core}
use Rattle.upd546.specs.declared.State.{State}
use Rattle.upd546.specs.Bytes.{bytes_of}
use Rattle.upd546.specs.StateImage.{image_mark, version_bytes, words_bytes, core_bytes, body_bytes}

-- what stands before the ports
abbrev pub front_bytes : Version → Core → List ℕ
front_bytes v c = image_mark ++ version_bytes v ++ bytes_of 2 c.flow.pc ++ words_bytes c.flow.stack ++ core_bytes c

-- what both versions have
abbrev pub common_bytes : Version → State → List ℕ
common_bytes v s = image_mark ++ version_bytes v ++ body_bytes s

-- a version 1 image has no place for a count that isn't 0
abbrev pub holds : Version → ℕ → Bool
holds One count = eqb count 0
holds Two count = true
