-- The codes passed have another word. Assumes nothing.
use mathlib.Core.Path.{◌≡◌}
use Prim.Native.Nat.{◌-◌}
use mathlib.Core.List.{◌++◌}
use lib.ListN.{take}
use Rattle.mnemonics.specs.Texts.{ascii}
use Rattle.assembly.specs.Assembling.{code_from}
use Rattle.assembly.proofs.code_for.Given as goal

abbrev pub invariant-loop-code : goal.invariant-loop-code
invariant-loop-code l = code_from (take 3 (l.word ++ ascii "   ")) l.code (256 - l.code) ≡ code_from (take 3 (l.word ++ ascii "   ")) 0 256
