-- After i turns the first 2i words are those of the first i bytes. Assumes nothing.
use mathlib.Core.Path.{◌≡◌}
use Prim.Native.Nat.{◌*◌}
use Rattle.upd546.specs.Bytes.{part}
use Rattle.upd546.specs.StateImage.{unpacked}
use Rattle.laws.proofs.Packing.{filled}
use Rattle.restore.proofs.ram_at.Given as goal

abbrev pub invariant-loop-i : goal.invariant-loop-i
invariant-loop-i l = l.words ≡ filled l.initial.words (unpacked (part l.bytes 27 48)) (2 * l.i)
