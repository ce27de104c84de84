-- After i turns the first i bytes hold their words. Assumes nothing.
use mathlib.Core.Path.{◌≡◌}
use Rattle.upd546.specs.StateImage.{packed}
use Rattle.laws.proofs.Packing.{filled}
use Rattle.save.proofs.ram_bytes.Given as goal

abbrev pub invariant-loop-i : goal.invariant-loop-i
invariant-loop-i l = l.bytes ≡ filled l.initial.bytes (packed l.words) l.i
