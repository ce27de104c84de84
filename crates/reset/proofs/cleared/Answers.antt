-- Every part that a reset clears. Assumes nothing.
use mathlib.Core.Path.{refl}
use Rattle.upd546.specs.OneMachineCycle.{cleared as clearedOf}
use Rattle.reset.proofs.cleared.Goals as goal

pub returns : goal.returns
unfolding clearedOf
returns c = refl
