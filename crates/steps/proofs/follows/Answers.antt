-- The low 8 bits count up. Assumes nothing.
use mathlib.Core.Path.{refl}
use Rattle.upd546.specs.TheMachine.{follows as followsOf}
use Rattle.steps.proofs.follows.Goals as goal

pub returns : goal.returns
unfolding followsOf
returns c = refl
