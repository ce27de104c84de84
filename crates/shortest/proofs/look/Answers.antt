-- All of a state but its cycle number, by the save of it. Assumes nothing.
use mathlib.Core.Path.{ap}
use Rattle.runs.specs.TwoRunners.{SaveAnswer}
use Rattle.shortest.specs.Returns.{look_of}
use Rattle.shortest.proofs.look.Goals as goal

pub returns : goal.returns
unfolding look_of
returns c = ap (λ (r : SaveAnswer). r.buffer) c.save.ensures
