-- PC is pushed and becomes 03C. Assumes nothing.
use Rattle.upd546.specs.OneMachineCycle.{accepted as acceptedOf}
use Rattle.steps.proofs.accepted.Goals as goal

pub returns : goal.returns
unfolding acceptedOf
returns c sheet levels = rw (levels, c.pushed.ensures)
