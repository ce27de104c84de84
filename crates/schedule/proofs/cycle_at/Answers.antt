-- Six bytes of a record. Assumes nothing.
use Rattle.upd546.specs.TheLineSchedule.{record_cycle}
use Rattle.schedule.proofs.cycle_at.Goals as goal

pub returns : goal.returns
unfolding record_cycle
returns c = c.number_at.ensures
