-- `lines_at` reads the lines of a record. Assumes nothing.
use Rattle.upd546.specs.TheLineSchedule.{record_lines}
use Rattle.schedule.proofs.lines_at.Goals as goal

pub returns : goal.returns
unfolding record_lines
returns c = cc
