-- `next_at` gives the cycle of a record that is there, else no cycle. Assumes nothing.
use mathlib.Core.Path.{◌∙◌, sym}
use native.Mathlib.Omega.{arith}
use Rattle.schedule.proofs.Standing.{next_record, next_none}
use Rattle.schedule.proofs.next_at.Goals as goal

pub returns-then-i-sched : goal.returns-then-i-sched
returns-then-i-sched c = c.cycle_at.ensures.0 ∙ sym (next_record _ _ (omega arith))

pub returns-else-i-sched : goal.returns-else-i-sched
returns-else-i-sched c = sym (next_none _ _ (omega arith))
