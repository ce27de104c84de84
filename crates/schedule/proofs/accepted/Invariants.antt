-- `accepted` counts records up to one that a number refuses. The loop has passed i records that none refuses, and keeps the
-- greatest head with the cycle of the last. Assumes nothing.
use mathlib.Core.Path.{◌≡◌}
use Prim.Native.Nat.{◌+◌, ◌*◌}
use Rattle.upd546.specs.TheLineSchedule.{records_number}
use Rattle.schedule.specs.Checked.{last_cycle}
use Rattle.schedule.proofs.accepted.Given as goal

abbrev pub invariant-loop-i : goal.invariant-loop-i
invariant-loop-i l = (records_number l.sched l.i ≡ 0) × (l.last ≡ 65536 * last_cycle l.sched l.i + 65535)
