-- `records_until` counts the records at or before a cycle. The loop has them between two places. Assumes nothing.
use mathlib.Core.List.{List}
use Prim.Native.Nat.{ℕ, ◌-◌, ◌<◌, ◌≤◌}
use Rattle.upd546.specs.TheLineSchedule.{record_count, record_cycle}
use Rattle.schedule.proofs.records_until.Given as goal

pub record Between (sched : List ℕ) (n low high : ℕ) : Type 0 where
  pub order : low ≤ high
  pub within : high ≤ record_count sched
  pub passed : (k : ℕ) → k < low → record_cycle sched k ≤ n
  pub ahead : high < record_count sched → n < record_cycle sched high

abbrev pub invariant-loop-low : goal.invariant-loop-low
invariant-loop-low l = Between l.sched l.n l.low l.high

abbrev pub decreases-loop-low : goal.decreases-loop-low
decreases-loop-low l = l.high - l.low
