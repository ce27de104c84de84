-- `records_until` counts the records at or before a cycle. The loop has them between two places. Assumes nothing.
use mathlib.Core.Path.{◌≡◌, ap}
use mathlib.Core.List.{List}
use mathlib.Core.Logic.{⊎_elim}
use Prim.Native.Nat.{ℕ, ◌+◌, ◌/◌, ◌<◌, ◌≤◌}
use native.Mathlib.Nat.{eq-or-lt_of_le}
use native.Mathlib.Omega.{arith}
use Rattle.upd546.specs.TheLineSchedule.{record_count, record_cycle, schedule_number}
use Rattle.schedule.proofs.Records.{rises}
use Rattle.schedule.proofs.records_until.Goals as goal

-- cycles rise, so all records up to one that is passed are passed
up_to : (sched : List ℕ) → schedule_number sched ≡ 0 → (n m : ℕ) → m < record_count sched → record_cycle sched m ≤ n → (k : ℕ) → k < m + 1 → record_cycle sched k ≤ n
up_to sched accepted n m l h k q =
    let p : k ≤ m = omega arith in
    ⊎_elim (λ e. omega (arith, ap (record_cycle sched) e, h)) (λ s. omega (arith, rises sched accepted k m s l, h)) (eq-or-lt_of_le p)

pub loop-low-preserved : goal.loop-low-preserved
loop-low-preserved c =
    let inv = c.loop-low.invariant in
    let t = c.loop-low-test.true in
    let m = (c.loop-low.low + c.loop-low.high) / 2 in
    record {
      order = omega (arith, t);
      within = inv.within;
      passed = up_to c.args.sched.now c.requires c.args.n m (omega (arith, t, inv.within)) (omega (arith, c.if-n-cycle_at.false, c.cycle_at.ensures));
      ahead = inv.ahead;
    }
