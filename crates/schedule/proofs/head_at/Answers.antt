-- Eight bytes of a record, and of these the cycle. Assumes nothing.
use Prim.Native.Nat.{◌*◌}
use native.Mathlib.Omega.{arith}
use Rattle.upd546.specs.TheLineSchedule.{record_length, record_cycle}
use Rattle.schedule.proofs.Records.{head_cycle}
use Rattle.schedule.proofs.head_at.Goals as goal

pub returns : goal.returns
unfolding record_cycle
returns c =
    let a = c.args in
    rw (c.number_at-high.ensures.0, c.number_at-low.ensures.0)
    (head_cycle a.sched.now (record_length * a.i) (omega arith) (λ k. omega (arith, c.type_inv.sched k)))
