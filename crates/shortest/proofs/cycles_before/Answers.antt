-- The cycles up to a record's. Assumes nothing.
use native.Mathlib.Omega.{arith}
use Rattle.upd546.specs.TheLineSchedule.{record_cycle}
use Rattle.shortest.proofs.cycles_before.Goals as goal

pub returns : goal.returns
unfolding record_cycle
returns c =
    let read = c.number_at-cycle.ensures.0 in
    record { within = omega arith; before = λ i l. omega (arith, read, c.min.ensures, c.saturating_sub.ensures) }
