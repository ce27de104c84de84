-- The event that comes first. A running timer has a tick left. Assumes nothing.
use Prim.Native.Nat.{◌<◌, ◌≤◌}
use native.Mathlib.Omega.{arith}
use Rattle.upd546.specs.declared.Timer.{Timer}
use Rattle.upd546.specs.Timer.{ticks_left}
use Rattle.laws.proofs.Timer.{position_small}
use Rattle.burst.proofs.horizon_of.Goals as goal

tick_left : (t : Timer) → t.register < 64 → 0 < t.register → 1 ≤ ticks_left t
unfolding ticks_left
tick_left t h p = omega (arith, position_small t.register p h)

pub overflow_add-last : goal.overflow_add-last
unfolding ticks_left
overflow_add-last c =
    let v = c.requires in
    omega (arith, c.ticks_left.ensures, v.2, v.3, c.well_formed)

pub returns : goal.returns
returns c =
    let v = c.requires in
    let few = c.min.ensures in
    let ticks = c.ticks_left.ensures in
    let one = tick_left c.args.timer v.1 (omega (arith, c.if-timer-eq0.false)) in
    record { some = omega (arith, few, ticks, one, v.2); in_limit = omega (arith, few); before_tick = λ p. omega (arith, few, ticks) }
