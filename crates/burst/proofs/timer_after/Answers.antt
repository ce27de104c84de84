-- A stopped timer stands; a running one has so many ticks fewer left. Assumes nothing.
use mathlib.Core.Path.{◌∙◌, sym, ap}
use Prim.Native.Nat.{ℕ, ◌-◌, ◌<◌}
use native.Mathlib.Omega.{arith}
use Rattle.upd546.specs.Timer.{ticks_left}
use Rattle.laws.specs.Timer.{timer_left}
use Rattle.laws.proofs.Timer.{ticks_closed}
use Rattle.laws.proofs.Burst.{ticks_stopped}
use Rattle.burst.proofs.timer_after.Goals as goal

pub returns-then-t-eq0 : goal.returns-then-t-eq0
returns-then-t-eq0 c =
    let a = c.args in
    sym (ticks_stopped a.cycles a.t c.if-t-eq0.true)

pub timer_left-requires : goal.timer_left-requires
unfolding ticks_left
timer_left-requires c =
    (c.requires.1, omega (arith, c.ticks_left.ensures))

pub returns : goal.returns
returns c =
    let a = c.args in
    let runs : 0 < a.t.register = omega (arith, c.if-t-eq0.false) in
    c.timer_left.ensures
    ∙ ap (λ (x : ℕ). timer_left a.t.tm (x - a.cycles)) c.ticks_left.ensures
    ∙ sym (ticks_closed a.cycles a.t runs c.requires.2 (c.requires.3 runs))
