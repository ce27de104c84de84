-- One cycle less is owed, or none. Assumes nothing.
use mathlib.Core.Path.{◌≡◌, refl, ap}
use Prim.Native.Nat.{ℕ, ◌-◌}
use native.Mathlib.Omega.{arith}
use Rattle.upd546.specs.Parts.{set_owed}
use Rattle.upd546.specs.OneMachineCycle.{paid as paidOf}
use Rattle.steps.proofs.paid.Goals as goal

pub returns-then-c-eq0 : goal.returns-then-c-eq0
unfolding paidOf
returns-then-c-eq0 c =
    let core = c.args.c in
    let none : core.owed ≡ core.owed - 1 = omega (arith, c.if-c-eq0.true) in
    ap (λ (owed : ℕ). set_owed owed core) none

pub returns : goal.returns
unfolding paidOf
returns c = refl
