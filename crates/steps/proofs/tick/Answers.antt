-- A step of the timer, case by case. Assumes nothing.
use mathlib.Core.Path.{◌∙◌, sym}
use borrow.Author.Tests.{ne_eqb}
use Rattle.upd546.specs.Timer.{tick as tickOf}
use Rattle.steps.proofs.tick.Goals as goal

pub returns-then-t-eq0 : goal.returns-then-t-eq0
unfolding tickOf
returns-then-t-eq0 c = rw c.if-t-eq0.true

pub returns-then-register-ne1 : goal.returns-then-register-ne1
unfolding tickOf
returns-then-register-ne1 c =
    let s = c.step_register-register.ensures in
    rw (s, ne_eqb _ 0 c.if-t-eq0.false, ne_eqb _ 1 (λ e. c.if-register-ne1.true (s ∙ e)))

pub returns-then-t-eq0-2 : goal.returns-then-t-eq0-2
unfolding tickOf
returns-then-t-eq0-2 c =
    let s = sym c.step_register-register.ensures ∙ c.if-register-ne1.false in
    rw (ne_eqb _ 0 c.if-t-eq0.false, s, c.if-t-eq0-2.true)

pub returns : goal.returns
unfolding tickOf
returns c =
    let s = sym c.step_register-register.ensures ∙ c.if-register-ne1.false in
    rw (ne_eqb _ 0 c.if-t-eq0.false, s, ne_eqb _ 0 c.if-t-eq0-2.false)
