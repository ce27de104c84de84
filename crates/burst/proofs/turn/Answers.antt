-- An acceptance, an owed cycle, a stop, a burst with the timer brought forward. Assumes nothing.
use mathlib.Core.Path.{◌∙◌, refl, sym, ap}
use native.Mathlib.Omega.{arith}
use Rattle.upd546.specs.OneMachineCycle.{taken, paid, ticked}
use Rattle.burst.proofs.Lending.{lent_legal}
use Rattle.burst.proofs.Single.{accepts-turn, owed_turn}
use Rattle.burst.proofs.turn.Goals as goal

pub overflow_cast-panel : goal.overflow_cast-panel
overflow_cast-panel c = omega (arith, (lent_legal c.requires.0.lent).level_most)

pub accepted-requires : goal.accepted-requires
accepted-requires c = let v = lent_legal c.requires.0.lent in (v.level_some, v.level_most)

pub returns-then-accepts : goal.returns-then-accepts
returns-then-accepts c =
    rw c.stretch_of.ensures
    (accepts-turn c.requires.0 (sym c.accepts.ensures ∙ c.if-accepts.true)
    (c.ticked-core.ensures ∙ ap ticked (c.taken.ensures ∙ ap (taken c.args.lines) (c.accepted.ensures c.args.panel.sheet refl))))

pub returns-then-before-ne0 : goal.returns-then-before-ne0
returns-then-before-ne0 c =
    rw c.stretch_of-then-before-ne0.ensures
    (owed_turn c.requires.0 (sym c.accepts.ensures ∙ c.if-accepts.false) c.if-before-ne0.true
    (c.ticked-core-then-before-ne0.ensures ∙ ap ticked (c.paid.ensures ∙ ap paid c.taken-then-before-ne0.ensures)))
