-- After STM the timer stands; else it is brought forward. Assumes nothing.
use mathlib.Core.Path.{◌∙◌, sym, ap}
use Rattle.upd546.specs.Parts.{with_timer}
use Rattle.laws.proofs.Burst.{forward-on, forward-stm}
use Rattle.burst.proofs.brought_forward.Goals as goal

pub returns-then-c-eq-MARK_STM : goal.returns-then-c-eq-MARK_STM
returns-then-c-eq-MARK_STM c =
    let a = c.args in
    sym (forward-stm a.cycles a.c c.if-c-eq-MARK_STM.true)

pub returns : goal.returns
returns c =
    let a = c.args in
    ap (with_timer a.c) c.timer_after-after.ensures ∙ sym (forward-on a.cycles a.c c.if-c-eq-MARK_STM.false)
