-- The timer steps unless the mark is STM. Assumes nothing.
use borrow.Author.Tests.{ne_eqb}
use Rattle.upd546.specs.OneMachineCycle.{ticked as tickedOf}
use Rattle.steps.proofs.ticked.Goals as goal

pub returns-then-c-eq-MARK_STM : goal.returns-then-c-eq-MARK_STM
unfolding tickedOf
returns-then-c-eq-MARK_STM c = rw c.if-c-eq-MARK_STM.true

pub returns : goal.returns
unfolding tickedOf
returns c = rw (c.tick-next.ensures, ne_eqb _ 3 c.if-c-eq-MARK_STM.false)
