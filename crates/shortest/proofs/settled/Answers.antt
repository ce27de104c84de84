-- No record, or the last one not later. Assumes nothing.
use borrow.Author.Tests.{leb-true}
use Rattle.shortest.proofs.Watching.{settled_none, settled_by_last}
use Rattle.shortest.proofs.settled.Goals as goal

pub returns-then-count-eq0 : goal.returns-then-count-eq0
returns-then-count-eq0 c = λ e. settled_none _ _ c.if-count-eq0.true

pub returns : goal.returns
returns c = λ e. settled_by_last _ _ _ c.if-count-eq0.false c.number_at-last.ensures.0 (leb-true _ _ e)
