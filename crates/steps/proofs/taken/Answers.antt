-- A fall of INT, and none. Assumes nothing.
use borrow.Author.Tests.{lt-ltb, le-ltb}
use Rattle.upd546.specs.OneMachineCycle.{taken as taken_of}
use Rattle.steps.proofs.taken.Goals as goal

pub returns-then-l-c : goal.returns-then-l-c
unfolding taken_of
returns-then-l-c c = rw (lt-ltb _ _ c.if-l-c.true)

pub returns : goal.returns
unfolding taken_of
returns c = rw (le-ltb _ _ c.if-l-c.false)
