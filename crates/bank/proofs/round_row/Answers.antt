-- More than sixteen are refused; else the walked function is called. Assumes nothing.
use mathlib.Core.Path.{refl}
use borrow.Author.Tests.{lt-leb, le-leb}
use Rattle.panels.specs.Courses.{begin_of}
use Rattle.bank.specs.Row.{row_answer}
use Rattle.bank.proofs.round_row.Goals as goal

pub returns-then-count-gt-MOST_PANELS : goal.returns-then-count-gt-MOST_PANELS
unfolding row_answer begin_of
returns-then-count-gt-MOST_PANELS c = rw (c.begin-refused.ensures, lt-leb _ _ c.if-count-gt-MOST_PANELS.true) (refl, (refl, refl))

pub returns : goal.returns
unfolding row_answer
returns c = rw (le-leb _ _ c.if-count-gt-MOST_PANELS.false) c.kept_round.ensures
