-- `all_below` joins the tests of the entries passed; joined with those to come they are the test of all. Assumes nothing.
use mathlib.Core.Path.{◌≡◌}
use mathlib.Core.Bool.{◌&&◌}
use lib.ListN.{drop}
use Rattle.upd546.specs.Sequences.{all_below}
use Rattle.fields.proofs.all_below.Given as goal

abbrev pub invariant-loop-entry : goal.invariant-loop-entry
invariant-loop-entry l = (l.below && all_below l.bound (drop l.entry-index l.entries)) ≡ all_below l.bound l.entries
