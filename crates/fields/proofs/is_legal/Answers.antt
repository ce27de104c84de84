-- `is_legal` joins the tests of its definition. Assumes nothing.
use mathlib.Core.Bool.{and_assoc, and-true}
use Rattle.upd546.specs.TheSheet.{legal}
use Rattle.upd546.specs.Sequences.{all_of}
use Rattle.fields.proofs.is_legal.Goals as goal

pub returns : goal.returns
unfolding all_of legal
returns c = simp (and_assoc, and-true)
