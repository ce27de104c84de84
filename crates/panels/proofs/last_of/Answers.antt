-- The counts and the number of a run. Assumes nothing.
use mathlib.Core.Path.{refl}
use Rattle.panels.specs.Round.{last_of}
use Rattle.panels.proofs.Cuts.{end_number_lem}
use Rattle.panels.proofs.last_of.Goals as goal

pub returns : goal.returns
unfolding last_of
returns c = λ log. rw (c.end_number.ensures, end_number_lem c.args.a.end) refl
