-- A panel after its run. Assumes nothing.
use mathlib.Core.Path.{refl}
use Rattle.panels.specs.Round.{panel_after}
use Rattle.panels.proofs.kept.Goals as goal

pub returns : goal.returns
unfolding panel_after
returns c = λ log. rw (c.last_of.ensures log) refl
