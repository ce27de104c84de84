-- Neighbours are joined bar by bar; no wait is lost. Assumes nothing.
use Rattle.bar_rows.specs.declared.TheConstants.Joined.{NONE}
use Rattle.bar_rows.proofs.Rows.{Thinned}
use Rattle.bar_rows.proofs.Row.thin.Given as goal

abbrev pub invariant-loop-k : goal.invariant-loop-k
invariant-loop-k l = Thinned NONE l.fn.self l.k l.self
