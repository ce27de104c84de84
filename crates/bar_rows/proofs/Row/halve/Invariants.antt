-- No wait is lost. Assumes nothing.
use Rattle.bar_rows.specs.Rows.{HasMore}
use Rattle.bar_rows.proofs.Row.halve.Given as goal

abbrev pub invariant-loop : goal.invariant-loop
invariant-loop l = HasMore 0 l.fn.self l.self
