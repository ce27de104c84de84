-- The heading, the lines and the end. Assumes nothing.
use Rattle.text.proofs.Writing.{then}
use Rattle.trace_text.proofs.put_report.Goals as goal

pub returns : goal.returns
returns c = then (then c.push.ensures c.put_lines.ensures.0) c.put_end.ensures
