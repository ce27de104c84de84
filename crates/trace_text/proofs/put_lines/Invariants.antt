-- After i turns the lines of the first i records stand there. Assumes nothing.
use Rattle.std.proofs.Common.{◌+◌, ◌*◌, ◌≤◌}
use Rattle.upd546.specs.Reports.{records_text}
use Rattle.text.specs.Writing.{Pushed}
use Rattle.trace_text.proofs.put_lines.Given as goal

abbrev pub invariant-loop-bytes : goal.invariant-loop-bytes
invariant-loop-bytes l = Pushed l.fn.text (records_text l.log l.bytes-index) l.text × (l.text.size ≤ l.fn.text.size + 25 * l.bytes-index)
