-- `read` reads record by record: the loop has passed so many records, and c is what is carried after them. Assumes nothing.
use Rattle.waiting.proofs.Progress.{ReadTo}
use Rattle.waiting.proofs.read.Given as goal

abbrev pub invariant-loop-bytes : goal.invariant-loop-bytes
invariant-loop-bytes l = ReadTo l.fn.log l.fn.carried l.bytes-index l.c
