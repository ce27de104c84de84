-- Five parts, one behind the other. Assumes nothing.
use Rattle.save.proofs.Writing.{word_written, front_written}
use Rattle.save.proofs.write_core.Goals as goal

pub returns : goal.returns
returns c =
    front_written c.args.version c.args.c c.requires.0 c.args.buffer.now c.put.ensures
    (rw c.version_bytes.ensures at c.put-2.ensures)
    (rw (word_written _ c.to_be_bytes.ensures) at c.put-3.ensures)
    (rw c.stack_bytes.ensures at c.put-4.ensures)
    (rw c.core_bytes.ensures at c.put-5.ensures)
