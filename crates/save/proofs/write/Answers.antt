-- What both versions have, and the count behind it where there is one. Assumes nothing.
use Rattle.save.proofs.Writing.{one_written, two_written}
use Rattle.save.proofs.write.Goals as goal

pub returns-in-Two : goal.returns-in-Two
returns-in-Two c =
    let two = c.in-Two.is in
    rw two
    (two_written c.args.s c.requires.0 c.args.buffer.now (rw two at c.write_common.ensures) c.put.ensures)

pub returns-in_default : goal.returns-in_default
returns-in_default c =
    let one = c.in_default.is in
    rw one (one_written c.args.s c.args.buffer.now (rw one at c.write_common.ensures))
