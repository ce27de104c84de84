-- The front, the latches, the RAM and the cycle number. Assumes nothing.
use Rattle.upd546.specs.Bytes.{bytes_of}
use Rattle.laws.proofs.Tails.{put_front}
use Rattle.save.proofs.Writing.{common_written}
use Rattle.save.proofs.write_common.Goals as goal

pub returns : goal.returns
returns c =
    let s = c.args.s in
    common_written c.args.version s c.requires.0 c.args.buffer.now c.write_core.ensures
    c.put.ensures (rw c.ram_bytes.ensures at c.put-2.ensures)
    (put_front 75 c.put-2.new.buffer (bytes_of 6 s.cycle.0) c.put_number.ensures)
