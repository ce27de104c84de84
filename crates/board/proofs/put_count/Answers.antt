-- A number's bytes, put into the part from a place on. Assumes nothing.
use Rattle.upd546.specs.Bytes.{bytes_of}
use Rattle.laws.proofs.Tails.{put_front}
use Rattle.board.proofs.put_count.Goals as goal

pub returns : goal.returns
returns c =
    let a = c.args in
    put_front a.at a.report.now (bytes_of 8 a.n) c.put_number.ensures
