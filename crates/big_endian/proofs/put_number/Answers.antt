-- One byte more, before those that are put. Assumes nothing.
use Rattle.big_endian.proofs.Numbers.{rest_next, put_next}
use Rattle.big_endian.proofs.put_number.Goals as goal

pub loop-k-preserved : goal.loop-k-preserved
loop-k-preserved g c =
    let a = c.args in
    let l = c.loop-k in (
      rest_next a.n l.k l.invariant.0,
      put_next g.row.N l.k a.n a.bytes.now c.loop-k-test.true c.requires l.invariant.0 l.invariant.1,
    )
