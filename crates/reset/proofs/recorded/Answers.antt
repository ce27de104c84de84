-- No record where the count is at 4 before the cycle, else one. Assumes nothing.
use native.Mathlib.Omega.{arith}
use Rattle.upd546.specs.Ports.{reset_record, log_bytes}
use Rattle.laws.proofs.Tails.{put_front}
use Rattle.reset.proofs.Seeing.{records-one}
use Rattle.reset.proofs.recorded.Goals as goal

pub returns : goal.returns
returns c =
    let a = c.args in
    rw (records-one a.n a.count c.if-count-eq-RESET_COUNT.false) (omega arith, put_front a.at a.log.now (log_bytes a.n reset_record) c.put_reset.ensures)
