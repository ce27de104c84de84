-- `start` gives a cursor that stands at its cycle. Assumes nothing.
use native.Mathlib.Omega.{arith}
use Rattle.schedule.proofs.Standing.{stands}
use Rattle.schedule.proofs.start.Goals as goal

pub returns : goal.returns
returns c =
    let a = c.args in
    stands a.sched.now c.requires a.n.0 _ (omega arith) c.records_until-index.ensures c.next_at-next.ensures c.lines_after-lines.ensures
