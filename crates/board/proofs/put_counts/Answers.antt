-- Four counts, one behind the other. Assumes nothing.
use Rattle.board.proofs.Counts.{counts_written}
use Rattle.board.proofs.put_counts.Goals as goal

pub returns : goal.returns
returns c =
    let a = c.args in
    counts_written a.cycles.0 a.begun a.written a.steps a.report.now c.put_count.ensures c.put_count-2.ensures
    c.put_count-3.ensures c.put_count-4.ensures
