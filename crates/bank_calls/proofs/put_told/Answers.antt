-- The report from its place on, and the number behind it. Assumes nothing.
use Rattle.laws.proofs.Tails.{put_front}
use Rattle.bank_calls.specs.Entries.{report_at}
use Rattle.bank_calls.proofs.Told.{told_put}
use Rattle.bank_calls.proofs.put_told.Goals as goal

pub returns : goal.returns
returns c =
    let a = c.args in
    told_put a.entry.now a.report.now a.number c.requires.0 c.requires.1 (put_front report_at a.entry.now a.report.now c.copy.ensures)
