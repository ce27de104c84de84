-- A refusal, or the report. Assumes nothing.
use Rattle.text.proofs.Writing.{told}
use Rattle.waits_text.proofs.Texts.{refused-reading, accepted-reading, reported}
use Rattle.waits_text.proofs.waits.Goals as goal

pub returns-then-reading-ne0 : goal.returns-then-reading-ne0
returns-then-reading-ne0 c =
    let t = c.new-text.ensures in
    reported t.same_bytes t.empty (told (refused-reading _ c.if-reading-ne0.true) c.push_refused.ensures) c.len.ensures

pub returns : goal.returns
returns c =
    let t = c.new-text.ensures in
    reported t.same_bytes t.empty (told (accepted-reading _ c.if-reading-ne0.false) c.put_report.ensures) c.len-2.ensures
