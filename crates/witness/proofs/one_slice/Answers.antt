-- A run, a save and a restore, by their contracts. Assumes nothing.
use borrow.Author.Rules.{rules}
use Rattle.witness.proofs.Day.{slice_of}
use Rattle.witness.proofs.one_slice.Goals as goal

pub returns : goal.returns
returns c =
    let a = c.args in
    slice_of a.sheet _ a.log.now _ a.at c.advance_from-answer.result.report c.advance_from-answer.result.machine
    c.save-saved.result _ c.restore-back.result c.advance_from-answer.ensures (search rules) c.save-saved.ensures
    c.restore-back.ensures c.advance_from-answer.auto.log
