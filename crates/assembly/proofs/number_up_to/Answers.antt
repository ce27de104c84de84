-- An operand that is there, or none. Assumes nothing.
use mathlib.Core.Path.{◌∙◌, sym, ap}
use lib.ListN.{length}
use borrow.Author.Tests.{eqb-true, eqb-false}
use Rattle.std.proofs.lemmas.Result.{err_from_is_err_and}
use Rattle.assembly.specs.Places.{mistake_number}
use Rattle.assembly.specs.Assembling.{limited}
use Rattle.assembly.proofs.Words.{operand_there, operand_none, operand_wrong}
use Rattle.assembly.proofs.number_up_to.Goals as goal

pub returns-then-is_empty : goal.returns-then-is_empty
returns-then-is_empty c =
    let a = c.args in
    (operand_none a.limit a.operand.now (eqb-true (length a.operand.now) 0 (sym c.is_empty.ensures ∙ c.if-is_empty.true)), tt)

pub returns-in_err-hexadecimal : goal.returns-in_err-hexadecimal
returns-in_err-hexadecimal c =
    let a = c.args in
    let some = eqb-false (length a.operand.now) 0 (sym c.is_empty.ensures ∙ c.if-is_empty.false) in
    let p = err_from_is_err_and c.from_residual.result c.from_residual.ensures.1 in
    rw (p.1, p.2) (operand_wrong a.limit (mistake_number c.in_err-hexadecimal.field-0.0) a.operand.now some c.in_err-hexadecimal.ensures, tt)

pub returns : goal.returns
returns c =
    let a = c.args in
    let some = eqb-false (length a.operand.now) 0 (sym c.is_empty.ensures ∙ c.if-is_empty.false) in
    (c.limited.ensures.0 ∙ ap (limited a.limit) c.in_ok-hexadecimal.ensures ∙ operand_there a.limit a.operand.now some, c.limited.ensures.1)
