-- A number, or a label. Assumes nothing.
use mathlib.Core.Path.{◌∙◌, sym, ap}
use lib.ListN.{length, get_or}
use borrow.Author.Tests.{eqb-true, eqb-false}
use Rattle.std.proofs.lemmas.Result.{err_from_is_err_and}
use Rattle.assembly.specs.Assembling.{last_address, limited}
use Rattle.assembly.specs.Places.{mistake_number}
use Rattle.assembly.proofs.Words.{operand_there}
use Rattle.assembler.specs.Answers.{lines_found}
use Rattle.assembler.proofs.Numbers.{digit_is, limited_wrong, address-none, address-number, address-label}
use Rattle.assembler.proofs.address_of.Goals as goal

pub returns-then-is_empty : goal.returns-then-is_empty
returns-then-is_empty c =
    let a = c.args in
    (address-none (lines_found a.text.now) a.operand.now (eqb-true (length a.operand.now) 0 (sym c.is_empty.ensures ∙ c.if-is_empty.true)), tt)

pub returns-then-is_ascii_digit : goal.returns-then-is_ascii_digit
returns-then-is_ascii_digit c =
    let a = c.args in
    let l = a.operand.now in
    let some = eqb-false (length l) 0 (sym c.is_empty.ensures ∙ c.if-is_empty.false) in
    let digit = sym (digit_is (get_or l 0 0)) ∙ sym c.is_ascii_digit.ensures.value ∙ c.if-is_ascii_digit.true in
    (c.number_up_to.ensures.0 ∙ sym (operand_there last_address l some) ∙ address-number (lines_found a.text.now) l some digit, c.number_up_to.ensures.1)

pub returns-in_err-place_of : goal.returns-in_err-place_of
returns-in_err-place_of c =
    let a = c.args in
    let l = a.operand.now in
    let some = eqb-false (length l) 0 (sym c.is_empty.ensures ∙ c.if-is_empty.false) in
    let other = sym (digit_is (get_or l 0 0)) ∙ sym c.is_ascii_digit.ensures.value ∙ c.if-is_ascii_digit.false in
    let p = err_from_is_err_and c.from_residual.result c.from_residual.ensures.1 in
    let wrong = sym (limited_wrong last_address (mistake_number c.in_err-place_of.field-0.0)) ∙ ap (limited last_address) c.in_err-place_of.ensures in
    rw (p.1, p.2) (wrong ∙ address-label (lines_found a.text.now) l some other, tt)

pub returns : goal.returns
returns c =
    let a = c.args in
    let l = a.operand.now in
    let some = eqb-false (length l) 0 (sym c.is_empty.ensures ∙ c.if-is_empty.false) in
    let other = sym (digit_is (get_or l 0 0)) ∙ sym c.is_ascii_digit.ensures.value ∙ c.if-is_ascii_digit.false in
    (c.limited.ensures.0 ∙ ap (limited last_address) c.in_ok-place_of.ensures ∙ address-label (lines_found a.text.now) l some other, c.limited.ensures.1)
