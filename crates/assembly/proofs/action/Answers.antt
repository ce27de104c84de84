-- One word after the other. Assumes nothing.
use mathlib.Core.Path.{◌∙◌, sym}
use lib.ListN.{length}
use borrow.Author.Tests.{eqb-true, eqb-false}
use Rattle.assembly.proofs.Words.{text_told, asks_nothing, asks_length, asks_address, asks_byte, asks_code}
use Rattle.assembly.proofs.action.Goals as goal

pub returns-then-is_empty : goal.returns-then-is_empty
returns-then-is_empty c =
    let word = c.args.word.now in
    asks_nothing word (eqb-true (length word) 0 (sym c.is_empty.ensures ∙ c.if-is_empty.true))

pub returns-then-eq : goal.returns-then-eq
returns-then-eq c =
    let word = c.args.word.now in
    let some = eqb-false (length word) 0 (sym c.is_empty.ensures ∙ c.if-is_empty.false) in
    asks_length word some (text_told word c.eq.ensures c.as_slice.ensures ∙ c.if-eq.true)

pub returns-then-eq-2 : goal.returns-then-eq-2
returns-then-eq-2 c =
    let word = c.args.word.now in
    let some = eqb-false (length word) 0 (sym c.is_empty.ensures ∙ c.if-is_empty.false) in
    asks_address word some (text_told word c.eq.ensures c.as_slice.ensures ∙ c.if-eq.false)
    (text_told word c.eq-2.ensures c.as_slice-2.ensures ∙ c.if-eq-2.true)

pub returns-then-eq-3 : goal.returns-then-eq-3
returns-then-eq-3 c =
    let word = c.args.word.now in
    let some = eqb-false (length word) 0 (sym c.is_empty.ensures ∙ c.if-is_empty.false) in
    asks_byte word some (text_told word c.eq.ensures c.as_slice.ensures ∙ c.if-eq.false)
    (text_told word c.eq-2.ensures c.as_slice-2.ensures ∙ c.if-eq-2.false) (text_told word c.eq-3.ensures c.as_slice-3.ensures ∙ c.if-eq-3.true)

pub returns : goal.returns
returns c =
    let word = c.args.word.now in
    let some = eqb-false (length word) 0 (sym c.is_empty.ensures ∙ c.if-is_empty.false) in
    c.code_for.ensures
    ∙ asks_code word some (text_told word c.eq.ensures c.as_slice.ensures ∙ c.if-eq.false)
    (text_told word c.eq-2.ensures c.as_slice-2.ensures ∙ c.if-eq-2.false) (text_told word c.eq-3.ensures c.as_slice-3.ensures ∙ c.if-eq-3.false)
