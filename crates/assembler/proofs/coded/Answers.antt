-- An operand, its bytes, and the first mistake. Assumes nothing.
use mathlib.Core.Path.{◌≡◌, ◌∙◌, sym, ap, ap₂}
use mathlib.Core.Bool.{Bool, false, ◌&&◌}
use Prim.Native.Nat.{◌%◌}
use lib.Dec.{eqb}
use borrow.Author.Tests.{eq-eqb, ne_eqb}
use Rattle.mnemonics.specs.Mnemonics.{long_for}
use Rattle.std.proofs.lemmas.Result.{err_from_is_err_and}
use Rattle.mnemonics.specs.Kinds.{kind_by}
use Rattle.assembler.specs.Answers.{lines_found}
use Rattle.assembler.proofs.Numbers.{number_some, coded_value, coded_bytes, coded_good, coded_told}
use Rattle.assembler.proofs.coded.Goals as goal
use Rattle.assembler.proofs.coded.Goals.{else-is_long-via-then-is_long+else-at-eq255, else-is_long-via-else-is_long}

pub returns-in_err-value : goal.returns-in_err-value
returns-in_err-value c =
    let a = c.args in
    let p = err_from_is_err_and c.from_residual.result c.from_residual.ensures.1 in
    let m = c.in_err-value.field-0.0 in
    rw (p.1, p.2) (coded_value (kind_by a.kind) a.first (lines_found a.text.now) a.operand.now a.at (number_some m) c.in_err-value.ensures.0)

pub returns-in_err-bytes : goal.returns-in_err-bytes
returns-in_err-bytes c =
    let a = c.args in
    let p = err_from_is_err_and c.from_residual-in_err-bytes.result c.from_residual-in_err-bytes.ensures.1 in
    let m = c.in_err-bytes.field-0.0 in
    rw (p.1, p.2)
    (coded_bytes (kind_by a.kind) a.first (lines_found a.text.now) a.operand.now a.at c.in_ok-value.ensures.0 (number_some m) c.in_err-bytes.ensures)

pub returns-then-at-eq255 : goal.returns-then-at-eq255
returns-then-at-eq255 c =
    let a = c.args in
    let away = ap₂ (λ (l e : Bool). l && e) (sym c.is_long.ensures ∙ c.if-is_long.true) (eq-eqb (a.at % 256) 255 c.if-at-eq255.true) in
    coded_good (kind_by a.kind) a.first (lines_found a.text.now) a.operand.now a.at c.in_ok-value.ensures.0 c.in_ok-bytes.ensures.0 away

pub returns : goal.returns
returns c =
    let a = c.args in
    let kind = kind_by a.kind in
    let near : (long_for kind && eqb (a.at % 256) 255) ≡ false
    = elim c.else-is_long.branch [
      | else-is_long-via-then-is_long+else-at-eq255 w ↦
          ap₂ (λ (l e : Bool). l && e) (sym c.is_long.ensures ∙ w.if-is_long.true) (ne_eqb (a.at % 256) 255 w.if-at-eq255.false)
      | else-is_long-via-else-is_long w ↦ ap (λ (l : Bool). l && eqb (a.at % 256) 255) (sym c.is_long.ensures ∙ w.if-is_long.false)
    ] in (
      coded_good kind a.first (lines_found a.text.now) a.operand.now a.at c.in_ok-value.ensures.0 c.in_ok-bytes.ensures.0 near,
      coded_told kind a.first (lines_found a.text.now) a.operand.now a.at c.in_ok-value.ensures.0 c.in_ok-bytes.ensures.1,
    )
