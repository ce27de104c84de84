-- The letters passed are the value; the rest is still to be read. Assumes nothing.
use mathlib.Core.Path.{◌∙◌, refl, ap}
use Rattle.std.proofs.lemmas.Result.{err_from_is_err_and}
use Rattle.assembly.specs.declared.Mistake.{Mistake}
use Rattle.assembly.specs.Places.{mistake_number}
use Rattle.assembly.specs.Assembling.{good, wrong}
use Rattle.assembly.proofs.Words.{digit_on, digit_none, digit_end}
use Rattle.assembly.proofs.hexadecimal.Goals as goal

pub returns-in_err-digit : goal.returns-in_err-digit
returns-in_err-digit c =
    let l = c.loop-c in
    let p = err_from_is_err_and c.from_residual.result c.from_residual.ensures.1 in
    rw (p.1, p.2) (ap (λ (m : Mistake). wrong (mistake_number m)) c.in_err-digit.ensures.0
    ∙ digit_none c.args.text.now l.value l.c-index c.loop-c-test.true refl c.in_err-digit.ensures.1 ∙ l.invariant)

pub loop-c-preserved : goal.loop-c-preserved
loop-c-preserved c =
    let l = c.loop-c in
    digit_on c.args.text.now l.value l.c-index c.loop-c-test.true c.in_ok-digit.ensures.0 c.in_ok-digit.ensures.1 c.grown-value.ensures ∙ l.invariant

pub returns : goal.returns
returns c =
    let l = c.loop-c in
    ap good c.from.ensures ∙ digit_end c.args.text.now l.value l.c-index c.loop-c-test.false ∙ l.invariant
