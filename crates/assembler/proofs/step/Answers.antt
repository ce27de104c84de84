-- Text behind, the label, and then the statement. Assumes nothing.
use mathlib.Core.Path.{◌≡◌, ◌∙◌, sym, ap, ap₂, subst}
use mathlib.Core.List.{List, []}
use Prim.Native.Nat.{ℕ}
use lib.ListN.{length}
use borrow.Author.Tests.{eqb-true}
use Rattle.std.proofs.lemmas.List.{nil_from_length}
use Rattle.std.proofs.lemmas.Result.{err_from_is_err_and}
use Rattle.assembly.specs.Grammar.{before, onwards, parsed}
use Rattle.assembly.specs.Assembling.{Step, labelled, action_for, done_by, step}
use Rattle.assembler.specs.Answers.{lines_found, state_of, StepIs}
use Rattle.assembler.proofs.Numbers.{number_some}
use Rattle.assembler.proofs.Puts.{step_more, step_label, step_same}
use Rattle.assembler.proofs.step.Goals as goal

pub returns-then-is_empty : goal.returns-then-is_empty
unfolding step parsed before onwards action_for
returns-then-is_empty c =
    let a = c.args in
    let part = a.part.now in
    let lines = lines_found a.text.now in
    let s = state_of a.place a.cells.now in
    let none : part ≡ [] = nil_from_length part (eqb-true (length part) 0 (sym c.is_empty.ensures ∙ c.if-is_empty.true)) in
    (ap (λ (l : List ℕ). (step lines s (parsed l)).mistake) (sym none), ap (λ (l : List ℕ). (step lines s (parsed l)).state) (sym none))

pub returns-then-line : goal.returns-then-line
returns-then-line c =
    let a = c.args in
    step_more (lines_found a.text.now) (state_of a.place a.cells.now) (parsed a.part.now) (sym c.parse-line.ensures.more ∙ c.if-line.true)

pub returns-in_err-labelled : goal.returns-in_err-labelled
returns-in_err-labelled c =
    let a = c.args in
    let lines = lines_found a.text.now in
    let p = err_from_is_err_and c.from_residual.result c.from_residual.ensures.1 in
    let m = c.in_err-labelled.field-0.0 in
    let wrong = c.in_err-labelled.ensures ∙ ap (λ (l : List ℕ). labelled lines l a.place.at) c.parse-line.ensures.label in
    rw (p.1, p.2)
    (step_label lines (state_of a.place a.cells.now) (parsed a.part.now) (sym c.parse-line.ensures.more ∙ c.if-line.false) wrong (number_some m))

pub returns : goal.returns
returns c =
    let a = c.args in
    let lines = lines_found a.text.now in
    let s = state_of a.place a.cells.now in
    let right = c.in_ok-labelled.ensures ∙ ap (λ (l : List ℕ). labelled lines l a.place.at) c.parse-line.ensures.label in
    let same = ap₂ (λ (w o : List ℕ). done_by (action_for w) lines o s) c.parse-line.ensures.word c.parse-line.ensures.operand in
    subst (λ (d : Step). StepIs c.done.result c.done.new.cells d)
    (same ∙ step_same lines s (parsed a.part.now) (sym c.parse-line.ensures.more ∙ c.if-line.false) right) c.done.ensures
