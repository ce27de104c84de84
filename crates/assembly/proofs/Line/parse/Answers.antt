-- The words in front of the colon, and behind it. Assumes nothing.
use mathlib.Core.Path.{◌≡◌, ◌∙◌, sym, ap}
use mathlib.Core.Bool.{not}
use mathlib.Core.List.{List, []}
use Prim.Native.Nat.{ℕ}
use lib.ListN.{length}
use borrow.Author.Tests.{eqb-true, eqb-false}
use Rattle.std.proofs.lemmas.List.{nil_from_length}
use Rattle.assembly.specs.Grammar as grammar
use Rattle.assembly.specs.Grammar.{first_word, behind, parsed}
use Rattle.assembly.specs.Places.{has_more}
use Rattle.assembly.proofs.Parts.{parsed_by, more_front, more_back}
use Rattle.assembly.proofs.Line.parse.Goals as goal
use Rattle.assembly.proofs.Line.parse.Goals.{then-not-is_empty, else-not-is_empty}

pub returns-then-is_empty : goal.returns-then-is_empty
unfolding parsed grammar.onwards grammar.before
returns-then-is_empty c =
    let line = c.args.line.now in
    let none : line ≡ [] = nil_from_length line (eqb-true (length line) 0 (sym c.is_empty.ensures ∙ c.if-is_empty.true)) in
    record {
      label = none ∙ ap (λ (l : List ℕ). (parsed l).label) (sym none);
      word = none ∙ ap (λ (l : List ℕ). (parsed l).word) (sym none);
      operand = none ∙ ap (λ (l : List ℕ). (parsed l).operand) (sym none);
      more = ap (λ (l : List ℕ). has_more (parsed l)) (sym none);
    }

pub returns : goal.returns
returns c =
    let line = c.args.line.now in
    let parts = parsed_by line in
    let past_word = c.first_word-2.ensures.1 ∙ ap behind c.halves.ensures.1 in
    let front = c.first_word-4.ensures.0 ∙ ap first_word (c.first_word.ensures.1 ∙ ap behind c.halves.ensures.0) in
    record {
      label = c.first_word.ensures.0 ∙ ap first_word c.halves.ensures.0 ∙ sym (ap (λ (l : grammar.Line). l.label) parts);
      word = c.first_word-2.ensures.0 ∙ ap first_word c.halves.ensures.1 ∙ sym (ap (λ (l : grammar.Line). l.word) parts);
      operand = c.first_word-3.ensures.0 ∙ ap first_word past_word ∙ sym (ap (λ (l : grammar.Line). l.operand) parts);
      more = elim c.if-not-is_empty.branch [
        | then-not-is_empty w ↦
            w.has_more-is ∙ ap not w.if-not-is_empty.true
            ∙ more_front line front (eqb-false (length c.first_word-4.result.0.now) 0 (sym c.is_empty-2.ensures ∙ w.if-not-is_empty.true))
        | else-not-is_empty w ↦
            let back = w.first_word-else-not-is_empty.ensures.0 ∙ ap first_word (c.first_word-3.ensures.1 ∙ ap behind past_word) in
            w.has_more-is ∙ ap not w.is_empty-else-not-is_empty.ensures
            ∙ more_back line front (eqb-true (length c.first_word-4.result.0.now) 0 (sym c.is_empty-2.ensures ∙ w.if-not-is_empty.false)) back
      ];
    }
