-- The lines passed have another label. Assumes nothing.
use mathlib.Core.Path.{◌≡◌, ◌∙◌, refl, sym, ap, ap₂}
use mathlib.Core.Bool.{true, false}
use mathlib.Core.List.{List}
use Prim.Native.Nat.{ℕ, ◌+◌, ◌-◌}
use native.Mathlib.Omega.{arith}
use lib.ListN.{length, drop}
use Rattle.std.proofs.Common.{rules, tests, of_calls}
use Rattle.std.specs.List.{slice_split}
use Rattle.std.proofs.lemmas.Iterator.{YieldsList}
use Rattle.std.proofs.lemmas.Iterator.Consumers.{YieldsList-at, YieldsList-turn, YieldsList-end}
use Rattle.std.proofs.lemmas.Iterator.Splits.{YieldsList-from_slice_split}
use Rattle.std.proofs.lemmas.List.{length_push}
use Rattle.upd546.specs.Sequences.{same_numbers}
use Rattle.assembly.specs.Grammar.{is_newline, parsed, parsed_all}
use Rattle.assembly.specs.Assembling.{place_from, action_for, moved_by, moved}
use Rattle.assembly.proofs.Words.{text_told}
use Rattle.assembler.proofs.Lines.{split_is, reach, reach_next, reach_split, reach_drop, turn_is, parsed_next, parsed_end, place_here, place_on, place_end, moved_most}
use Rattle.assembler.proofs.place_of.Given as given
use Rattle.assembler.proofs.place_of.Goals as goal

pub loop-part-init : goal.loop-part-init
loop-part-init c =
    (search of_calls, tt, omega arith, ap (λ (ls : List (List ℕ)). place_from c.args.name.now 0 (parsed_all ls)) (split_is c.args.text.now))

pub returns-then-eq : goal.returns-then-eq
returns-then-eq c =
    let text = c.args.text.now in
    let name = c.args.name.now in
    let all = slice_split is_newline text in
    let road : YieldsList (given.iterator-loop-part).next_gives (λ x. x.now) c.into_iter-part-iterator.result all = YieldsList-at c.into_iter-part-iterator.ensures.into_iter_gives
    (YieldsList-from_slice_split _ is_newline text c.split-part-items.ensures.rest c.split-part-items.ensures.done c.split-part-items.ensures.closure (λ x b q k. search (rules, tests))) in
    let turn = YieldsList-turn road c.loop-part.yielded _ c.loop-part.yielded_by _ _ c.in-Some.part c.in-Some.is c.next.ensures.steps in
    let here = turn_is all (length c.loop-part.yielded) c.in-Some.part.now turn.0 turn.1 in
    let at = c.loop-part.at in
    let line = parsed c.in-Some.part.now in
    let same : same_numbers line.label name ≡ true
    = ap (λ (l : List ℕ). same_numbers l name) (sym c.parse-line.ensures.label) ∙ text_told c.parse-line.result.label.now c.eq.ensures refl ∙ c.if-eq.true in
    place_here name at line (parsed_all (drop (length c.loop-part.yielded + 1) all)) same
    ∙ sym (ap (place_from name at) (parsed_next here)) ∙ c.loop-part.invariant.3

pub moved-at-requires : goal.moved-at-requires
moved-at-requires c =
    let text = c.args.text.now in
    let all = slice_split is_newline text in
    let road : YieldsList (given.iterator-loop-part).next_gives (λ x. x.now) c.into_iter-part-iterator.result all = YieldsList-at c.into_iter-part-iterator.ensures.into_iter_gives
    (YieldsList-from_slice_split _ is_newline text c.split-part-items.ensures.rest c.split-part-items.ensures.done c.split-part-items.ensures.closure (λ x b q k. search (rules, tests))) in
    let turn = YieldsList-turn road c.loop-part.yielded _ c.loop-part.yielded_by _ _ c.in-Some.part c.in-Some.is c.next.ensures.steps in
    let here = turn_is all (length c.loop-part.yielded) c.in-Some.part.now turn.0 turn.1 in
    omega (arith, c.loop-part.invariant.2, reach_next here, reach_split text)

pub loop-part-preserved : goal.loop-part-preserved
loop-part-preserved c =
    let text = c.args.text.now in
    let name = c.args.name.now in
    let all = slice_split is_newline text in
    let road : YieldsList (given.iterator-loop-part).next_gives (λ x. x.now) c.into_iter-part-iterator.result all = YieldsList-at c.into_iter-part-iterator.ensures.into_iter_gives
    (YieldsList-from_slice_split _ is_newline text c.split-part-items.ensures.rest c.split-part-items.ensures.done c.split-part-items.ensures.closure (λ x b q k. search (rules, tests))) in
    let turn = YieldsList-turn road c.loop-part.yielded _ c.loop-part.yielded_by _ _ c.in-Some.part c.in-Some.is c.next.ensures.steps in
    let here = turn_is all (length c.loop-part.yielded) c.in-Some.part.now turn.0 turn.1 in
    let k = length c.loop-part.yielded in
    let at = c.loop-part.at in
    let part = c.in-Some.part.now in
    let line = parsed part in
    let other : same_numbers line.label name ≡ false
    = ap (λ (l : List ℕ). same_numbers l name) (sym c.parse-line.ensures.label) ∙ text_told c.parse-line.result.label.now c.eq.ensures refl ∙ c.if-eq.false in
    let behind : c.moved-at.result ≡ moved line at
    = c.moved-at.ensures ∙ ap₂ (λ (w o : List ℕ). moved_by (action_for w) o at) c.parse-line.ensures.word c.parse-line.ensures.operand in
    let before = reach all - reach (drop k all) in
    let most = moved_most part at before (omega (arith, c.loop-part.invariant.2, reach_drop k all)) in
    let one_more = length_push c.loop-part.yielded c.in-Some.part in (
      c.in-Some.ensures.goes.keeps,
      tt,
      rw one_more (omega (arith, behind, most, reach_next here, reach_drop k all)),
      rw one_more
          (ap (λ (i : ℕ). place_from name i (parsed_all (drop (k + 1) all))) behind ∙ place_on name at line (parsed_all (drop (k + 1) all)) other
          ∙ sym (ap (place_from name at) (parsed_next here)) ∙ c.loop-part.invariant.3),
    )

pub returns : goal.returns
returns c =
    let text = c.args.text.now in
    let name = c.args.name.now in
    let all = slice_split is_newline text in
    let road : YieldsList (given.iterator-loop-part).next_gives (λ x. x.now) c.into_iter-part-iterator.result all = YieldsList-at c.into_iter-part-iterator.ensures.into_iter_gives
    (YieldsList-from_slice_split _ is_newline text c.split-part-items.ensures.rest c.split-part-items.ensures.done c.split-part-items.ensures.closure (λ x b q k. search (rules, tests))) in
    let end = YieldsList-end road c.loop-part.yielded _ c.loop-part.yielded_by _ _ c.in-None.is c.next.ensures.steps in
    place_end name c.loop-part.at
    ∙ sym (ap (place_from name c.loop-part.at) (parsed_end all (length c.loop-part.yielded) end.1)) ∙ c.loop-part.invariant.3
