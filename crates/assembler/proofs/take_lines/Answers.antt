-- The lines passed leave the ROM so far; the rest is still to be taken. Assumes nothing.
use mathlib.Core.Path.{◌≡◌, ◌∙◌, refl, sym, ap}
use mathlib.Core.List.{List, []}
use Prim.Native.Nat.{ℕ, ◌+◌}
use native.Mathlib.Omega.{arith}
use lib.ListN.{length, drop}
use borrow.Author.Rules.{rules}
use Rattle.std.proofs.Common.{tests, of_calls}
use Rattle.std.specs.List.{slice_split, enumerate_from}
use Rattle.std.proofs.lemmas.Iterator.{YieldsList}
use Rattle.std.proofs.lemmas.Iterator.Consumers.{YieldsList-at, YieldsList-from_enumerate, YieldsList-turn, YieldsList-end}
use Rattle.std.proofs.lemmas.Iterator.Splits.{YieldsList-from_slice_split}
use Rattle.std.proofs.lemmas.List.{length_push}
use Rattle.assembly.specs.Grammar.{is_newline, parsed, parsed_all}
use Rattle.assembly.specs.Assembling.{assembled_from}
use Rattle.assembly.specs.Places.{mistake_number}
use Rattle.assembler.specs.Answers.{lines_found, state_of}
use Rattle.assembler.proofs.Lines.{split_is, numbered_turn, numbered_length, parsed_next, parsed_end}
use Rattle.assembler.proofs.Numbers.{number_some}
use Rattle.assembler.proofs.Puts.{starting, answered, line_good, line_fails, lines_done}
use Rattle.assembler.proofs.take_lines.Given as given
use Rattle.assembler.proofs.take_lines.Goals as goal

pub loop-index-init : goal.loop-index-init
loop-index-init c =
    let text = c.args.text.now in (
      search of_calls,
      search of_calls,
      refl,
      ap (λ (ls : List (List ℕ)). assembled_from (lines_found text) 1 (starting c.args.cells.now) (parsed_all ls)) (split_is text),
    )

pub returns-in-Err : goal.returns-in-Err
returns-in-Err c =
    let text = c.args.text.now in
    let all = slice_split is_newline text in
    let road : YieldsList (given.iterator-loop-index).next_gives (λ p. (p.0, p.1.now)) c.into_iter-index-iterator.result (enumerate_from 0 all)
    = YieldsList-at c.into_iter-index-iterator.ensures.into_iter_gives
    (YieldsList-from_enumerate
    (YieldsList-at c.enumerate-index-items.ensures.source
    (YieldsList-from_slice_split _ is_newline text c.split.ensures.rest c.split.ensures.done c.split.ensures.closure (λ x b q k. search (rules, tests))))
    c.enumerate-index-items.ensures.count) in
    let turn = YieldsList-turn road c.loop-index.yielded _ c.loop-index.yielded_by _ _ (c.in-Some.index, c.in-Some.part) c.in-Some.is c.next.ensures.steps in
    let k = length c.loop-index.yielded in
    let part = c.in-Some.part.now in
    let here = numbered_turn 0 all k (c.in-Some.index, part) turn.0 turn.1 in
    let lines = lines_found text in
    let s = state_of c.loop-index.place c.loop-index.cells in
    let number : c.in-Some.index + 1 ≡ k + 1 = omega (arith, here.0) in
    ap (λ (n : ℕ). answered (mistake_number c.in-Err.mistake) n []) number
    ∙ line_fails lines (k + 1) s (parsed part) (parsed_all (drop (k + 1) all)) c.in-Err.ensures (number_some c.in-Err.mistake)
    ∙ sym (ap (assembled_from lines (k + 1) s) (parsed_next here.1)) ∙ c.loop-index.invariant.3

pub loop-index-preserved : goal.loop-index-preserved
loop-index-preserved c =
    let text = c.args.text.now in
    let all = slice_split is_newline text in
    let road : YieldsList (given.iterator-loop-index).next_gives (λ p. (p.0, p.1.now)) c.into_iter-index-iterator.result (enumerate_from 0 all)
    = YieldsList-at c.into_iter-index-iterator.ensures.into_iter_gives
    (YieldsList-from_enumerate
    (YieldsList-at c.enumerate-index-items.ensures.source
    (YieldsList-from_slice_split _ is_newline text c.split.ensures.rest c.split.ensures.done c.split.ensures.closure (λ x b q k. search (rules, tests))))
    c.enumerate-index-items.ensures.count) in
    let turn = YieldsList-turn road c.loop-index.yielded _ c.loop-index.yielded_by _ _ (c.in-Some.index, c.in-Some.part) c.in-Some.is c.next.ensures.steps in
    let k = length c.loop-index.yielded in
    let part = c.in-Some.part.now in
    let here = numbered_turn 0 all k (c.in-Some.index, part) turn.0 turn.1 in
    let lines = lines_found text in
    let s = state_of c.loop-index.place c.loop-index.cells in
    let one_more = length_push c.loop-index.yielded (c.in-Some.index, c.in-Some.part) in (
      c.in-Some.ensures.goes.keeps,
      search of_calls,
      search rules,
      rw one_more
          (line_good lines (k + 1) s (parsed part) (parsed_all (drop (k + 1) all)) c.in-Ok.ensures.0 refl c.in-Ok.ensures.1
          ∙ sym (ap (assembled_from lines (k + 1) s) (parsed_next here.1)) ∙ c.loop-index.invariant.3),
    )

pub returns : goal.returns
returns c =
    let text = c.args.text.now in
    let all = slice_split is_newline text in
    let road : YieldsList (given.iterator-loop-index).next_gives (λ p. (p.0, p.1.now)) c.into_iter-index-iterator.result (enumerate_from 0 all)
    = YieldsList-at c.into_iter-index-iterator.ensures.into_iter_gives
    (YieldsList-from_enumerate
    (YieldsList-at c.enumerate-index-items.ensures.source
    (YieldsList-from_slice_split _ is_newline text c.split.ensures.rest c.split.ensures.done c.split.ensures.closure (λ x b q k. search (rules, tests))))
    c.enumerate-index-items.ensures.count) in
    let end = YieldsList-end road c.loop-index.yielded _ c.loop-index.yielded_by _ _ c.in-None.is c.next.ensures.steps in
    let k = length c.loop-index.yielded in
    let lines = lines_found text in
    let s = state_of c.loop-index.place c.loop-index.cells in
    lines_done lines (k + 1) s
    ∙ sym (ap (assembled_from lines (k + 1) s) (parsed_end all k (end.1 ∙ numbered_length 0 all))) ∙ c.loop-index.invariant.3
