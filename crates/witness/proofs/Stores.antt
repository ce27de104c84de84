-- Two names, one of them replaced, on a store with two places. Assumes nothing.
use mathlib.Core.Path.{◌≡◌, ◌∙◌, refl, sym, ap, subst}
use mathlib.Core.List.{List, [], ◌∷◌, ◌++◌, map}
use mathlib.Core.Bool.{true}
use native.Mathlib.Omega.{arith}
use mathlib.Core.Option.{none, some}
use Prim.Native.Nat.{ℕ}
use lib.ListN.{take, drop, get_or, replicate}
use Rattle.runs.specs.declared.Version.TheVariants.{Two}
use Rattle.runs.specs.Refusals.{first_of}
use Rattle.runs.specs.TwoRunners.{current_number, save_number, save_answer, restore_answer}
use Rattle.runs.specs.Lists.{Each, run_answer, WrittenBy}
use Rattle.upd546.specs.declared.Sheet.{Sheet}
use Rattle.upd546.specs.Sequences.{all_of}
use Rattle.upd546.specs.TheSheet.{legal, sheet_number, row_exists, upd546_sheet}
use Rattle.upd546.specs.StateImage.{image_of, of_image, image_number, state_number, version_number, fields_number, state_sound, fields_sound, absent_zero}
use Rattle.upd546.specs.StateImage.{core_sound, registers_sound, flow_sound, interrupt_sound, timer_sound, ports_sound, ram_sound}
use Rattle.upd546.specs.TwoRunners.{chip}
use Rattle.upd546.specs.Bytes.{part}
use Rattle.store.specs.Entries.{kept, accepted, well_formed}
use Rattle.store.specs.Answers.{StoreAnswer, place_in, judged_number, store_number, store_answer, recall_number, recall_answer}
use Rattle.keeping.specs.Lists.{Call, keep, recall, sheet_of, Meant, empty_store, refusal, not_refused, last, last_stored, first_stored, entries_after, laid_out, HandsBackTheLast, KeepsTheOthers, ChangesNothing, NextCalls, KeepsTheLast}
use Rattle.witness.specs.Stores.{lobby, rush, late, held, held_image, fresh_image, requests, calls, two, replaced, RushHour}
use Rattle.keeping.proofs.Lists.{sieve, sieved}
use Rattle.keeping.proofs.Chip.{every_list_keeps_the_last, every_list_on_one_store, every_sheet_refuses_first, every_malformed_image_refuses_before_room}

written : WrittenBy (chip upd546_sheet) held held_image
unfolding save_answer save_number state_number version_number first_of all_of state_sound fields_sound absent_zero core_sound registers_sound flow_sound interrupt_sound timer_sound ports_sound ram_sound image_of sheet_number legal row_exists
written = record { version = Two; buffer = replicate 82 0; done = refl; same = refl }

abbrev numbers : List ℕ
numbers = 0 ∷ 0 ∷ 53 ∷ 51 ∷ 52 ∷ 0 ∷ 0 ∷ 0 ∷ []

refused_by : map (refusal chip) calls ≡ numbers
unfolding calls store_answer store_number recall_answer recall_number judged_number well_formed kept first_of all_of current_number image_number fields_number state_sound fields_sound absent_zero core_sound registers_sound flow_sound interrupt_sound timer_sound ports_sound ram_sound image_of of_image sheet_number legal row_exists
refused_by = refl

-- three stores and two recalls aren't refused
abbrev five : List (Call Sheet)
five = sieve numbers calls

not_refused_is : not_refused chip calls ≡ five
not_refused_is = sieved chip calls numbers refused_by

meant : Meant chip upd546_sheet 2 calls
unfolding calls
meant =
    every_list_on_one_store upd546_sheet 2 requests
    (subst (Each (λ (c : Call Sheet). sheet_of c ≡ upd546_sheet)) (sym not_refused_is) (refl, (refl, (refl, (refl, (refl, tt))))))

keeps : KeepsTheLast chip upd546_sheet 2 calls
keeps = every_list_keeps_the_last upd546_sheet 2 calls meant

-- the store that the recalls are lent
abbrev store : List ℕ
store = last chip (empty_store chip upd546_sheet 2) five

bytes : laid_out 82 2 (entries_after [] five) ≡ replaced
unfolding calls image_of
bytes = refl

kept_bytes : store ≡ replaced
kept_bytes =
    subst (λ (cs : List (Call Sheet)). last chip (empty_store chip upd546_sheet 2) cs ≡ laid_out 82 2 (entries_after [] cs)) not_refused_is keeps.store ∙ bytes

-- THE THIRD NAME, and the store that its call is lent
abbrev behind_two : List ℕ
behind_two = (store_answer (chip upd546_sheet) (store_answer (chip upd546_sheet) (empty_store chip upd546_sheet 2) lobby fresh_image).store rush fresh_image).store

two_bytes : behind_two ≡ two
unfolding store_answer store_number recall_answer recall_number judged_number well_formed kept first_of all_of current_number image_number fields_number state_sound fields_sound absent_zero core_sound registers_sound flow_sound interrupt_sound timer_sound ports_sound ram_sound image_of of_image sheet_number legal row_exists
two_bytes = refl

third : refusal chip (keep behind_two late fresh_image upd546_sheet) ≡ 53
unfolding calls
third = ap (λ (l : List ℕ). get_or l 2 0) refused_by

third_unchanged : store_answer (chip upd546_sheet) behind_two late fresh_image ≡ record { number = 53; store = behind_two }
unfolding calls
third_unchanged = subst (λ (k : ℕ). ChangesNothing chip k (keep behind_two late fresh_image upd546_sheet)) third keeps.unchanged.1.1.0

third_number : store_number (chip upd546_sheet) behind_two late fresh_image ≡ 53
unfolding calls
third_number = sym keeps.refusals.1.1.0 ∙ third

-- THE ENTRY THAT IS REPLACED: its store is lent what the two refused ones left
abbrev behind_refused : List ℕ
behind_refused =
    (store_answer (chip upd546_sheet) (store_answer (chip upd546_sheet) behind_two late fresh_image).store lobby (take 81 held_image)).store

fourth : refusal chip (keep (store_answer (chip upd546_sheet) behind_two late fresh_image).store lobby (take 81 held_image) upd546_sheet) ≡ 51
unfolding calls
fourth = ap (λ (l : List ℕ). get_or l 3 0) refused_by

fourth_unchanged : store_answer (chip upd546_sheet) (store_answer (chip upd546_sheet) behind_two late fresh_image).store lobby (take 81 held_image)
    ≡ record { number = 51; store = (store_answer (chip upd546_sheet) behind_two late fresh_image).store }
unfolding calls
fourth_unchanged =
    subst (λ (k : ℕ). ChangesNothing chip k (keep (store_answer (chip upd546_sheet) behind_two late fresh_image).store lobby (take 81 held_image) upd546_sheet))
    fourth keeps.unchanged.1.1.1.0

refused-bytes : behind_refused ≡ two
refused-bytes = ap (λ (a : StoreAnswer). a.store) fourth_unchanged ∙ ap (λ (a : StoreAnswer). a.store) third_unchanged ∙ two_bytes

others : KeepsTheOthers chip upd546_sheet (take 2 five) behind_refused lobby held_image
unfolding calls
others = keeps.stores (take 2 five) (drop 3 five) behind_refused lobby held_image upd546_sheet not_refused_is

entry_bytes : part (store_answer (chip upd546_sheet) behind_refused lobby held_image).store 0 90 ≡ lobby ++ held_image
unfolding calls
entry_bytes = others.entry

other_bytes : part (store_answer (chip upd546_sheet) behind_refused lobby held_image).store 90 90 ≡ part behind_refused 90 90
unfolding calls
other_bytes = others.others 1 (λ e. omega (arith, e))

-- THE RECALL of what was stored last
recalled : HandsBackTheLast chip upd546_sheet (take 3 five) store lobby
unfolding calls
recalled = keeps.recalls (take 3 five) (drop 4 five) store lobby upd546_sheet not_refused_is

last_one : last_stored lobby none (take 3 five) ≡ some held_image
unfolding calls
last_one = refl

at_the_front : place_in (chip upd546_sheet) store lobby ≡ 0
unfolding calls
at_the_front = recalled.place

-- WHAT MAY BE CALLED NEXT
next : NextCalls chip upd546_sheet 2 (first_stored [] five) store
unfolding sheet_number legal row_exists all_of
next =
    subst (λ (cs : List (Call Sheet)). NextCalls chip upd546_sheet 2 (first_stored [] cs) (last chip (empty_store chip upd546_sheet 2) cs)) not_refused_is
    (keeps.goes_on refl)

next_unknown : recall_number (chip upd546_sheet) store late ≡ 52
unfolding calls
next_unknown = next.next_recall late refl

fresh_taken : accepted (chip upd546_sheet) fresh_image ≡ true
unfolding store_answer store_number recall_answer recall_number judged_number well_formed kept first_of all_of current_number image_number fields_number state_sound fields_sound absent_zero core_sound registers_sound flow_sound interrupt_sound timer_sound ports_sound ram_sound image_of of_image sheet_number legal row_exists
fresh_taken = refl

held_taken : accepted (chip upd546_sheet) held_image ≡ true
unfolding store_answer store_number recall_answer recall_number judged_number well_formed kept first_of all_of current_number image_number fields_number state_sound fields_sound absent_zero core_sound registers_sound flow_sound interrupt_sound timer_sound ports_sound ram_sound image_of of_image sheet_number legal row_exists
held_taken = refl

next_full : store_number (chip upd546_sheet) store late fresh_image ≡ 53
unfolding calls
next_full = next.next_store late fresh_image refl fresh_taken

next_known : store_number (chip upd546_sheet) store rush held_image ≡ 0
unfolding calls
next_known = next.next_store rush held_image refl held_taken

nothing-taken : (store name : List ℕ) → (store_answer (chip upd546_sheet) store name []).number ≡ 51
unfolding current_number image_number first_of sheet_number legal row_exists all_of
nothing-taken store name = every_malformed_image_refuses_before_room store name [] upd546_sheet refl refl

no_level : (store name : List ℕ) → (recall_answer (chip (record { rom = 2000; rows = 31; levels = 0 })) store name).number ≡ 71
unfolding sheet_number legal row_exists all_of
no_level store name = every_sheet_refuses_first (recall store name (record { rom = 2000; rows = 31; levels = 0 })) 70 refl

pub rush_hour : RushHour
rush_hour = record {
  numbers = refused_by;
  store = ap (last chip (empty_store chip upd546_sheet 2)) not_refused_is ∙ kept_bytes;
  full = subst (λ (l : List ℕ). store_number (chip upd546_sheet) l late fresh_image ≡ 53) two_bytes third_number;
  unchanged = subst (λ (l : List ℕ). store_answer (chip upd546_sheet) l late fresh_image ≡ record { number = 53; store = l }) two_bytes third_unchanged;
  entry =
      subst (λ (l : List ℕ). part (store_answer (chip upd546_sheet) l lobby held_image).store 0 90 ≡ lobby ++ held_image) refused-bytes entry_bytes;
  other =
      subst (λ (l : List ℕ). part (store_answer (chip upd546_sheet) l lobby held_image).store 90 90 ≡ part l 90 90) refused-bytes other_bytes;
  back =
      let same : (recall_answer (chip upd546_sheet) store lobby).part ≡ held_image = cc (recalled.image, last_one) in
      ap (λ (l : List ℕ). (recall_answer (chip upd546_sheet) l lobby).part) (sym kept_bytes) ∙ same;
  place = subst (λ (l : List ℕ). place_in (chip upd546_sheet) l lobby ≡ 0) kept_bytes at_the_front;
  restores =
      subst (λ (l : List ℕ). (restore_answer (chip upd546_sheet) (recall_answer (chip upd546_sheet) l lobby).part).number ≡ 0) kept_bytes recalled.restores;
  runs = λ kind rom sched log n.
      subst
      (λ (l : List ℕ).
      run_answer (chip upd546_sheet) kind rom sched (restore_answer (chip upd546_sheet) (recall_answer (chip upd546_sheet) l lobby).part).state log n
      ≡ run_answer (chip upd546_sheet) kind rom sched held log n) kept_bytes (recalled.runs held held_image last_one written kind rom sched log n);
  unknown = subst (λ (l : List ℕ). recall_number (chip upd546_sheet) l late ≡ 52) kept_bytes next_unknown;
  no_room = subst (λ (l : List ℕ). store_number (chip upd546_sheet) l late fresh_image ≡ 53) kept_bytes next_full;
  known = subst (λ (l : List ℕ). store_number (chip upd546_sheet) l rush held_image ≡ 0) kept_bytes next_known;
  malformed = nothing-taken;
  no_levels = no_level;
}
