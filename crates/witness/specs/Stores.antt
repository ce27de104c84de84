-- A rush hour that is come back to: requests on a store with two places, with figures. Assumes nothing: these are definitions.
use Rattle.std.specs.Prelude.{ℕ, ◌≡◌, List, [], ◌∷◌, ◌++◌, map, take}
use Rattle.runs.specs.declared.Version.TheVariants.{Two}
use Rattle.runs.specs.TwoRunners.{restore_answer}
use Rattle.runs.specs.Lists.{Kind, run_answer}
use Rattle.upd546.specs.declared.State.{State}
use Rattle.upd546.specs.declared.Sheet.{Sheet}
use Rattle.upd546.specs.TheMachine.{fresh}
use Rattle.upd546.specs.TheSheet.{upd546_sheet}
use Rattle.upd546.specs.Parts.{with_count}
use Rattle.upd546.specs.StateImage.{image_of}
use Rattle.upd546.specs.TwoRunners.{chip}
use Rattle.upd546.specs.Bytes.{part}
use Rattle.store.specs.Answers.{place_in, store_number, store_answer, recall_number, recall_answer}
use Rattle.keeping.specs.Lists.{Request, keep_under, recall_of, Call, empty_store, on_one_store, refusal, not_refused, last}

-- LOBBY, RUSH and LATE, filled up with spaces
abbrev pub lobby : List ℕ
lobby = 76 ∷ 79 ∷ 66 ∷ 66 ∷ 89 ∷ 32 ∷ 32 ∷ 32 ∷ []

abbrev pub rush : List ℕ
rush = 82 ∷ 85 ∷ 83 ∷ 72 ∷ 32 ∷ 32 ∷ 32 ∷ 32 ∷ []

abbrev pub late : List ℕ
late = 76 ∷ 65 ∷ 84 ∷ 69 ∷ 32 ∷ 32 ∷ 32 ∷ 32 ∷ []

-- the fresh state, and the same after three cycles with RES high: their images differ in the last byte
abbrev pub held : State
held = with_count 3 fresh

abbrev pub fresh_image : List ℕ
fresh_image = image_of Two fresh

abbrev pub held_image : List ℕ
held_image = image_of Two held

-- two names are stored; a third has no place, 53; a torn image, 51; a name that isn't there, 52; an entry is replaced; both are recalled
abbrev pub requests : List (Request Sheet)
requests =
    keep_under lobby fresh_image upd546_sheet
    ∷ keep_under rush fresh_image upd546_sheet
    ∷ keep_under late fresh_image upd546_sheet
    ∷ keep_under lobby (take 81 held_image) upd546_sheet
    ∷ recall_of late upd546_sheet
    ∷ keep_under lobby held_image upd546_sheet
    ∷ recall_of lobby upd546_sheet
    ∷ recall_of rush upd546_sheet
    ∷ []

unfoldable pub calls : List (Call Sheet)
calls = on_one_store chip (empty_store chip upd546_sheet 2) requests

-- the store behind the first two calls, and at the end: the replaced entry stands where it stood
abbrev pub two : List ℕ
two = lobby ++ fresh_image ++ rush ++ fresh_image

abbrev pub replaced : List ℕ
replaced = lobby ++ held_image ++ rush ++ fresh_image

-- What they come to.
pub record RushHour : Type 0 where
  -- each call's number
  pub numbers : map (refusal chip) calls ≡ 0 ∷ 0 ∷ 53 ∷ 51 ∷ 52 ∷ 0 ∷ 0 ∷ 0 ∷ []
  pub store : last chip (empty_store chip upd546_sheet 2) (not_refused chip calls) ≡ replaced
  -- the third name is refused by the request's own number, and changes nothing
  pub full : store_number (chip upd546_sheet) two late fresh_image ≡ 53
  pub unchanged : store_answer (chip upd546_sheet) two late fresh_image ≡ record { number = 53; store = two }
  -- the entry that is replaced, and the other one, which stays
  pub entry : part (store_answer (chip upd546_sheet) two lobby held_image).store 0 90 ≡ lobby ++ held_image
  pub other : part (store_answer (chip upd546_sheet) two lobby held_image).store 90 90 ≡ part two 90 90
  -- what the first recall hands back, where it stands, and a run from it
  pub back : (recall_answer (chip upd546_sheet) replaced lobby).part ≡ held_image
  pub place : place_in (chip upd546_sheet) replaced lobby ≡ 0
  pub restores : (restore_answer (chip upd546_sheet) (recall_answer (chip upd546_sheet) replaced lobby).part).number ≡ 0
  pub runs : (kind : Kind) (rom sched log : List ℕ) (n : ℕ)
      → run_answer (chip upd546_sheet) kind rom sched (restore_answer (chip upd546_sheet) (recall_answer (chip upd546_sheet) replaced lobby).part).state log n
      ≡ run_answer (chip upd546_sheet) kind rom sched held log n
  -- what may be called next
  pub unknown : recall_number (chip upd546_sheet) replaced late ≡ 52
  pub no_room : store_number (chip upd546_sheet) replaced late fresh_image ≡ 53
  pub known : store_number (chip upd546_sheet) replaced rush held_image ≡ 0
  -- an image of no bytes is 51 on any store, full or not; a sheet with no level is 71 on any
  pub malformed : (store name : List ℕ) → (store_answer (chip upd546_sheet) store name []).number ≡ 51
  pub no_levels : (store name : List ℕ) → (recall_answer (chip (record { rom = 2000; rows = 31; levels = 0 })) store name).number ≡ 71
