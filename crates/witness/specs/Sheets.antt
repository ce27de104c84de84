-- R-11: the theorems about sheets for every sheet, with the documents' figures in place of names; and lists of calls whose sheets differ,
-- with what the theorems have to say of them, a figure or a plain fact for each clause. Assumes nothing: these are definitions.
use Rattle.std.specs.Prelude.{ℕ, ◌+◌, ◌*◌, ◌<◌, ◌≤◌, ◌≡◌, List, [], ◌∷◌, map, length, get_or, take, replicate}
use Rattle.runs.specs.declared.Version.TheVariants.{Two}
use Rattle.runs.specs.TwoRunners.{stopped, save_answer, restore_answer}
use Rattle.runs.specs.Laws.{Bytes}
use Rattle.runs.specs.Lists.{Kind, plain_one, skipping_one, Call, run, save, restore, sheet_of, Each, run_answer, refusal, last}
use Rattle.runs.specs.Lists.{runs, joined_log, cycle_total, begun_total}
use Rattle.upd546.specs.declared.State.{State}
use Rattle.upd546.specs.declared.Sheet.{Sheet}
use Rattle.upd546.specs.Bytes.{bit_at}
use Rattle.upd546.specs.TheSheet.{sheet_number, upd546_sheet}
use Rattle.upd546.specs.TheMachine.{fresh}
use Rattle.upd546.specs.StateImage.{image_of, state_number}
use Rattle.upd546.specs.BenchCases.{rom_at, rom_of, smaller}
use Rattle.upd546.specs.TwoRunners.{chip, upd546}
use Rattle.laws.specs.Images.{ImageOfSome}
use Rattle.calls.specs.Call.{BoardCall, call_answer}
use Rattle.calls.specs.EveryCall.{call_refusal}
use Rattle.calls.specs.Lists.{image_after, call_logs, joined}
use Rattle.witness.specs.Calls.{entry_bytes, unmoved}
use Rattle.witness.specs.Board.{left}

-- EVERY SHEET

-- "zeros for what is absent": the 16 words of each of rows 0 to 4 whose bit is 0, and the stack's words behind the levels
pub record Zeros (sheet : Sheet) (s : State) : Type 0 where
  pub rows : (r i : ℕ) → r < 5 → bit_at sheet.rows r ≡ 0 → i < 16 → get_or s.ram (16 * r + i) 0 ≡ 0
  pub levels : (i : ℕ) → sheet.levels ≤ i → get_or s.core.flow.stack i 0 ≡ 0

pub record OfEverySheet (sheet : Sheet) : Type 0 where
  -- `legal_sheet`, and back
  pub limits : sheet_number sheet ≡ 0
      → (1 ≤ sheet.rom) × (sheet.rom ≤ 2000) × (sheet.rows ≤ 31) × (1 ≤ sheet.levels) × (sheet.levels ≤ 3)
  pub legal : 1 ≤ sheet.rom → sheet.rom ≤ 2000 → sheet.rows ≤ 31 → 1 ≤ sheet.levels → sheet.levels ≤ 3 → sheet_number sheet ≡ 0
  -- `SheetRefusesFirst`, `SheetRefusesBeforeTheImage`
  pub first : (c : Call Sheet State) → sheet_of c ≡ sheet → (sheet_number sheet ≡ 0 → ⊥) → refusal chip c ≡ 71
  pub before_the_image : (c : BoardCall) → 32 ≤ length c.report → (sheet_number sheet ≡ 0 → ⊥) → call_refusal (chip sheet) c ≡ 71
  -- `EverySheetTakesTheFreshState`
  pub takes_fresh : state_number sheet fresh ≡ 0
  -- `accepted-absent`; with `EveryRunKeepsTheStateSound`: a run keeps them zero
  pub zeros : (s : State) → state_number sheet s ≡ 0 → Zeros sheet s
  pub keeps_zeros : (kind : Kind) (rom sched : List ℕ) (s : State) (log : List ℕ) (n : ℕ) → Bytes rom → Bytes sched
      → state_number sheet s ≡ 0 → Zeros sheet (run_answer (chip sheet) kind rom sched s log n).state

-- A LIST OF CALLS WHOSE SHEETS DIFFER

-- one level; rows that are none
abbrev pub one_level : Sheet
one_level = record { rom = 1000; rows = 3; levels = 1 }

abbrev pub illegal : Sheet
illegal = record { rom = 1000; rows = 32; levels = 2 }

-- LDI 43, LI 5 and S, in row 4; CZPs to 008, 00C and 010; OE, RT to 00D, JMP 3E7, and there a NOP
abbrev pub program : List ℕ
program =
    0x15 ∷ 0x43 ∷ 0x95 ∷ 0x02 ∷ 0xB2 ∷ 0 ∷ 0 ∷ 0 ∷ 0xB3 ∷ 0 ∷ 0 ∷ 0 ∷ 0xB4 ∷ 0xA3 ∷ 0xE7 ∷ 0 ∷ 0x44 ∷ 0x48 ∷ []

-- 3E7 is the smaller chip's last address
abbrev pub rom : List ℕ
rom = rom_of 1000 0 program

-- the power goes in the middle of RT
abbrev pub cut : State
cut = (run_answer (chip smaller) plain_one rom [] fresh (replicate 160 7) 10).state

abbrev pub kept : List ℕ
kept = take 82 (save_answer (chip smaller) Two cut (replicate 82 9)).buffer

abbrev pub back : State
back = (restore_answer (chip smaller) kept).state

-- Refused are those of other sheets: the first, the fifth and the seventh by 71, each with what comes after it; the third by 21; the
-- fourth and the eighth by 34.
abbrev pub calls : List (Call Sheet State)
calls =
    run plain_one [] (1 ∷ []) cut (6 ∷ []) 5 illegal
    ∷ run plain_one rom [] fresh (replicate 160 7) 10 smaller
    ∷ run skipping_one rom [] cut [] 5 upd546_sheet
    ∷ run plain_one rom [] cut (6 ∷ 6 ∷ []) 5 one_level
    ∷ save Two cut [] illegal
    ∷ save Two cut (replicate 82 9) smaller
    ∷ restore [] illegal
    ∷ restore kept one_level
    ∷ restore kept smaller
    ∷ run skipping_one rom [] back (replicate 160 0) 10 smaller
    ∷ []

abbrev pub carried_out : List (Call Sheet State)
carried_out =
    run plain_one rom [] fresh (replicate 160 7) 10 smaller
    ∷ save Two cut (replicate 82 9) smaller
    ∷ restore kept smaller
    ∷ run skipping_one rom [] back (replicate 160 0) 10 smaller
    ∷ []

-- 5 to E
abbrev pub wanted_log : List ℕ
wanted_log = entry_bytes 7 4 5

-- the same by the board's call, on an image
abbrev pub on_board : (image log : List ℕ) → (n runner : ℕ) → (report : List ℕ) → Sheet → BoardCall
on_board image log n runner report sheet =
    record { image = image; rom = rom; sched = []; log = log; n = n; runner = runner; report = report; sheet = sheet }

abbrev pub start : List ℕ
start = image_of Two fresh

abbrev pub first_call : BoardCall
first_call = on_board start (replicate 160 7) 10 0 (replicate 32 9) smaller

abbrev pub between : List ℕ
between = (call_answer (chip smaller) first_call).image

abbrev pub second_call : BoardCall
second_call = on_board between (replicate 160 0) 10 1 (replicate 32 9) smaller

-- on an image that is none; and with a report of 31 bytes
abbrev pub no_image : BoardCall
no_image = on_board (5 ∷ []) (6 ∷ 6 ∷ []) 5 0 (replicate 32 9) illegal

abbrev pub short_report : BoardCall
short_report = on_board between [] 5 0 (replicate 31 9) illegal

abbrev pub other : BoardCall
other = on_board between [] 5 0 (replicate 32 9) one_level

-- refused are the second by 71, the third by 1 and the fourth by 34
abbrev pub board_calls : List BoardCall
board_calls = first_call ∷ no_image ∷ short_report ∷ other ∷ second_call ∷ []

-- the same program by the old figures, with all three calls made
abbrev pub old : State
old = (run_answer upd546 plain_one (rom_at 0 program) [] fresh [] 7).state

abbrev pub old_image : List ℕ
old_image = image_of Two old

-- THE FIGURES

pub record SheetFigures : Type 0 where
  -- `EveryListEndsAsOneRun`: 22 is at 3E8, and the third level stays 0
  pub pc : (last chip fresh carried_out).core.flow.pc ≡ 0x3E8
  pub stack : (last chip fresh carried_out).core.flow.stack ≡ 9 ∷ 9 ∷ 0 ∷ []
  pub each_stop : Each (λ a. (k : ℕ) → a.end ≡ stopped k → k ≡ 22) (runs chip carried_out)
  pub log : joined_log (runs chip calls) ≡ wanted_log
  pub cycles : cycle_total (runs chip calls) ≡ 14
  pub begun : begun_total (runs chip calls) ≡ 10
  pub call : (kind : Kind) → (run_answer (chip smaller) kind rom [] fresh (replicate 320 0) 20).end ≡ stopped 22
  pub numbers : map (refusal chip) calls ≡ 71 ∷ 0 ∷ 21 ∷ 34 ∷ 71 ∷ 0 ∷ 71 ∷ 34 ∷ 0 ∷ 0 ∷ []
  pub run_71 : run_answer (chip illegal) plain_one [] (1 ∷ []) cut (6 ∷ []) 5 ≡ unmoved 71 cut (6 ∷ [])
  pub save_71 : save_answer (chip illegal) Two cut [] ≡ record { number = 71; buffer = [] }
  pub restore_71 : restore_answer (chip illegal) [] ≡ record { number = 71; state = fresh }
  pub run_34 : run_answer (chip one_level) plain_one rom [] cut (6 ∷ 6 ∷ []) 5 ≡ unmoved 34 cut (6 ∷ 6 ∷ [])
  pub restore_34 : restore_answer (chip one_level) kept ≡ record { number = 34; state = fresh }
  -- `EveryListOfCallsEndsAsOneRun`
  pub board_pc : (restore_answer (chip smaller) (image_after chip start (first_call ∷ second_call ∷ []))).state.core.flow.pc ≡ 0x3E8
  pub board_log : joined (call_logs chip (first_call ∷ second_call ∷ [])) ≡ wanted_log
  pub board_numbers : map (λ c. call_refusal (chip c.sheet) c) board_calls ≡ 0 ∷ 71 ∷ 1 ∷ 34 ∷ 0 ∷ []
  pub board_71 : call_answer (chip illegal) no_image ≡ left 71 no_image (replicate 32 0)
  -- `SheetRefusesFirst`, `SheetRefusesBeforeTheImage`
  pub first_71 : refusal chip (run plain_one [] (1 ∷ []) old [] 281474976710656 illegal) ≡ 71
  pub image_71 : call_refusal (chip illegal) no_image ≡ 71
  -- `EveryRunKeepsTheStateSound`: S and the third call are lost, where the old figures have 5 in word 43 and 005 in the third level
  pub row_lost : get_or cut.ram 67 0 ≡ 0
  pub level_lost : get_or cut.core.flow.stack 2 0 ≡ 0
  pub row_stored : get_or old.ram 67 0 ≡ 5
  pub level_kept : get_or old.core.flow.stack 2 0 ≡ 5
  -- `AcceptedExactly`: an image of one sheet, and of no other
  pub of_old : ImageOfSome upd546_sheet old_image
  pub not_of_smaller : ImageOfSome smaller old_image → ⊥
