-- Document 01, "Two runners": where the timer-skipping one jumps, and the chip as the machine that the runners run; with
-- document 02, R-8 and R-11. Assumes nothing: these are definitions.
use Rattle.std.specs.Prelude.{ℕ, zero, suc, ◌+◌, ◌-◌, ◌%◌, min, Bool, true, false, cond, not, ◌&&◌, List, [], ◌∷◌, Result, eqb, leb, ltb, length}
use Rattle.runs.specs.Machine.{Machine}
use Rattle.runs.specs.Refusals.{first_of, unless}
use Rattle.runs.specs.TwoRunners as runners
use Rattle.runs.specs.Numbers.{end_of, outcome_number}
use Rattle.runs.specs.declared.Refusal.{Refusal}
use Rattle.upd546.specs.declared.State.{State}
use Rattle.upd546.specs.declared.Sheet.{Sheet}
use Rattle.upd546.specs.declared.RunAnswer.{RunAnswer}
use Rattle.upd546.specs.declared.RestoreAnswer.{RestoreAnswer}
use Rattle.upd546.specs.TheMachine.{byte_at, follows, page_of, fresh}
use Rattle.upd546.specs.Sequences.{all_of}
use Rattle.upd546.specs.TheSheet.{sheet_number, upd546_sheet, in_rom}
use Rattle.upd546.specs.TheLineSchedule.{schedule_number, lines_at, no_record}
use Rattle.upd546.specs.Timer.{ticks_left}
use Rattle.upd546.specs.OneMachineCycle.{cycle}
use Rattle.upd546.specs.StateImage.{image_length, image_of, of_image, state_number, version_number, image_number}

-- "the byte at PC is TTM"
unfoldable pub at_ttm : Sheet → List ℕ → ℕ → Bool
at_ttm sheet rom pc = all_of (in_rom sheet pc ∷ eqb (byte_at rom pc) 0x05 ∷ [])

-- "and the next address holds a JCP back to it"
unfoldable pub at_jcp_back : Sheet → List ℕ → ℕ → Bool
at_jcp_back sheet rom pc =
    all_of (in_rom sheet (follows pc) ∷ leb 0xC0 (byte_at rom (follows pc)) ∷ eqb (page_of (follows pc) + byte_at rom (follows pc) % 64) pc ∷ [])

-- "jumps .. where: owed 0; TM 0; timer running; INT and INTE not both 1; the byte at PC is TTM and the next address holds a JCP
-- back to it; the INT line equals the level seen"
unfoldable pub may_jump : Sheet → List ℕ → List ℕ → State → Bool
may_jump sheet rom sched s =
    all_of
    (eqb s.core.owed 0
    ∷ eqb s.core.timer.tm 0
    ∷ ltb 0 s.core.timer.register
    ∷ not (eqb s.core.interrupt.int 1 && eqb s.core.interrupt.inte 1)
    ∷ at_ttm sheet rom s.core.flow.pc
    ∷ at_jcp_back sheet rom s.core.flow.pc
    ∷ eqb (lines_at sched s.cycle.0).int s.core.interrupt.level
    ∷ [])

-- "even"; "no schedule record in the j - 1 cycles after the present one"
unfoldable pub jumpable : List ℕ → ℕ → ℕ → Bool
jumpable sched n j = eqb (j % 2) 0 && no_record sched (n + 1) (n + j)

-- the largest number up to k that passes the test, or 0
unfoldable pub largest : (ℕ → Bool) → ℕ → ℕ
largest test zero = 0
largest test (suc k) = elim (test (suc k)) [ true ↦ suc k | false ↦ largest test k ]

-- "j, the largest even number at most r and the cycles left, with no schedule record in the j - 1 cycles after the present
-- one, is 2 or more." An even number that isn't 0 is.
abbrev pub on_jump : Bool → List ℕ → State → ℕ → ℕ
on_jump true sched s left = largest (jumpable sched s.cycle.0) (min (ticks_left s.core.timer) left)
on_jump false sched s left = 0

-- the cycles that it jumps in one step by this rule, or 0
unfoldable pub wait_length : Sheet → List ℕ → List ℕ → State → ℕ → ℕ
wait_length sheet rom sched s left = on_jump (may_jump sheet rom sched s) sched s left

-- Document 02, R-8: "RES low and a count of 0"
unfoldable pub reset_far : List ℕ → State → Bool
reset_far sched s = eqb (lines_at sched s.cycle.0).res 0 && eqb s.count 0

-- the cycles that the timer-skipping runner jumps in one step, or 0; R-8: "The timer jump needs RES low and a count of 0."
unfoldable pub jump_length : Sheet → List ℕ → List ℕ → State → ℕ → ℕ
jump_length sheet rom sched s left = cond (reset_far sched s) (wait_length sheet rom sched s left) 0

-- "21 not 2,000 bytes", before the schedule's numbers; R-11: not the sheet's length
unfoldable pub panel_number : Sheet → List ℕ → List ℕ → ℕ
panel_number sheet rom sched = first_of (unless (eqb (length rom) sheet.rom) 21 ∷ schedule_number sched ∷ [])

-- The chip of a sheet as the runners, save and restore take it.
abbrev pub chip : Sheet → Machine State
chip sheet = record {
  own_number = sheet_number sheet;
  cycle = cycle sheet;
  at = λ s. s.cycle.0;
  jump = jump_length sheet;
  panel_number = panel_number sheet;
  state_number = state_number sheet;
  version_number = version_number;
  image_number = image_number sheet;
  image_length = image_length;
  image = image_of;
  of_image = of_image;
  fresh = fresh;
}

-- "the old figures are one sheet": the uPD546 of document 01
abbrev pub upd546 : Machine State
upd546 = chip upd546_sheet

-- What a run answers, with the lent log as it stands when the run returns, in the terms of the definitions.
abbrev pub answer_of : RunAnswer → List ℕ → runners.RunAnswer State
answer_of a log = record {
  end = end_of a.end;
  state = a.state;
  cycles = a.cycles.0;
  clocks = a.clocks.0;
  begun = a.begun;
  written = a.written;
  steps = a.steps;
  log = log;
}

-- What a save answers, with the lent buffer as it stands when the save returns, in the terms of the definitions.
abbrev pub save_of : Result (Unit {0}) Refusal → List ℕ → runners.SaveAnswer
save_of o buffer = record { number = outcome_number o; buffer = buffer }

-- What a restore answers, in the terms of the definitions.
abbrev pub restore_of : RestoreAnswer → runners.RestoreAnswer State
restore_of a = record { number = outcome_number a.outcome; state = a.state }
