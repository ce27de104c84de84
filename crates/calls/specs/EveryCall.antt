-- What holds of every call of the board, over any machine, which is that of its sheet, legal or not: what its number tells, what refuses
-- it, and what it answers and leaves.
-- Assumes nothing: these are definitions.
use Rattle.std.specs.Prelude.{ℕ, zero, suc, ◌^◌, ◌<◌, ◌≤◌, ◌≡◌, Bool, true, false, ◌||◌, cond, List, [], ◌∷◌, eqb, length, replicate}
use Rattle.runs.specs.declared.Version.TheVariants.{Two}
use Rattle.runs.specs.Machine.{Machine}
use Rattle.runs.specs.Refusals.{first_of, unless}
use Rattle.runs.specs.Numbers.{is_stop}
use Rattle.runs.specs.TwoRunners.{End, finished, stopped, refused, run_number, save_answer, restore_answer, current_number}
use Rattle.runs.specs.Laws.{Bytes}
use Rattle.runs.specs.Lists.{refusal_of}
use Rattle.upd546.specs.Bytes.{number_at}
use Rattle.calls.specs.Call.{BoardCall, report_length, reported, long_enough, run_of, call_answer}

-- HOW A CALL ENDED

-- whether a number is that of a finish or a stop
abbrev pub ran_by : ℕ → Bool
ran_by k = eqb k 0 || is_stop k

-- by the number alone: 0 is a finish, 3, 22 and 23 are stops, every other number is a refusal
abbrev pub end_by : ℕ → End
end_by zero = finished
end_by (suc k) = cond (is_stop (suc k)) (stopped (suc k)) (refused (suc k))

-- "zeros on a refusal", and "is not written" where it is too short
abbrev pub refused_report : Bool → List ℕ → List ℕ
refused_report false report = report
refused_report true report = reported (replicate report_length 0) report

module _ {S : Type 0} (M : Machine S) where
  -- WHAT REFUSES A CALL

  -- the number by which the call's answer says that it was refused, else 0
  abbrev pub call_refusal : BoardCall → ℕ
  call_refusal c = refusal_of (end_by (call_answer M c).number)

  -- the number by which the documents refuse it, else 0: "A report under 32 bytes is 1, before all else, and is not written. Then
  -- image refusals come first, then the run's." "R-3's call takes 82 bytes only, else 31" (R-8); 71 before that (`current_number`).
  abbrev pub call_number : BoardCall → ℕ
  call_number c =
      first_of (unless (long_enough c) 1 ∷ current_number M c.image ∷ run_number M c.rom c.sched (M.of_image c.image) c.n ∷ [])

  -- every call is refused where the documents refuse it, and with their number
  abbrev pub EveryCallIsRefusedByNumbers : Type 0
  EveryCallIsRefusedByNumbers = (c : BoardCall) → call_refusal c ≡ call_number c

  -- "71, before all else but R-3's report under 32 bytes" (R-11)
  abbrev pub SheetRefusesBeforeTheImage : Type 0
  SheetRefusesBeforeTheImage = (c : BoardCall) (k : ℕ) → report_length ≤ length c.report → M.own_number ≡ suc k → call_refusal c ≡ suc k

  -- What a call that was refused with this number answers and leaves.
  pub record Refuses (k : ℕ) (c : BoardCall) : Type 0 where
    pub number : (call_answer M c).number ≡ k
    pub image : (call_answer M c).image ≡ c.image
    pub log : (call_answer M c).log ≡ c.log
    pub report : (call_answer M c).report ≡ refused_report (long_enough c) c.report

  abbrev pub CallChangesNothing : ℕ → BoardCall → Type 0
  CallChangesNothing zero c = Unit {0}
  CallChangesNothing (suc k) c = Refuses (suc k) c

  -- "A refusal leaves the image"
  abbrev pub EveryRefusalChangesNothing : Type 0
  EveryRefusalChangesNothing = (c : BoardCall) → CallChangesNothing (call_refusal c) c

  -- WHAT A CALL TELLS OF ITS RUN

  -- the figure that stands in its report from a byte on: "cycles, instructions, log bytes and steps, 8 bytes each, big-endian"
  abbrev pub figure_at : ℕ → BoardCall → ℕ
  figure_at at c = number_at (call_answer M c).report at 8

  -- How it ended, its log, and its counts, which are zeros where it was refused.
  pub record TellsItsRun (c : BoardCall) : Type 0 where
    pub end : end_by (call_answer M c).number ≡ (run_of M c).end
    pub log : (call_answer M c).log ≡ (run_of M c).log
    pub cycles : figure_at 0 c ≡ (run_of M c).cycles
    pub begun : figure_at 8 c ≡ (run_of M c).begun
    pub written : figure_at 16 c ≡ (run_of M c).written
    pub steps : figure_at 24 c ≡ (run_of M c).steps

  -- every call with a report of 32 bytes; a slice's length is below 2^64
  abbrev pub EveryCallTellsItsRun : Type 0
  EveryCallTellsItsRun = (c : BoardCall) → length c.log < 2 ^ 64 → report_length ≤ length c.report → TellsItsRun c

  -- WHAT A FINISH OR A STOP LEAVES

  -- "a finish or a stop rewrites it": the save isn't refused, and the image is that of the state that the run answered,
  -- as version 2
  pub record Rewrites (c : BoardCall) : Type 0 where
    pub saved : (save_answer M Two (run_of M c).state c.image).number ≡ 0
    pub image : (call_answer M c).image ≡ M.image Two (run_of M c).state
    pub restores : restore_answer M (call_answer M c).image ≡ record { number = 0; state = (run_of M c).state }

  -- every call that isn't refused does, whatever it is lent
  abbrev pub EveryFinishOrStopRewrites : Type 0
  EveryFinishOrStopRewrites = (c : BoardCall) → Bytes c.rom → Bytes c.sched → call_refusal c ≡ 0 → Rewrites c
