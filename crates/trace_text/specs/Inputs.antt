-- What is claimed of inputs of program `trace`. Assumes nothing: these are definitions.
use Rattle.std.specs.Prelude.{◌≡◌, List, ℕ, ◌<◌, ◌^◌, take}
use Rattle.runs.specs.TwoRunners.{run_number}
use Rattle.upd546.specs.TheMachine.{fresh}
use Rattle.upd546.specs.TheSheet.{upd546_sheet}
use Rattle.upd546.specs.TwoRunners.{upd546, panel_number}
use Rattle.upd546.specs.Reports.{trace_text}

-- A program that reads so many bytes of its input, and no more, writes the text of the whole input.
abbrev pub ReadsEnough : ℕ → Type 0
ReadsEnough k = (input : List ℕ) → trace_text (take k input) ≡ trace_text input

-- "A run checks 21, 12, 11, 13/14, 34, 2": 34 and 2 refuse no run of a fresh state for an n of 4 bytes; and 71 none with the old
-- figures.
abbrev pub PanelsOnly : Type 0
PanelsOnly = (rom sched : List ℕ) (n : ℕ) → n < 2 ^ 32 → run_number upd546 rom sched fresh n ≡ panel_number upd546_sheet rom sched
