-- The machine whose every cycle is an ordinary one, steps a to d: RES isn't looked at, and the count stays. The chip is this machine
-- while RES is low and its count 0, and what is known of strings of loads, waits on the timer and bursts is shown of it first.
-- Assumes nothing: these are definitions.
use Rattle.std.specs.Prelude.{ℕ, List}
use Rattle.runs.specs.Machine.{Machine, Out}
use Rattle.upd546.specs.declared.State.{State}
use Rattle.upd546.specs.declared.Sheet.{Sheet}
use Rattle.upd546.specs.TheSheet.{sheet_number}
use Rattle.upd546.specs.TheMachine.{fresh}
use Rattle.upd546.specs.TheLineSchedule.{lines_at}
use Rattle.upd546.specs.OneMachineCycle.{ordinary_cycle}
use Rattle.upd546.specs.StateImage.{image_length, image_of, of_image, state_number, version_number, image_number}
use Rattle.upd546.specs.TwoRunners.{wait_length, panel_number}

-- an ordinary cycle of the state, with the lines of its cycle number
abbrev pub steps_of : Sheet → List ℕ → List ℕ → State → Out State
steps_of sheet rom sched s = ordinary_cycle sheet rom (lines_at sched s.cycle.0) s

abbrev pub ordinary : Sheet → Machine State
ordinary sheet = record {
  own_number = sheet_number sheet;
  cycle = steps_of sheet;
  at = λ s. s.cycle.0;
  jump = wait_length sheet;
  panel_number = panel_number sheet;
  state_number = state_number sheet;
  version_number = version_number;
  image_number = image_number sheet;
  image_length = image_length;
  image = image_of;
  of_image = of_image;
  fresh = fresh;
}
