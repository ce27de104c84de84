-- R-12 with figures, computed. Assumes nothing.
use mathlib.Core.Path.{refl}
use Rattle.runs.specs.Refusals.{first_of}
use Rattle.runs.specs.TwoRunners.{within, run_number, plain}
use Rattle.upd546.specs.Sequences.{all_of}
use Rattle.upd546.specs.TheSheet.{legal, sheet_number, row_exists}
use Rattle.upd546.specs.TheMachine.{follows, past, place_of, place_in}
use Rattle.upd546.specs.TheLineSchedule.{record_cycle, record_lines, lines_among, lines_at, bytes_number, order_number, records_number, schedule_number}
use Rattle.upd546.specs.Timer.{step_register, tick}
use Rattle.upd546.specs.Ports.{read_port, outputs, bit_outputs}
use Rattle.upd546.specs.Instructions.{instruction}
use Rattle.upd546.specs.OneMachineCycle.{accepts, accepted, taken, paid, ticked, given, instruction_stop, passed_over, begun, execute, ordinary_cycle, cleared, reset_cycle, cycle}
use Rattle.upd546.specs.StateImage.{registers_sound, flow_sound, interrupt_sound, timer_sound, core_sound, ports_sound, ram_sound, fields_sound, absent_zero, state_sound, state_number}
use Rattle.upd546.specs.TwoRunners.{panel_number}
use Rattle.shortest.specs.Search.{smallest_from, trial_end, smallest, untried_number, error_number, shortest_answer}
use Rattle.shortest.specs.Figures.{Shown}

pub shown : Shown
unfolding first_of within run_number plain all_of follows past legal sheet_number row_exists place_of place_in record_cycle record_lines lines_among lines_at bytes_number order_number records_number schedule_number step_register tick read_port outputs bit_outputs instruction accepts accepted taken paid ticked given instruction_stop passed_over begun execute ordinary_cycle cleared reset_cycle cycle registers_sound flow_sound interrupt_sound timer_sound core_sound ports_sound ram_sound fields_sound absent_zero state_sound state_number panel_number smallest_from trial_end smallest untried_number error_number shortest_answer
shown = record { not_monotone = refl; second = refl; short = refl; ends = refl; refuses = refl }
