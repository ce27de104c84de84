-- What to unfold where a figure is computed: the chip, the runners, save and restore, under one name. Assumes nothing.
use Rattle.runs.specs.Refusals.{first_of}
use Rattle.runs.specs.TwoRunners.{unbroken, within, strides, run_number, plain, skipping, save_number, save_answer, restore_number, restore_answer, current_number, current_answer}
use Rattle.upd546.specs.Sequences.{all_of}
use Rattle.upd546.specs.TheSheet.{legal, sheet_number, row_exists}
use Rattle.upd546.specs.TheMachine.{follows, past, place_of, place_in}
use Rattle.upd546.specs.TheLineSchedule.{record_cycle, record_lines, lines_among, lines_at, bytes_number, order_number, records_number, schedule_number, none_among, no_record}
use Rattle.upd546.specs.Timer.{step_register, tick, steps_to, position_of, ticks_left}
use Rattle.upd546.specs.Ports.{read_port, outputs, bit_outputs}
use Rattle.upd546.specs.Instructions.{instruction}
use Rattle.upd546.specs.OneMachineCycle.{accepts, accepted, taken, paid, ticked, given, instruction_stop, passed_over, begun, execute, ordinary_cycle, cleared, reset_cycle, cycle}
use Rattle.upd546.specs.StateImage.{image_of, of_image, registers_sound, flow_sound, interrupt_sound, timer_sound, core_sound, ports_sound, ram_sound, fields_sound, absent_zero, state_sound, state_number, version_number, fields_number, image_number}
use Rattle.upd546.specs.TwoRunners.{at_ttm, at_jcp_back, may_jump, jumpable, largest, wait_length, reset_far, jump_length, panel_number}

unfoldable pub opened : Unit {0}
unfolding first_of unbroken within strides run_number plain skipping save_number save_answer restore_number restore_answer current_number current_answer all_of follows past legal sheet_number row_exists place_of place_in record_cycle record_lines lines_among lines_at bytes_number order_number records_number schedule_number none_among no_record step_register tick steps_to position_of ticks_left read_port outputs bit_outputs instruction accepts accepted taken paid ticked given instruction_stop passed_over begun execute ordinary_cycle cleared reset_cycle cycle image_of of_image registers_sound flow_sound interrupt_sound timer_sound core_sound ports_sound ram_sound fields_sound absent_zero state_sound state_number version_number fields_number image_number at_ttm at_jcp_back may_jump jumpable largest wait_length reset_far jump_length panel_number
opened = tt
