-- The figures of loads, from the theorems about every seed. Assumes nothing.
use mathlib.Core.Path.{◌≡◌, ◌∙◌, refl}
use mathlib.Core.List.{[], ◌∷◌}
use lib.Dec.{leb, lit≤}
use Rattle.runs.specs.Refusals.{cycle_limit, first_of, unless}
use Rattle.runs.specs.TwoRunners.{run_number}
use Rattle.runs.specs.Laws.{Panel}
use Rattle.runs.proofs.Refusals.{first_past}
use Rattle.upd546.specs.TheMachine.{fresh}
use Rattle.upd546.specs.TheSheet.{sheet_number, upd546_sheet}
use Rattle.upd546.specs.StateImage.{state_number}
use Rattle.upd546.specs.TwoRunners.{panel_number, upd546}
use Rattle.generator.specs.Loads.{next_of, stepped, drawn, drawn_bytes, rom_of, cycle_from, record_from, last_drawn, schedule_of}
use Rattle.generator.specs.EveryLoad.{AcceptedSchedule}
use Rattle.generator.proofs.EveryLoad.{every_schedule, every_rom, every_load, every_beginning}
use Rattle.witness.specs.Loads.{longest, first_record, ten_million, LoadFigures}
use Rattle.witness.proofs.Opened.{opened}

sched : AcceptedSchedule longest
sched = every_schedule 20 4096 (lit≤ tt)

bytes : drawn_bytes 0 5 ≡ 60 ∷ 71 ∷ 209 ∷ 170 ∷ 98 ∷ []
unfolding next_of stepped drawn drawn_bytes
bytes = refl

one : schedule_of 0 1 ≡ first_record
unfolding next_of stepped drawn cycle_from record_from last_drawn schedule_of
one = refl

-- neither state nor n is refused
others : first_of (state_number upd546_sheet fresh ∷ unless (leb 10000000 cycle_limit) 2 ∷ []) ≡ 0
unfolding opened
others = refl

panel : Panel upd546 (rom_of 7) longest
panel = every_load 7 20 4096 (lit≤ tt)

accepts : ten_million (rom_of 7) longest ≡ 0
unfolding run_number
accepts =
    first_past (sheet_number upd546_sheet) _ panel.legal ∙ first_past (panel_number upd546_sheet (rom_of 7) longest) _ panel.not_refused_is
    ∙ others

pub figures : LoadFigures
figures =
    record {
      first_bytes = bytes;
      accepted = sched.by_the_check;
      not_12 = sched.never_12 [] fresh 10000000;
      not_11 = sched.never_11 [] fresh 10000000;
      not_13 = sched.never_13 [] fresh 10000000;
      not_14 = sched.never_14 [] fresh 10000000;
      not_21 = every_rom 20 (0 ∷ []) fresh 10000000;
      runs = accepts;
      begins = every_beginning 0 1 ∙ one;
    }
