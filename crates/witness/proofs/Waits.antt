-- The figures of waiting times, from the theorems about every log and every list. Assumes nothing.
use mathlib.Core.Path.{◌≡◌, refl, ap}
use mathlib.Core.List.{List, [], ◌∷◌, ◌++◌}
use Prim.Native.Nat.{ℕ, zero, suc, ◌<◌, ◌≤◌}
use native.Mathlib.Omega.{arith}
use lib.Dec.{lit<, lit≤}
use lib.ListN.{length, take, replicate}
use Rattle.runs.specs.declared.Version.TheVariants.{Two}
use Rattle.runs.specs.TwoRunners.{log_bound}
use Rattle.runs.specs.Laws.{Panel}
use Rattle.runs.specs.Lists.{WrittenBy, Lent, Meant}
use Rattle.upd546.specs.declared.State.{State}
use Rattle.upd546.specs.TheMachine.{fresh}
use Rattle.upd546.specs.TheSheet.{upd546_sheet}
use Rattle.upd546.specs.StateImage.{image_of}
use Rattle.upd546.specs.TwoRunners.{chip, upd546}
use Rattle.laws.proofs.Lists.{below_all}
use Rattle.calls.specs.Call.{BoardCall, image_run, call_answer}
use Rattle.calls.specs.Lists.{PanelLent, calls_not_refused, CallLent}
use Rattle.waiting.specs.declared.Reading.{Reading}
use Rattle.waiting.specs.WaitingTimes.{landing_count, figure_most, lamps_after, carried_after, port_taken, value_most, record_sound, log_record_number, landing_sound, carried_sound, carried_number, log_number, waiting_times, start_of_day, no_waits, record_here}
use Rattle.waiting.specs.Growth.{Grown, CarriedGrown}
use Rattle.waiting.specs.EveryLog.{landing_of, FiguresWithin, Darkened}
use Rattle.waiting.specs.EveryList.{ReportsAsOneRun}
use Rattle.waiting.proofs.Growth.{carried_grown}
use Rattle.waiting.proofs.EveryLog.{every_rise_is_a_wait, read_on_as_joined, only_figures_draw_41, last_record_counts, reset_closes_all_waits, reset_has_value_zero}
use Rattle.switch_offs.specs.EveryListOfCalls.{CallsReportAsOneRun}
use Rattle.switch_offs.proofs.EveryList.{every_list_reports_as_one_run}
use Rattle.switch_offs.proofs.EveryListOfCalls.{every_list_of_calls_reports_as_one_run}
use Rattle.waits_text.proofs.Parts.{parts_read_as_one}
use Rattle.witness.specs.Waits.{lamps_at, calling, coming, wide, reset_at, calling_again, called, lamp_rom, lamp_sched, lit, kept_lit, lamp_calls, first_lamp, second_lamp, lamp_board, WaitFigures}
use Rattle.witness.proofs.Opened.{opened}
use Rattle.witness.proofs.Calls.{sound}

-- what to unfold where a reading is computed
unfoldable read : Unit {0}
unfolding opened lamps_after carried_after port_taken value_most record_sound log_record_number landing_sound carried_sound carried_number log_number waiting_times
read = tt

-- each log is accepted
accepts : ((waiting_times calling start_of_day).number ≡ 0) × ((waiting_times (calling ++ coming) start_of_day).number ≡ 0) × ((waiting_times calling_again start_of_day).number ≡ 0)
unfolding read
accepts = (refl, refl, refl)

-- the four landings
pub each : (P : ℕ → Type 0) → P 0 → P 1 → P 2 → P 3 → (i : ℕ) → i < landing_count → P i
each P a b c d zero h = a
each P a b c d (suc zero) h = b
each P a b c d (suc (suc zero)) h = c
each P a b c d (suc (suc (suc zero))) h = d
each P a b c d (suc (suc (suc (suc i)))) h = absurd (omega arith)

small : FiguresWithin (waiting_times calling start_of_day).carried
unfolding read
small =
    let after = (waiting_times calling start_of_day).carried in
    record {
      last = lit≤ tt;
      closed = each (λ i. (landing_of after i).closed ≤ figure_most) (lit≤ tt) (lit≤ tt) (lit≤ tt) (lit≤ tt);
      cycles = each (λ i. (landing_of after i).cycles.0 ≤ figure_most) (lit≤ tt) (lit≤ tt) (lit≤ tt) (lit≤ tt);
      longest = each (λ i. (landing_of after i).longest.0 ≤ figure_most) (lit≤ tt) (lit≤ tt) (lit≤ tt) (lit≤ tt);
    }

-- nothing has grown before the first record
none_grown : Grown 0 0 0 0 no_waits
none_grown = record { closed = lit≤ tt; cycles = lit≤ tt; longest = lit≤ tt; started = lit≤ tt; dark = λ h. refl; mark = refl }

grown : CarriedGrown 0 1 called
unfolding read
grown =
    let none = none_grown in
    carried_grown 0 0 start_of_day (record_here (lamps_at 10 1)) refl (record { four = refl; lamps = lit< tt; landings = (none, (none, (none, (none, tt)))) })

-- a reset at cycle 60
darkened : Darkened 60 (waiting_times calling start_of_day).carried (waiting_times (calling ++ reset_at 60) start_of_day)
unfolding read
darkened = reset_closes_all_waits calling start_of_day 60 accepts.0 (lit≤ tt) (lit< tt)

panel : Panel upd546 lamp_rom lamp_sched
unfolding opened
panel = record {
  legal = refl;
  rom_bytes = below_all 256 lamp_rom (lit< tt) refl;
  sched_bytes = below_all 256 lamp_sched (lit< tt) refl;
  not_refused_is = refl;
}

lent : (held : State) (log : List ℕ) (n : ℕ) → log_bound n ≤ length log → Lent lamp_rom lamp_sched held lamp_rom lamp_sched held log n
lent held log n room = record { same_rom = refl; same_sched = refl; same_state = refl; room = room }

meant : Meant chip upd546_sheet lamp_rom lamp_sched fresh lamp_calls
unfolding opened
meant =
    let written : WrittenBy upd546 lit kept_lit = record { version = Two; buffer = replicate 82 9; done = refl; same = refl } in
    record { one_sheet = (refl, (refl, (refl, (refl, tt)))); given = (lent _ _ _ (lit≤ tt), (refl, (written, (lent _ _ _ (lit≤ tt), tt)))) }

one_day : ReportsAsOneRun chip upd546_sheet lamp_rom lamp_sched fresh lamp_calls
unfolding opened
one_day = every_list_reports_as_one_run upd546_sheet lamp_rom lamp_sched fresh lamp_calls panel sound meant (lit≤ tt)

-- and by the board's calls
on_panel : (c : BoardCall) → c.sheet ≡ upd546_sheet → c.rom ≡ lamp_rom → c.sched ≡ lamp_sched → log_bound c.n ≤ length c.log
    → PanelLent upd546_sheet lamp_rom lamp_sched c
on_panel c same_sheet same_rom same_sched room = record {
  same_sheet = same_sheet;
  same_rom = same_rom;
  same_sched = same_sched;
  room = room;
}

lent_first : CallLent chip upd546_sheet lamp_rom lamp_sched (image_of Two fresh) first_lamp
lent_first = record { same_image = refl; lent = λ e. on_panel first_lamp refl refl refl (lit≤ tt) }

lent_second : CallLent chip upd546_sheet lamp_rom lamp_sched (call_answer upd546 first_lamp).image second_lamp
lent_second = record { same_image = refl; lent = λ e. on_panel second_lamp refl refl refl (lit≤ tt) }

board_day : CallsReportAsOneRun chip upd546_sheet lamp_rom lamp_sched fresh (calls_not_refused chip lamp_board)
unfolding opened image_run call_answer
board_day =
    every_list_of_calls_reports_as_one_run upd546_sheet lamp_rom lamp_sched fresh lamp_board panel sound
    (lent_first, (lent_second, tt)) (lit≤ tt)

pub figures : WaitFigures
unfolding read image_run call_answer
figures =
    record {
      waits_0 = every_rise_is_a_wait (calling ++ coming) start_of_day 0 (lit< tt) accepts.1;
      waits_1 = every_rise_is_a_wait (calling ++ coming) start_of_day 1 (lit< tt) accepts.1;
      waits_2 = every_rise_is_a_wait (calling ++ coming) start_of_day 2 (lit< tt) accepts.1;
      waits_3 = every_rise_is_a_wait (calling ++ coming) start_of_day 3 (lit< tt) accepts.1;
      waits_again = every_rise_is_a_wait calling_again start_of_day 0 (lit< tt) accepts.2;
      reset_taken = darkened.taken;
      reset_dark = darkened.dark;
      reset_last = darkened.last;
      reset_closed = (darkened.landings 0 (lit< tt)).closed;
      reset_cycles = (darkened.landings 0 (lit< tt)).cycles;
      reset_longest = (darkened.landings 1 (lit< tt)).longest;
      reset_none_open = (darkened.landings 1 (lit< tt)).none_open;
      reset_no_start = (darkened.landings 1 (lit< tt)).no_start;
      reset_value = reset_has_value_zero calling start_of_day 60 1 accepts.0 (lit< tt);
      carried_on_is = only_figures_draw_41 calling start_of_day accepts.0 small;
      read_on = read_on_as_joined calling coming start_of_day accepts.0 (only_figures_draw_41 calling start_of_day accepts.0 small);
      last_counts = last_record_counts calling coming start_of_day refl accepts.0;
      last_refused = last_record_counts calling wide start_of_day refl accepts.0;
      grown_four = grown.four;
      grown_lamps = grown.lamps;
      grown_closed = grown.landings.0.closed;
      grown_cycles = grown.landings.0.cycles;
      grown_longest = grown.landings.0.longest;
      grown_started = grown.landings.0.started;
      grown_mark = grown.landings.0.mark;
      grown_dark = grown.landings.1.0.dark refl;
      in_parts = parts_read_as_one (calling ∷ []) coming (refl, tt) (below_all 256 (calling ++ coming) (lit< tt) refl) (lit< tt);
      parts_42 = parts_read_as_one (wide ∷ []) coming (refl, tt) (below_all 256 (wide ++ coming) (lit< tt) refl) (lit< tt);
      parts_41 = parts_read_as_one (wide ∷ []) (take 5 coming) (refl, tt) (below_all 256 (wide ++ take 5 coming) (lit< tt) refl) (lit< tt);
      accepted = one_day.accepted;
      day = ap (λ (r : Reading). r.carried) one_day.report;
      board_accepted = board_day.accepted;
      board_day = ap (λ (r : Reading). r.carried) board_day.report;
    }
