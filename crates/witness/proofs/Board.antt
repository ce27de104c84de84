-- The figures of the board's calls, clause by clause from the theorems. Assumes nothing.
use mathlib.Core.Path.{◌≡◌, ◌∙◌, refl, sym, ap, ap₂}
use mathlib.Core.List.{List, [], ◌∷◌, map}
use mathlib.Core.Option.{some}
use Prim.Native.Nat.{ℕ, suc, ◌≤◌}
use native.Mathlib.Omega.{arith}
use lib.Dec.{lit<, lit≤}
use lib.ListN.{length, get_or, take}
use Rattle.runs.specs.TwoRunners.{log_bound, RestoreAnswer, current_answer}
use Rattle.runs.specs.Lists.{Each}
use Rattle.upd546.specs.declared.State.{State}
use Rattle.upd546.specs.declared.Sheet.{Sheet}
use Rattle.upd546.specs.TheMachine.{fresh}
use Rattle.upd546.specs.TheSheet.{upd546_sheet}
use Rattle.upd546.specs.TwoRunners.{chip, upd546}
use Rattle.laws.proofs.Lists.{below_all}
use Rattle.calls.specs.Call.{BoardCall, long_enough, image_run, call_answer, board_answer}
use Rattle.calls.specs.EveryCall.{refused_report, call_refusal, call_number, Refuses, Rewrites, TellsItsRun}
use Rattle.calls.specs.Lists.{PanelLent, calls_not_refused, CallLent, OnOneImage, image_after, CallsEndAsOneRun}
use Rattle.calls.proofs.Chip.{every_finish_or_stop_rewrites, every_call_tells_its_run, every_list_of_calls, every_list_on_one_image, every_accepted_image}
use Rattle.witness.specs.Calls.{rom, sched, wanted_image}
use Rattle.witness.specs.Board.{first, second, short_report, bad_rom, on_other, on_old, last, start, between, calls, carried_out, reported_calls, on_one, left, BoardFigures}
use Rattle.witness.proofs.Opened.{opened}
use Rattle.witness.proofs.Calls.{panel, sound, a_stop}

-- what to unfold where a call is computed
unfoldable called : Unit {0}
unfolding opened image_run call_answer
called = tt

-- a call that is lent the panel
on_panel : (c : BoardCall) → c.sheet ≡ upd546_sheet → c.rom ≡ rom → c.sched ≡ sched → log_bound c.n ≤ length c.log
    → PanelLent upd546_sheet rom sched c
on_panel c same_sheet same_rom same_sched room = record {
  same_sheet = same_sheet;
  same_rom = same_rom;
  same_sched = same_sched;
  room = room;
}

lent_first : CallLent chip upd546_sheet rom sched start (first start)
lent_first = record { same_image = refl; lent = λ e. on_panel (first start) refl refl refl (lit≤ tt) }

lent_second : CallLent chip upd546_sheet rom sched between (second between)
lent_second = record { same_image = refl; lent = λ e. on_panel (second between) refl refl refl (lit≤ tt) }

meant : OnOneImage chip upd546_sheet rom sched start (calls_not_refused chip calls)
unfolding called
meant = (lent_first, (lent_second, tt))

-- THE POWER-OFF GUARANTEE, of this list
one_run : CallsEndAsOneRun chip upd546_sheet rom sched start fresh calls
one_run = every_list_of_calls upd546_sheet rom sched fresh calls panel sound meant

-- of its first call alone, which finishes
one_finish : CallsEndAsOneRun chip upd546_sheet rom sched start fresh (first start ∷ [])
unfolding called
one_finish = every_list_of_calls upd546_sheet rom sched fresh (first start ∷ []) panel sound (lent_first, tt)

-- of the calls whose reports have 32 bytes
with_reports : CallsEndAsOneRun chip upd546_sheet rom sched start fresh reported_calls
unfolding called
with_reports = every_list_of_calls upd546_sheet rom sched fresh reported_calls panel sound (lent_first, (lent_second, tt))

-- a number that refuses
a_number : {k : ℕ} → suc k ≡ 0 → ⊥
a_number e = omega arith

-- and of the calls on one image
lent : OnOneImage chip upd546_sheet rom sched start on_one
unfolding called
lent =
    let refused_one : CallLent chip upd546_sheet rom sched between (short_report between)
    = record { same_image = refl; lent = λ e. absurd (a_number e) } in
    let refused_two : CallLent chip upd546_sheet rom sched between (bad_rom between)
    = record { same_image = refl; lent = λ e. absurd (a_number e) } in
    (lent_first, (refused_one, (refused_two, (lent_second, tt))))

kept : OnOneImage chip upd546_sheet rom sched start (calls_not_refused chip on_one)
    × (image_after chip start on_one ≡ image_after chip start (calls_not_refused chip on_one))
kept = every_list_on_one_image upd546_sheet rom sched start on_one lent

on_one_image : CallsEndAsOneRun chip upd546_sheet rom sched start (current_answer upd546 start).state on_one
unfolding called
on_one_image = every_accepted_image upd546_sheet rom sched start on_one (below_all 256 start (lit< tt) refl) panel refl kept.0

-- a call that was refused, as a whole
pub whole : (sheet : Sheet) (k : ℕ) (c : BoardCall) → Refuses (chip sheet) k c
    → call_answer (chip sheet) c ≡ left k c (refused_report (long_enough c) c.report)
whole sheet k c r = λ i. record { number = r.number i; image = r.image i; log = r.log i; report = r.report i }

-- the numbers of a list are the documents'
pub by_numbers : (l : List BoardCall) → Each (λ c. call_refusal (chip c.sheet) c ≡ call_number (chip c.sheet) c) l
    → map (λ (c : BoardCall). call_refusal (chip c.sheet) c) l ≡ map (λ (c : BoardCall). call_number (chip c.sheet) c) l
by_numbers [] h = refl
by_numbers (c ∷ l) h = ap₂ (λ (k : ℕ) (ks : List ℕ). k ∷ ks) h.0 (by_numbers l h.1)

-- stops that have the number of the unbroken run, which is 23
all_23 : (l : List BoardCall) → Each (λ c. (k : ℕ) → (board_answer chip c).number ≡ suc k → some 23 ≡ some (suc k)) l
    → Each (λ c. (k : ℕ) → (board_answer chip c).number ≡ suc k → suc k ≡ 23) l
all_23 [] h = tt
all_23 (c ∷ l) h = (λ k e. let same = h.0 k e in cc, all_23 l h.1)

tells : TellsItsRun upd546 (bad_rom between)
tells = every_call_tells_its_run upd546_sheet (bad_rom between) (lit< tt) (lit≤ tt)

tells_stop : TellsItsRun upd546 (second between)
tells_stop = every_call_tells_its_run upd546_sheet (second between) (lit< tt) (lit≤ tt)

rewrites : Rewrites upd546 (first start)
unfolding called
rewrites = every_finish_or_stop_rewrites upd546_sheet (first start) panel.rom_bytes panel.sched_bytes refl

pub figures : BoardFigures
unfolding called
figures =
    let nothing = with_reports.nothing (lit≤ tt, (lit≤ tt, (lit≤ tt, (lit≤ tt, tt)))) in
    record {
      image = one_run.ends.image;
      restored = ap (λ (r : RestoreAnswer State). r.state.core.flow.pc) one_run.ends.state;
      log = one_run.ends.log;
      cycles = one_run.ends.cycles;
      begun = one_run.ends.begun;
      not_all_finish = λ all. a_stop 23 (one_run.ends.finish.0 all);
      each_stop = all_23 carried_out one_run.ends.stops;
      all_finish = (one_finish.ends.finish.1 refl).0;
      joined_log_is = nothing.log ∙ with_reports.ends.log;
      all_cycles = nothing.cycles ∙ with_reports.ends.cycles;
      all_begun = nothing.begun ∙ with_reports.ends.begun;
      numbers = by_numbers calls one_run.refusals;
      by_31 = whole upd546_sheet 31 on_other one_run.unchanged.1.0;
      by_31_old = whole upd546_sheet 31 on_old one_run.unchanged.1.1.0;
      by_1 = whole upd546_sheet 1 (short_report between) one_run.unchanged.1.1.1.0;
      by_21 = whole upd546_sheet 21 (bad_rom between) one_run.unchanged.1.1.1.1.0;
      next =
          one_run.goes_on (last wanted_image) (sym one_run.ends.image) (on_panel (last wanted_image) refl refl refl (lit≤ tt))
          (lit≤ tt) (lit≤ tt);
      saved = rewrites.saved;
      owed_byte = ap (λ (bytes : List ℕ). get_or bytes 17 0) rewrites.image;
      owed_kept = ap (λ (r : RestoreAnswer State). r.state.core.owed) rewrites.restores;
      second_end = tells_stop.end;
      second_log = ap (take 16) tells_stop.log;
      second_cycles = tells_stop.cycles;
      second_begun = tells_stop.begun;
      second_written = tells_stop.written;
      second_steps = tells_stop.steps;
      refused_end = tells.end;
      refused_log = tells.log;
      refused_cycles = tells.cycles;
      refused_written = tells.written;
      one_image = kept.1 ∙ on_one_image.ends.image;
      one_image_log = on_one_image.ends.log;
    }
