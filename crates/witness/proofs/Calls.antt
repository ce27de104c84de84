-- The figures of the list of calls, clause by clause from the theorem. Assumes nothing.
use mathlib.Core.Path.{◌≡◌, ◌∙◌, refl, ap, ap₂}
use mathlib.Core.List.{List, [], ◌∷◌, map}
use mathlib.Core.Option.{none, some}
use Prim.Native.Nat.{ℕ, ◌≤◌}
use native.Mathlib.Omega.{arith}
use lib.Dec.{lit<, lit≤}
use lib.ListN.{length, replicate}
use Rattle.runs.specs.declared.Version.TheVariants.{One, Two}
use Rattle.runs.specs.TwoRunners.{RunAnswer, stopped, log_bound}
use Rattle.runs.specs.Laws.{Panel}
use Rattle.runs.specs.Lists.{Call, Each, refusal, document_number, WrittenBy, Lent, Meant, runs, StopsHave, RefusedByNumbers, EndsAsOneRun}
use Rattle.upd546.specs.declared.State.{State}
use Rattle.upd546.specs.declared.Sheet.{Sheet}
use Rattle.upd546.specs.TheMachine.{fresh}
use Rattle.upd546.specs.TheSheet.{upd546_sheet}
use Rattle.upd546.specs.StateImage.{state_number}
use Rattle.upd546.specs.TwoRunners.{chip, upd546}
use Rattle.laws.proofs.Lists.{below_all}
use Rattle.laws.proofs.Demand3.{every_list}
use Rattle.witness.specs.Calls.{rom, sched, cut, kept, high, kept_high, calls, carried_out, ListFigures}
use Rattle.witness.proofs.Opened.{opened}

pub panel : Panel upd546 rom sched
unfolding opened
panel = record {
  legal = refl;
  rom_bytes = below_all 256 rom (lit< tt) refl;
  sched_bytes = below_all 256 sched (lit< tt) refl;
  not_refused_is = refl;
}

pub sound : state_number upd546_sheet fresh ≡ 0
unfolding opened
sound = refl

-- a run on the panel, from the state held
lent : (held : State) (log : List ℕ) (n : ℕ) → log_bound n ≤ length log → Lent rom sched held rom sched held log n
lent held log n room = record { same_rom = refl; same_sched = refl; same_state = refl; room = room }

meant : Meant chip upd546_sheet rom sched fresh calls
unfolding opened
meant =
    let one : WrittenBy upd546 cut kept = record { version = One; buffer = replicate 90 9; done = refl; same = refl } in
    let two : WrittenBy upd546 high kept_high = record { version = Two; buffer = replicate 82 9; done = refl; same = refl } in
    record {
      one_sheet = (refl, (refl, (refl, (refl, (refl, (refl, (refl, (refl, tt))))))));
      given =
          (lent _ _ _ (lit≤ tt), (refl, (one, (lent _ _ _ (lit≤ tt), (refl, (two, (lent _ _ _ (lit≤ tt), (lent _ _ _ (lit≤ tt), tt))))))));
    }

-- DEMAND 3, of this list
one_run : EndsAsOneRun chip upd546_sheet rom sched fresh calls
one_run = every_list upd546_sheet rom sched fresh calls panel sound meant

-- a stop is no finish
pub a_stop : (k : ℕ) → some k ≡ none → ⊥
a_stop k e = let z : ◌≡◌ {A = ℕ} 0 1 = cc in omega arith

-- stops that have the number of the unbroken run, which is 23
pub all_23 : (l : List (RunAnswer State)) → StopsHave (some 23) l → Each (λ a. (k : ℕ) → a.end ≡ stopped k → k ≡ 23) l
all_23 [] h = tt
all_23 (a ∷ l) h = (λ k e. let same = h.0 k e in cc, all_23 l h.1)

-- the numbers of a list are the documents'
pub by_numbers : (l : List (Call Sheet State)) → RefusedByNumbers chip l → map (refusal chip) l ≡ map (document_number chip) l
by_numbers [] h = refl
by_numbers (c ∷ l) h = ap₂ (λ (k : ℕ) (ks : List ℕ). k ∷ ks) h.0 (by_numbers l h.1)

pub figures : ListFigures
unfolding opened
figures = record {
  pc = ap (λ (s : State). s.core.flow.pc) one_run.ends.state;
  cycle = ap (λ (s : State). s.cycle.0) one_run.ends.state;
  image = one_run.ends.image Two (replicate 83 9);
  image_one = one_run.ends.image One (replicate 82 9);
  counts = record { log = one_run.ends.log; cycles = one_run.ends.cycles; begun = one_run.ends.begun; clocks = one_run.ends.clocks };
  not_all_finish = λ all. a_stop 23 (one_run.ends.finish.0 all);
  each_stop = all_23 (runs chip carried_out) one_run.ends.stops;
  call = λ kind.
      let one = one_run.call (lit≤ tt) kind (replicate 224 0) (lit≤ tt) in
      record {
        end = one.end;
        pc = ap (λ (s : State). s.core.flow.pc) one.state;
        written = one.written;
        log = one.log;
        cycles = one.cycles;
        begun = one.begun;
        clocks = one.clocks;
      };
  with_refused = record {
    log = one_run.nothing.log ∙ one_run.ends.log;
    cycles = one_run.nothing.cycles ∙ one_run.ends.cycles;
    begun = one_run.nothing.begun ∙ one_run.ends.begun;
    clocks = one_run.nothing.clocks ∙ one_run.ends.clocks;
  };
  by_21 = one_run.unchanged.0;
  by_11 = one_run.unchanged.1.1.0;
  by_1 = one_run.unchanged.1.1.1.0;
  by_31 = one_run.unchanged.1.1.1.1.1.0;
  by_54 = one_run.unchanged.1.1.1.1.1.1.1.1.0;
  numbers = by_numbers calls one_run.refusals;
  next_run = λ kind log. one_run.goes_on.next_run kind log 281474976710641 (lit≤ tt);
  next_save = one_run.goes_on.next_save Two (replicate 82 0) refl (lit≤ tt);
  next_save_one = one_run.goes_on.next_save One (replicate 81 0) refl (lit≤ tt);
  next_restore = one_run.goes_on.next_restore;
}
