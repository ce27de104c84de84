-- The beginning that trials share: up to the cycle of record k, runs with k records or more are the same, and go on from where they then
-- stand. Assumes nothing.
use mathlib.Core.Path.{◌≡◌, ◌∙◌, refl, sym, ap}
use mathlib.Core.List.{List}
use mathlib.Core.Logic.{⊎_elim}
use mathlib.Core.Option.{Option}
use Prim.Native.Nat.{ℕ, zero, suc, ◌+◌, ◌-◌, ◌<◌, ◌≤◌}
use native.Mathlib.Nat.{eq-or-lt_of_le, zero-add, sub-zero, suc-add}
use native.Mathlib.Omega.{arith}
use lib.Dec.{eqb}
use lib.ListN.{length}
use Rattle.runs.specs.Machine.{Machine, Out, stop, went}
use Rattle.runs.specs.Laws.{Panel}
use Rattle.runs.specs.Lists.{Kind, run_answer, AnswersAs}
use Rattle.runs.specs.Refusals.{cycle_limit}
use Rattle.runs.specs.TwoRunners.{Ran, begins, on_out, end_with, log_bound, unbroken, run_number}
use Rattle.runs.proofs.Iterate.{Reached, reaches}
use Rattle.runs.proofs.Calls.{fit_run, run_same}
use Rattle.upd546.specs.declared.Lines.{Lines}
use Rattle.upd546.specs.declared.Sheet.{Sheet}
use Rattle.upd546.specs.declared.State.{State}
use Rattle.upd546.specs.TheMachine.{reset_count}
use Rattle.upd546.specs.TheLineSchedule.{record_count, record_cycle, lines_at, schedule_number}
use Rattle.upd546.specs.OneMachineCycle.{counted, on_count, cycle}
use Rattle.upd546.specs.TwoRunners.{chip}
use Rattle.laws.proofs.Chip.{chip_laws}
use Rattle.laws.proofs.Demand3.{laws}
use Rattle.laws.proofs.Lines.{panel_schedule}
use Rattle.schedule.proofs.Records.{rises}
use Rattle.shortest.specs.Search.{first_records}
use Rattle.shortest.specs.Tried.{Ahead, KeptFrom}
use Rattle.shortest.proofs.FirstRecords.{lines_later, lines_first}
use Rattle.shortest.proofs.Ends.{Sound, sound_first, trial_ends}

-- a cycle looks at no more of a schedule than its lines
cycle_by_lines : (sheet : Sheet) (rom a b : List ℕ) (s : State) → lines_at a s.cycle.0 ≡ lines_at b s.cycle.0
    → cycle sheet rom a s ≡ cycle sheet rom b s
unfolding cycle
cycle_by_lines sheet rom a b s e =
    ap (λ (l : Lines). on_count (eqb (counted l.res s.count) reset_count) (counted l.res s.count) sheet rom l s) e

-- and d cycles at no more than the lines of those
same_cycles : (sheet : Sheet) (rom a b : List ℕ) → Panel (chip sheet) rom a → (d : ℕ) (s : State) → (chip sheet).state_number s ≡ 0
    → s.cycle.0 + d ≤ cycle_limit → ((c : ℕ) → c < d → lines_at a (s.cycle.0 + c) ≡ lines_at b (s.cycle.0 + c))
    → unbroken (chip sheet) rom a d s ≡ unbroken (chip sheet) rom b d s
unfolding unbroken
same_cycles sheet rom a b p zero s v h e = refl
same_cycles sheet rom a b p (suc d) s v h e =
    let here : s.cycle.0 + 0 ≡ s.cycle.0 = omega arith in
    let first : lines_at a s.cycle.0 ≡ lines_at b s.cycle.0 = rw here at (e 0 (omega arith)) in
    go (cycle sheet rom a s) refl (same_cycles sheet rom a b p d)
    ∙ ap (λ (o : Out State). on_out o s (λ t. unbroken (chip sheet) rom b d t)) (cycle_by_lines sheet rom a b s first)
  where
    go : (o : Out State) → cycle sheet rom a s ≡ o
        → ((t : State) → (chip sheet).state_number t ≡ 0 → t.cycle.0 + d ≤ cycle_limit
        → ((c : ℕ) → c < d → lines_at a (t.cycle.0 + c) ≡ lines_at b (t.cycle.0 + c))
        → unbroken (chip sheet) rom a d t ≡ unbroken (chip sheet) rom b d t)
        → on_out o s (λ t. unbroken (chip sheet) rom a d t) ≡ on_out o s (λ t. unbroken (chip sheet) rom b d t)
    go (stop k) q ih = refl
    go (went t w x) q ih =
        let one = (chip_laws sheet p.legal).step rom a s t w x p v (omega arith) q in
        ap (begins w x)
        (ih t one.sound (omega (arith, one.rises))
        (λ c l. let further : t.cycle.0 + c ≡ s.cycle.0 + suc c = omega (arith, one.rises) in rw further (e (suc c) (omega arith))))

-- What d + b cycles stop with is what the rest of them do from where d cycles stand. Where those stopped, the rest is one at least.
pub rest : {S : Type 0} (M : Machine S) (rom sched : List ℕ) (d b : ℕ) (s : S)
    → (unbroken M rom sched (d + b) s).number
    ≡ (unbroken M rom sched (d + b - (unbroken M rom sched d s).cycles) (unbroken M rom sched d s).state).number
unfolding unbroken
rest M rom sched zero b s = rw (zero-add, sub-zero)
rest {S} M rom sched (suc d) b s = rw suc-add (go (M.cycle rom sched s) refl (λ t. rest M rom sched d b t))
  where
    after : Ran S → Option ℕ
    after r = (unbroken M rom sched (suc (d + b) - r.cycles) r.state).number

    go : (o : Out S) → M.cycle rom sched s ≡ o
        → ((t : S) → (unbroken M rom sched (d + b) t).number
        ≡ (unbroken M rom sched (d + b - (unbroken M rom sched d t).cycles) (unbroken M rom sched d t).state).number)
        → (on_out o s (λ t. unbroken M rom sched (d + b) t)).number ≡ after (on_out o s (λ t. unbroken M rom sched d t))
    go (stop k) q ih =
        let all : suc (d + b) - 0 ≡ suc (d + b) = omega arith in
        sym (ap (λ (m : ℕ). (unbroken M rom sched m s).number) all ∙ ap (λ (o : Out S). (on_out o s (λ t. unbroken M rom sched (d + b) t)).number) q)
    go (went t w x) q ih =
        let c : ℕ = (unbroken M rom sched d t).cycles in
        let less : d + b - c ≡ suc (d + b) - suc c = omega arith in
        ih t ∙ ap (λ (m : ℕ). (unbroken M rom sched m (unbroken M rom sched d t).state).number) less

module _ (sheet : Sheet) (rom sched : List ℕ) (s : State) (n : ℕ) (w : Sound sheet rom sched s n) (k : ℕ) (some : k < record_count sched) (d : ℕ)
    (ahead : Ahead sched k s.cycle.0 n d) where
  -- what the beginning comes to
  abbrev pub beginning : Ran State
  beginning = unbroken (chip sheet) rom (first_records k sched) d s

  first : Sound sheet rom (first_records k sched) s n
  first = sound_first sheet rom sched s n k (omega arith) w

  read : schedule_number sched ≡ 0
  read = panel_schedule sheet rom sched w.panel.not_refused_is

  -- no line of a later record is seen in it
  later : (c : ℕ) → c < d → (i : ℕ) → k ≤ i → i < record_count sched → s.cycle.0 + c < record_cycle sched i
  later c l i h m =
      ⊎_elim (λ e. omega (arith, ahead.before c l, ap (record_cycle sched) e)) (λ q. omega (arith, ahead.before c l, rises sched read k i q m))
      (eq-or-lt_of_le h)

  shared : (j : ℕ) → k ≤ j → j ≤ record_count sched → beginning ≡ unbroken (chip sheet) rom (first_records j sched) d s
  shared j h m =
      same_cycles sheet rom (first_records k sched) (first_records j sched) first.panel d s w.state (omega (arith, w.limit, ahead.within))
      (λ c l.
      lines_first sched k (omega arith) (s.cycle.0 + c)
      ∙ sym (lines_later sched (s.cycle.0 + c) k j h (λ i p q. later c l i p (omega arith)))
      ∙ sym (lines_first sched j (omega arith) (s.cycle.0 + c)))

  goes_on : (j : ℕ) → k ≤ j → j ≤ record_count sched
      → (unbroken (chip sheet) rom (first_records j sched) (n - beginning.cycles) beginning.state).number
      ≡ (unbroken (chip sheet) rom (first_records j sched) n s).number
  goes_on j h m =
      let all : d + (n - d) ≡ n = omega (arith, ahead.within) in
      let kept = first_records j sched in
      ap (λ (r : Ran State). (unbroken (chip sheet) rom kept (n - r.cycles) r.state).number) (shared j h m)
      ∙ sym (rw all at (rest (chip sheet) rom kept d (n - d) s))

  reached : Reached (chip sheet) d s beginning
  reached = reaches (chip sheet) (chip_laws sheet w.panel.legal) rom (first_records k sched) first.panel d s w.state (omega (arith, w.limit, ahead.within))

  stands : Sound sheet rom sched beginning.state (n - beginning.cycles)
  stands = record {
    panel = w.panel;
    state = reached.sound;
    limit = omega (arith, reached.rises, reached.cycles, w.limit, ahead.within);
  }

  -- so the trials go on from there
  kept_here : KeptFrom (chip sheet) rom sched s n k beginning.state (n - beginning.cycles)
  kept_here = record {
    taken = fit_run (chip sheet) rom sched beginning.state (n - beginning.cycles)
        (record { legal = w.panel.legal; panel = w.panel.not_refused_is; state = stands.state; limit = stands.limit });
    fewer = omega arith;
    same = λ j h m.
        trial_ends sheet rom (first_records j sched) beginning.state (n - beginning.cycles)
        (sound_first sheet rom sched beginning.state (n - beginning.cycles) j m stands)
        ∙ ap end_with (goes_on j h m)
        ∙ sym (trial_ends sheet rom (first_records j sched) s n (sound_first sheet rom sched s n j m w));
  }

  pub done_within : beginning.cycles ≤ n
  done_within = omega (arith, reached.cycles, ahead.within)

  -- a run of d cycles that is lent 16n bytes leads there
  pub leads_there : (kind : Kind) (log : List ℕ) → log_bound n ≤ length log
      → AnswersAs (run_answer (chip sheet) kind rom (first_records k sched) s log d) beginning
  leads_there kind log room =
      run_same (chip sheet) (laws sheet w.panel.legal) kind rom (first_records k sched) s log d first.panel w.state
      (omega (arith, w.limit, ahead.within)) (omega (arith, ahead.within))

  pub kept_from : (t : State) (left : ℕ) → t ≡ beginning.state → left ≡ n - beginning.cycles → KeptFrom (chip sheet) rom sched s n k t left
  kept_from t left e q = rw (e, q) kept_here

-- one beginning after the other
pub kept_on_lem : {S : Type 0} (M : Machine S) (rom sched : List ℕ) (s : S) (n k : ℕ) (t : S) (left : ℕ) (u : S) (rem : ℕ)
    → KeptFrom M rom sched s n k t left → KeptFrom M rom sched t left k u rem → KeptFrom M rom sched s n k u rem
kept_on_lem M rom sched s n k t left u rem a b = record {
  taken = b.taken;
  fewer = omega (arith, a.fewer, b.fewer);
  same = λ j h m. b.same j h m ∙ a.same j h m;
}

-- and one record more
pub kept_next : {S : Type 0} (M : Machine S) (rom sched : List ℕ) (s : S) (n k : ℕ) (t : S) (left : ℕ) → KeptFrom M rom sched s n k t left
    → KeptFrom M rom sched s n (k + 1) t left
kept_next M rom sched s n k t left a = record { taken = a.taken; fewer = a.fewer; same = λ j h m. a.same j (omega arith) m }

-- at the start
pub kept_start : {S : Type 0} (M : Machine S) (rom sched : List ℕ) (s : S) (n : ℕ) → run_number M rom sched s n ≡ 0 → KeptFrom M rom sched s n 0 s n
kept_start M rom sched s n e = record { taken = e; fewer = omega arith; same = λ j h m. refl }
