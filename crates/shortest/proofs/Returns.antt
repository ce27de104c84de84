-- A run that comes back to a state that it had, but for the cycle number, while the lines stay as they are, never stops. Assumes nothing.
use mathlib.Core.Path.{◌≡◌, ◌∙◌, refl, sym, ap}
use mathlib.Core.Bool.{Bool, true, false}
use mathlib.Core.List.{List, []}
use mathlib.Core.Option.{Option, none, some}
use Prim.Native.Nat.{ℕ, zero, suc, ◌+◌, ◌-◌, ◌<◌, ◌≤◌}
use native.Mathlib.Omega.{arith}
use lib.Dec.{eqb}
use Rattle.runs.specs.Machine.{Out, stop, went}
use Rattle.runs.specs.TwoRunners.{Ran, still, on_out, unbroken}
use Rattle.runs.proofs.Cut.{first_stop, unbroken-cut}
use Rattle.upd546.specs.declared.Lines.{Lines}
use Rattle.upd546.specs.declared.Sheet.{Sheet}
use Rattle.upd546.specs.declared.State.{State}
use Rattle.upd546.specs.declared.Core.{Core}
use Rattle.upd546.specs.Parts.{with_count}
use Rattle.upd546.specs.Instructions.{Given, Effect, Instruction, instruction}
use Rattle.upd546.specs.TheMachine.{reset_count}
use Rattle.upd546.specs.TheLineSchedule.{lines_at}
use Rattle.upd546.specs.OneMachineCycle.{accepts, taken, given, begun, instruction_stop, passed_over, on_stop, execute, on_owed, on_accepts, ordinary_cycle, reset_cycle, counted, on_count, cycle}
use Rattle.upd546.specs.TwoRunners.{chip}
use Rattle.shortest.specs.Returns.{at_cycle, timeless, Settled}

-- ONE CYCLE

-- what a cycle comes to but for the log, as it is, and at cycle c
abbrev lean : Out State → Out State
lean (stop k) = stop k
lean (went t w b) = went t [] 0

abbrev lean_at : ℕ → Out State → Out State
lean_at c (stop k) = stop k
lean_at c (went t w b) = went (at_cycle c t) [] 0

module _ (sheet : Sheet) (rom : List ℕ) (l : Lines) where
  -- a cycle with these lines
  abbrev pub moved : State → Out State
  moved s = on_count (eqb (counted l.res s.count) reset_count) (counted l.res s.count) sheet rom l s

  execute-by : (s : State) (c : Core) → lean (execute sheet rom l s c) ≡ lean_at (s.cycle.0 + 1) (execute sheet rom l (timeless s) c)
  unfolding execute given begun
  execute-by s c = go (instruction_stop i g e)
    where
      g : Given
      g = given sheet rom l s c

      i : Instruction
      i = instruction g.code

      e : Effect
      e = i.effect g

      go : (k : ℕ) → lean (on_stop k (begun i g e (passed_over rom e) s)) ≡ lean_at (s.cycle.0 + 1) (on_stop k (begun i g e (passed_over rom e) (timeless s)))
      go zero = refl
      go (suc k) = refl

  ordinary-by : (s : State) → lean (ordinary_cycle sheet rom l s) ≡ lean_at (s.cycle.0 + 1) (ordinary_cycle sheet rom l (timeless s))
  unfolding ordinary_cycle
  ordinary-by s = go (accepts s.core)
    where
      due : (k : ℕ) → lean (on_owed k sheet rom l s (taken l s.core)) ≡ lean_at (s.cycle.0 + 1) (on_owed k sheet rom l (timeless s) (taken l s.core))
      due zero = execute-by s (taken l s.core)
      due (suc k) = refl

      go : (b : Bool) → lean (on_accepts b sheet rom l s) ≡ lean_at (s.cycle.0 + 1) (on_accepts b sheet rom l (timeless s))
      go true = refl
      go false = due s.core.owed

  -- it moves by the state alone, and the cycle number rises by 1
  moved_by_lem : (s : State) → lean (moved s) ≡ lean_at (s.cycle.0 + 1) (moved (timeless s))
  unfolding reset_cycle
  moved_by_lem s = go (eqb k reset_count)
    where
      k : ℕ
      k = counted l.res s.count

      go : (b : Bool) → lean (on_count b k sheet rom l s) ≡ lean_at (s.cycle.0 + 1) (on_count b k sheet rom l (timeless s))
      go true = refl
      go false = ordinary-by (with_count k s)

  -- MANY CYCLES

  -- n cycles with these lines, the cycle number left at 0
  pub under : ℕ → State → Ran State
  under zero x = still x none
  under (suc n) x = on_out (moved x) x (λ t. under n (timeless t))

  module _ (sched : List ℕ) (from : ℕ) (always : (c : ℕ) → from ≤ c → lines_at sched c ≡ l) where
    cycle_moves : (s : State) → from ≤ s.cycle.0 → cycle sheet rom sched s ≡ moved s
    unfolding cycle
    cycle_moves s h =
        ap (λ (l : Lines). on_count (eqb (counted l.res s.count) reset_count) (counted l.res s.count) sheet rom l s) (always s.cycle.0 h)

    as_under : (n : ℕ) (s : State) → from ≤ s.cycle.0 → (unbroken (chip sheet) rom sched n s).number ≡ (under n (timeless s)).number
    unfolding unbroken under
    as_under zero s h = refl
    as_under (suc n) s h = rw (cycle_moves s h) (go (moved s) (moved (timeless s)) (moved_by_lem s) (λ t. as_under n t))
      where
        go : (o q : Out State) → lean o ≡ lean_at (s.cycle.0 + 1) q
            → ((t : State) → from ≤ t.cycle.0 → (unbroken (chip sheet) rom sched n t).number ≡ (under n (timeless t)).number)
            → (on_out o s (λ t. unbroken (chip sheet) rom sched n t)).number ≡ (on_out q (timeless s) (λ t. under n (timeless t))).number
        go (stop k) (stop j) e ih = let same : k ≡ j = cc in ap some same
        go (stop k) (went u x d) e ih = cc
        go (went t w b) (stop j) e ih = cc
        go (went t w b) (went u x d) e ih =
            let same : t ≡ at_cycle (s.cycle.0 + 1) u = cc in
            let risen : t.cycle.0 ≡ s.cycle.0 + 1 = ap (λ (z : State). z.cycle.0) same in
            ih t (omega arith) ∙ ap (λ (z : State). (under n (timeless z)).number) same

    -- states that differ in the cycle number alone stop alike
    alike : (n : ℕ) (s t : State) → from ≤ s.cycle.0 → from ≤ t.cycle.0 → timeless s ≡ timeless t
        → (unbroken (chip sheet) rom sched n s).number ≡ (unbroken (chip sheet) rom sched n t).number
    alike n s t hs ht e = as_under n s hs ∙ ap (λ (z : State). (under n z).number) e ∙ sym (as_under n t ht)

-- COMING BACK

-- p cycles, so many times
laps : ℕ → ℕ → ℕ
laps p zero = 0
laps p (suc m) = p + laps p m

enough : (p n : ℕ) → 0 < p → n ≤ laps p n
unfolding laps
enough p zero h = omega arith
enough p (suc n) h = omega (arith, enough p n h)

-- what didn't stop later didn't stop before
front : (o q : Option ℕ) → first_stop o q ≡ none → o ≡ none
front none q e = refl
front (some k) q e = e

module _ (sheet : Sheet) (rom sched : List ℕ) (s : State) (settled : Settled sched s.cycle.0) where
  abbrev run : ℕ → State → Ran State
  run n t = unbroken (chip sheet) rom sched n t

  module _ (p : ℕ) (some_cycles : 0 < p) (goes : (run p s).number ≡ none) (later : s.cycle.0 ≤ (run p s).state.cycle.0)
      (back : timeless s ≡ timeless (run p s).state) where
    cut : (a b : ℕ) (t : State) → (run (a + b) t).number ≡ first_stop (run a t).number (run b (run a t).state).number
    cut a b t = ap (λ (r : Ran State). r.number) (unbroken-cut (chip sheet) rom sched a b t)

    -- after p cycles the run goes on from where it stands
    on : (n : ℕ) → (run (p + n) s).number ≡ (run n (run p s).state).number
    on n = cut p n s ∙ ap (λ (o : Option ℕ). first_stop o (run n (run p s).state).number) goes

    -- and so as it did from s
    again : (n : ℕ) → (run (p + n) s).number ≡ (run n s).number
    again n = on n ∙ sym (alike sheet rom (lines_at sched s.cycle.0) sched s.cycle.0 settled n s (run p s).state (omega arith) later back)

    round : (m : ℕ) → (run (laps p m) s).number ≡ none
    unfolding laps unbroken
    round zero = refl
    round (suc m) = again (laps p m) ∙ round m

    never : (n : ℕ) → (run n s).number ≡ none
    never n =
        let all : n + (laps p n - n) ≡ laps p n = omega (arith, enough p n some_cycles) in
        let whole : (run (n + (laps p n - n)) s).number ≡ none = ap (λ (m : ℕ). (run m s).number) all ∙ round n in
        front (run n s).number (run (laps p n - n) (run n s).state).number (sym (cut n (laps p n - n) s) ∙ whole)

    -- a run that came back never stops
    pub never_stops : (n : ℕ) → (run n (run p s).state).number ≡ none
    never_stops n = sym (on n) ∙ never (p + n)
