-- A cycle is a reset cycle or an ordinary one with the new count; the chip is the ordinary machine while RES is low and its count 0.
-- Assumes nothing.
use mathlib.Core.Path.{◌≡◌, ◌∙◌, refl, sym, ap, subst}
use mathlib.Core.Bool.{Bool, true, false, cond, not}
use mathlib.Core.List.{List, [], ◌++◌}
use Prim.Native.Nat.{ℕ, zero, suc, ◌+◌, ◌-◌, ◌<◌, ◌≤◌, min}
use native.Mathlib.Nat.{add-zero}
use native.Mathlib.Omega.{arith}
use lib.Dec.{eqb}
use borrow.Author.Tests.{eqb-true, eqb-false, eq-eqb, ne_eqb, not-true}
use Rattle.runs.specs.Machine.{Out, stop, went}
use Rattle.runs.specs.TwoRunners.{Ran, begins, on_out, unbroken}
use Rattle.upd546.specs.declared.Core.{Core}
use Rattle.upd546.specs.declared.Lines.{Lines}
use Rattle.upd546.specs.declared.State.{State}
use Rattle.upd546.specs.declared.Sheet.{Sheet}
use Rattle.upd546.specs.TheMachine.{reset_count}
use Rattle.upd546.specs.Parts.{with_count}
use Rattle.upd546.specs.TheLineSchedule.{lines_at}
use Rattle.upd546.specs.OneMachineCycle.{accepts, taken, given, instruction_stop, passed_over, begun, on_stop, execute, on_owed, on_accepts, ordinary_cycle, counted, cleared, reset_cycle, on_count, cycle}
use Rattle.upd546.specs.Ports.{reset_record, log_bytes}
use Rattle.upd546.specs.Instructions.{Given, Effect, Instruction, instruction}
use Rattle.upd546.specs.TwoRunners.{chip}
use Rattle.laws.specs.Ordinary.{steps_of, ordinary}
use Rattle.laws.specs.Reset.{count_after, recounted, ResetDue, no_reset, carrying, Unreset, SameButCount, Counts, EveryCycleCountsRes, EveryRunCountsRes}
use Rattle.laws.proofs.Lists.{and_left, and_right}

pub counted-small : (res count : ℕ) → counted res count ≤ reset_count
counted-small zero count = omega arith
counted-small (suc res) count = omega arith

module _ (sheet : Sheet) (rom sched : List ℕ) (s : State) where
  -- what holds of a reset cycle, and of an ordinary one with the count that the cycle leaves, holds of the cycle
  pub by_count : (P : Out State → Type 0) → (ResetDue sched s → P (reset_cycle (lines_at sched s.cycle.0) s))
      → ((ResetDue sched s → ⊥) → P (steps_of sheet rom sched (recounted sched s))) → P (cycle sheet rom sched s)
  unfolding cycle
  by_count P r o = go (eqb (count_after sched s.cycle.0 s.count) reset_count) refl
    where
      go : (b : Bool) → eqb (count_after sched s.cycle.0 s.count) reset_count ≡ b
          → P (on_count b (count_after sched s.cycle.0 s.count) sheet rom (lines_at sched s.cycle.0) s)
      go true e = r (eqb-true _ _ e)
      go false e = o (eqb-false _ _ e)

  pub either : (P : Out State → Type 0) → P (reset_cycle (lines_at sched s.cycle.0) s) → P (steps_of sheet rom sched (recounted sched s))
      → P (cycle sheet rom sched s)
  either P r o = by_count P (λ e. r) (λ n. o)

  pub resets : ResetDue sched s → cycle sheet rom sched s ≡ reset_cycle (lines_at sched s.cycle.0) s
  resets e = by_count (λ o. o ≡ reset_cycle (lines_at sched s.cycle.0) s) (λ d. refl) (λ n. absurd (n e))

  pub steps : (ResetDue sched s → ⊥) → cycle sheet rom sched s ≡ steps_of sheet rom sched (recounted sched s)
  steps n = by_count (λ o. o ≡ steps_of sheet rom sched (recounted sched s)) (λ d. absurd (n d)) (λ m. refl)

-- RES LOW AND A COUNT OF 0

module _ (sched : List ℕ) (s : State) (u : Unreset sched s) where
  low_leaves : count_after sched s.cycle.0 s.count ≡ 0
  low_leaves = ap (λ (r : ℕ). counted r s.count) u.low

  none_due : ResetDue sched s → ⊥
  none_due d = omega (arith, low_leaves, d)

  same_count : recounted sched s ≡ s
  same_count = ap (λ (k : ℕ). with_count k s) (low_leaves ∙ sym u.none)

-- THE LAW: such a cycle is an ordinary one
pub ordinary-cycle : (sheet : Sheet) (rom sched : List ℕ) (s : State) → Unreset sched s
    → cycle sheet rom sched s ≡ steps_of sheet rom sched s
ordinary-cycle sheet rom sched s u = steps sheet rom sched s (none_due sched s u) ∙ ap (steps_of sheet rom sched) (same_count sched s u)

-- THE COUNT IS CARRIED: nothing in the steps a to d looks at it

module _ (sheet : Sheet) (rom : List ℕ) (l : Lines) (s : State) (k : ℕ) where
  execute-carries : (c : Core) → execute sheet rom l (with_count k s) c ≡ carrying k (execute sheet rom l s c)
  unfolding execute begun given
  execute-carries c =
      let g = given sheet rom l s c in
      let i = instruction g.code in
      go (instruction_stop i g (i.effect g)) i g (i.effect g) (passed_over rom (i.effect g))
    where
      go : (n : ℕ) (i : Instruction) (g : Given) (e : Effect) (over : ℕ)
          → on_stop n (begun i g e over (with_count k s)) ≡ carrying k (on_stop n (begun i g e over s))
      go zero i g e over = refl
      go (suc n) i g e over = refl

  owed_carries : (n : ℕ) (c : Core) → on_owed n sheet rom l (with_count k s) c ≡ carrying k (on_owed n sheet rom l s c)
  owed_carries zero c = execute-carries c
  owed_carries (suc n) c = refl

  pub ordinary-carries : ordinary_cycle sheet rom l (with_count k s) ≡ carrying k (ordinary_cycle sheet rom l s)
  unfolding ordinary_cycle
  ordinary-carries = go (accepts s.core)
    where
      go : (t : Bool) → on_accepts t sheet rom l (with_count k s) ≡ carrying k (on_accepts t sheet rom l s)
      go true = refl
      go false = owed_carries s.core.owed (taken l s.core)

-- THE LAW: a cycle that isn't a reset cycle is an ordinary one of the state with any other count, and then its own count
pub counted-cycle : (sheet : Sheet) (rom sched : List ℕ) (s : State) (k : ℕ) → (ResetDue sched s → ⊥)
    → cycle sheet rom sched s ≡ carrying (count_after sched s.cycle.0 s.count) (steps_of sheet rom sched (with_count k s))
counted-cycle sheet rom sched s k n =
    steps sheet rom sched s n
    ∙ ordinary-carries sheet rom (lines_at sched s.cycle.0) (with_count k s) (count_after sched s.cycle.0 s.count)

-- the steps a to d leave the count, and add 1 to the cycle number
abbrev Leaves : ℕ → ℕ → Out State → Type 0
Leaves n k (stop m) = Unit {0}
Leaves n k (went t w b) = (t.cycle.0 ≡ n + 1) × (t.count ≡ k)

module _ (sheet : Sheet) (rom : List ℕ) (l : Lines) (s : State) where
  execute-leaves : (c : Core) → Leaves s.cycle.0 s.count (execute sheet rom l s c)
  unfolding execute begun
  execute-leaves c =
      let g = given sheet rom l s c in
      let i = instruction g.code in
      go (instruction_stop i g (i.effect g)) i g (i.effect g) (passed_over rom (i.effect g))
    where
      go : (k : ℕ) (i : Instruction) (g : Given) (e : Effect) (over : ℕ) → Leaves s.cycle.0 s.count (on_stop k (begun i g e over s))
      go zero i g e over = (refl, refl)
      go (suc k) i g e over = tt

  owed_leaves : (k : ℕ) (c : Core) → Leaves s.cycle.0 s.count (on_owed k sheet rom l s c)
  owed_leaves zero c = execute-leaves c
  owed_leaves (suc k) c = (refl, refl)

  ordinary-leaves : Leaves s.cycle.0 s.count (ordinary_cycle sheet rom l s)
  unfolding ordinary_cycle
  ordinary-leaves = go (accepts s.core)
    where
      go : (t : Bool) → Leaves s.cycle.0 s.count (on_accepts t sheet rom l s)
      go true = (refl, refl)
      go false = owed_leaves s.core.owed (taken l s.core)

pub steps_leave : (sheet : Sheet) (rom sched : List ℕ) (s t : State) (w : List ℕ) (b : ℕ) → steps_of sheet rom sched s ≡ went t w b
    → (t.cycle.0 ≡ s.cycle.0 + 1) × (t.count ≡ s.count)
steps_leave sheet rom sched s t w b e =
    subst (Leaves s.cycle.0 s.count) e (ordinary-leaves sheet rom (lines_at sched s.cycle.0) s)

-- WHAT A CYCLE MAKES OF THE COUNT

module _ (sheet : Sheet) (rom sched : List ℕ) (s : State) where
  abbrev Counting : Out State → Type 0
  Counting (stop k) = Unit {0}
  Counting (went t w b) = Counts sched s t w b

  ordinary-counts : (ResetDue sched s → ⊥) → (o : Out State) → Leaves s.cycle.0 (count_after sched s.cycle.0 s.count) o
      → Counting o
  ordinary-counts n (stop k) e = tt
  ordinary-counts n (went t w b) e = record { rises = e.0; count = e.1; resets = λ z. absurd (n (sym e.1 ∙ z)) }

  reset_counts : ResetDue sched s → Counting (reset_cycle (lines_at sched s.cycle.0) s)
  unfolding reset_cycle cleared taken
  reset_counts e = record {
    rises = refl;
    count = sym e;
    resets = λ z. record {
      pc = refl;
      owed = refl;
      int = refl;
      inte = refl;
      timer = refl;
      ports = refl;
      mark = refl;
      ram = refl;
      registers = refl;
      stack = refl;
      level = refl;
      begins_none = refl;
      reaching = λ n. ap (λ (b : Bool). log_bytes s.cycle.0 (cond b [] reset_record)) (ne_eqb s.count reset_count n);
      staying = λ q. ap (λ (b : Bool). log_bytes s.cycle.0 (cond b [] reset_record)) (eq-eqb s.count reset_count q);
    };
  }

  cycle_counts : Counting (cycle sheet rom sched s)
  cycle_counts =
      by_count sheet rom sched s Counting reset_counts
      (λ n. ordinary-counts n (steps_of sheet rom sched (recounted sched s))
      (ordinary-leaves sheet rom (lines_at sched s.cycle.0) (recounted sched s)))

pub every_cycle_counts_res : EveryCycleCountsRes
every_cycle_counts_res sheet rom sched s t w b e = subst (Counting sheet rom sched s) e (cycle_counts sheet rom sched s)

pub every_run_counts_res : EveryRunCountsRes
unfolding unbroken
every_run_counts_res sheet rom sched zero s small done high = omega arith
every_run_counts_res sheet rom sched (suc k) s small done high =
    go (cycle sheet rom sched s) (cycle_counts sheet rom sched s) done (every_run_counts_res sheet rom sched k)
  where
    first : (lines_at sched s.cycle.0).res ≡ 1
    first = rw (add-zero s.cycle.0) at (high 0 (omega arith))

    go : (o : Out State) → Counting sheet rom sched s o → (on_out o s (λ t. unbroken (chip sheet) rom sched k t)).cycles ≡ suc k
        → ((t : State) → t.count ≤ reset_count → (unbroken (chip sheet) rom sched k t).cycles ≡ k
        → ((i : ℕ) → i < k → (lines_at sched (t.cycle.0 + i)).res ≡ 1)
        → (unbroken (chip sheet) rom sched k t).state.count ≡ min reset_count (t.count + k))
        → (on_out o s (λ t. unbroken (chip sheet) rom sched k t)).state.count ≡ min reset_count (s.count + suc k)
    go (stop n) c d ih = absurd (omega (arith, d))
    go (went t w b) c d ih =
        let e : t.count ≡ min reset_count (s.count + 1) = c.count ∙ ap (λ (r : ℕ). counted r s.count) first in
        let on : (i : ℕ) → i < k → (lines_at sched (t.cycle.0 + i)).res ≡ 1 = λ i h.
        let a : s.cycle.0 + suc i ≡ t.cycle.0 + i = omega (arith, c.rises) in
        rw a at (high (suc i) (omega arith)) in
        ih t (omega (arith, e)) (omega (arith, d)) on ∙ omega (arith, e)

-- RUNS without a reset cycle are those of the ordinary machine, but for the count

-- the same, after one more cycle
later_same : (r q : Ran State) (w : List ℕ) (b : ℕ) → SameButCount r q → SameButCount (begins w b r) (begins w b q)
later_same r q w b e = record {
  bytes = ap (λ (x : List ℕ). w ++ x) e.bytes;
  cycles = ap suc e.cycles;
  begun = ap (λ (x : ℕ). b + x) e.begun;
  number = e.number;
  state = e.state;
}

pub unreset_run : (sheet : Sheet) (rom sched : List ℕ) (k : ℕ) (s : State) (count : ℕ) → no_reset sched k s.cycle.0 count ≡ true
    → SameButCount (unbroken (chip sheet) rom sched k (with_count count s)) (unbroken (ordinary sheet) rom sched k s)
unfolding unbroken no_reset
unreset_run sheet rom sched zero s count z = record { bytes = refl; cycles = refl; begun = refl; number = refl; state = refl }
unreset_run sheet rom sched (suc k) s count z = go (steps_of sheet rom sched s) refl (λ t. unreset_run sheet rom sched k t after)
  where
    after : ℕ
    after = count_after sched s.cycle.0 count

    first : not (eqb after reset_count) ≡ true
    first = and_left (not (eqb after reset_count)) (no_reset sched k (s.cycle.0 + 1) after) z

    rest : no_reset sched k (s.cycle.0 + 1) after ≡ true
    rest = and_right (not (eqb after reset_count)) (no_reset sched k (s.cycle.0 + 1) after) z

    none : ResetDue sched (with_count count s) → ⊥
    none = eqb-false after reset_count (not-true (eqb after reset_count) first)

    go : (o : Out State) → steps_of sheet rom sched s ≡ o
        → ((t : State) → no_reset sched k t.cycle.0 after ≡ true
        → SameButCount (unbroken (chip sheet) rom sched k (with_count after t)) (unbroken (ordinary sheet) rom sched k t))
        → SameButCount (on_out (cycle sheet rom sched (with_count count s)) (with_count count s) (λ t. unbroken (chip sheet) rom sched k t))
        (on_out o s (λ t. unbroken (ordinary sheet) rom sched k t))
    go (stop n) e ih =
        let c : cycle sheet rom sched (with_count count s) ≡ stop n =
        counted-cycle sheet rom sched (with_count count s) s.count none ∙ ap (carrying after) e in
        rw c (record { bytes = refl; cycles = refl; begun = refl; number = refl; state = refl })
    go (went t w b) e ih =
        let c : cycle sheet rom sched (with_count count s) ≡ went (with_count after t) w b =
        counted-cycle sheet rom sched (with_count count s) s.count none ∙ ap (carrying after) e in
        let n = (steps_leave sheet rom sched s t w b e).0 in
        rw c (later_same _ _ w b (ih t (rw n rest)))

-- and where RES stays low and the count is 0, they are the same runs
pub low_run : (sheet : Sheet) (rom sched : List ℕ) (k : ℕ) (s : State) → s.count ≡ 0
    → ((i : ℕ) → i < k → (lines_at sched (s.cycle.0 + i)).res ≡ 0)
    → unbroken (chip sheet) rom sched k s ≡ unbroken (ordinary sheet) rom sched k s
unfolding unbroken
low_run sheet rom sched zero s z low = refl
low_run sheet rom sched (suc k) s z low = go (steps_of sheet rom sched s) refl (λ t. low_run sheet rom sched k t)
  where
    first : (lines_at sched s.cycle.0).res ≡ 0
    first = rw (add-zero s.cycle.0) at (low 0 (omega arith))

    go : (o : Out State) → steps_of sheet rom sched s ≡ o
        → ((t : State) → t.count ≡ 0 → ((i : ℕ) → i < k → (lines_at sched (t.cycle.0 + i)).res ≡ 0)
        → unbroken (chip sheet) rom sched k t ≡ unbroken (ordinary sheet) rom sched k t)
        → on_out (cycle sheet rom sched s) s (λ t. unbroken (chip sheet) rom sched k t)
        ≡ on_out o s (λ t. unbroken (ordinary sheet) rom sched k t)
    go (stop n) e ih = rw (ordinary-cycle sheet rom sched s (record { low = first; none = z }), e)
    go (went t w b) e ih =
        let l = steps_leave sheet rom sched s t w b e in
        let on : (i : ℕ) → i < k → (lines_at sched (t.cycle.0 + i)).res ≡ 0 = λ i h.
        let a : s.cycle.0 + suc i ≡ t.cycle.0 + i = omega (arith, l.0) in
        rw a at (low (suc i) (omega arith)) in
        rw (ordinary-cycle sheet rom sched s (record { low = first; none = z }), e) (ap (begins w b) (ih t (l.1 ∙ z) on))
