-- For the loop of a run: where RES is low and the count 0, cycles of the ordinary machine one by one are the chip's; so is a single one
-- with a count, but for the count; and reset cycles one after the other. Assumes nothing.
use mathlib.Core.Path.{◌≡◌, ◌∙◌, refl, sym, ap}
use mathlib.Core.Bool.{Bool, true, false, cond}
use mathlib.Core.List.{List, [], ◌++◌, append-nil}
use mathlib.Core.Option.{none, some}
use Prim.Native.Nat.{ℕ, zero, suc, ◌+◌, ◌-◌, ◌<◌, ◌≤◌}
use native.Mathlib.Nat.{add-zero}
use native.Mathlib.Omega.{arith}
use lib.Dec.{leb}
use lib.ListN.{length, replicate}
use borrow.Author.Tests.{ne_eqb, leb-false}
use Rattle.runs.specs.Machine.{Out, stop, went}
use Rattle.runs.specs.OneByOne.{OneByOne, none as no_cycle, also}
use Rattle.runs.specs.TwoRunners.{Ran, still, on_room, on_out_within, begins, within}
use Rattle.runs.proofs.Loop.{one_stops, one_fills}
use Rattle.upd546.specs.declared.Core.{Core}
use Rattle.upd546.specs.declared.Lines.{Lines}
use Rattle.upd546.specs.declared.State.{State}
use Rattle.upd546.specs.declared.Sheet.{Sheet}
use Rattle.upd546.specs.TheMachine.{latches, reset_count}
use Rattle.upd546.specs.Parts.{with_parts, with_count, onward}
use Rattle.upd546.specs.TheLineSchedule.{lines_at}
use Rattle.upd546.specs.Ports.{reset_record, log_bytes, log_record_length}
use Rattle.upd546.specs.OneMachineCycle.{taken, counted, cleared, reset_writes, reset_cycle, cycle}
use Rattle.upd546.specs.TwoRunners.{wait_length, reset_far, jump_length, chip}
use Rattle.laws.specs.Ordinary.{steps_of, ordinary}
use Rattle.laws.specs.Reset.{count_after, ResetDue, carrying, Unreset, held_reset}
use Rattle.laws.proofs.Reset.{ordinary-cycle, counted-cycle, steps_leave, resets}
use Rattle.laws.proofs.Jump.{far, jump_is_wait}

-- RES LOW AND A COUNT OF 0

-- the chip's cycles, and that the count is still 0
pub record Low (sheet : Sheet) (rom sched : List ℕ) (skips : Bool) (room m : ℕ) (s t : State) (w : List ℕ) (d b : ℕ) : Type 0 where
  pub one_by_one : OneByOne (chip sheet) rom sched skips room m s t w d b
  pub uncounted : t.count ≡ 0
  pub rises : t.cycle.0 ≡ s.cycle.0 + d

pub low_one_by_one : (sheet : Sheet) (rom sched : List ℕ) (skips : Bool) (room m : ℕ) (s : State) → s.count ≡ 0
    → ((i : ℕ) → i < m → (lines_at sched (s.cycle.0 + i)).res ≡ 0) → (t : State) (w : List ℕ) (d b : ℕ)
    → OneByOne (ordinary sheet) rom sched skips room m s t w d b → Low sheet rom sched skips room m s t w d b
low_one_by_one sheet rom sched skips room m s z low _ _ _ _ no_cycle = record { one_by_one = no_cycle; uncounted = z; rises = omega arith }
low_one_by_one sheet rom sched skips room m s z low _ _ _ _ (also {t} {u} {y} {d} {a} x e o q f l j) =
    let k = low_one_by_one sheet rom sched skips room m s z low t y d a o in
    let r : (lines_at sched t.cycle.0).res ≡ 0 = rw k.rises (low d l) in
    let free : Unreset sched t = record { low = r; none = k.uncounted } in
    let n = steps_leave sheet rom sched t u x e q in
    record {
      one_by_one = also x e k.one_by_one (ordinary-cycle sheet rom sched t free ∙ q) f l
          (λ h. jump_is_wait sheet rom sched t (m - d) free ∙ j h);
      uncounted = n.1 ∙ k.uncounted;
      rises = omega (arith, n.0, k.rises);
    }

-- A CYCLE WITH A COUNT

-- there is no jump where RES is high or a count is left over
pub counted_no_jump : (sheet : Sheet) (rom sched : List ℕ) (s : State) (left : ℕ) → (Unreset sched s → ⊥)
    → jump_length sheet rom sched s left ≡ 0
unfolding jump_length
counted_no_jump sheet rom sched s left n = go (reset_far sched s) refl
  where
    go : (b : Bool) → reset_far sched s ≡ b → cond b (wait_length sheet rom sched s left) 0 ≡ 0
    go true e = absurd (n (far sched s e))
    go false e = refl

module _ (sheet : Sheet) (rom sched : List ℕ) (s : State) (c : ℕ) (none_due : ResetDue sched (with_count c s) → ⊥) where
  counted_is : cycle sheet rom sched (with_count c s) ≡ carrying (count_after sched s.cycle.0 c) (steps_of sheet rom sched s)
  counted_is = counted-cycle sheet rom sched (with_count c s) s.count none_due

  -- one cycle of the ordinary machine, on a state with any count
  pub counted-one : (skips : Bool) (room m : ℕ) → (Unreset sched (with_count c s) → ⊥) → 0 < m → (t : State) (w : List ℕ) (d b : ℕ) → 1 ≤ d
      → OneByOne (ordinary sheet) rom sched skips room 1 s t w d b
      → (d ≡ 1) × OneByOne (chip sheet) rom sched skips room m (with_count c s) (with_count (count_after sched s.cycle.0 c) t) w d b
  counted-one skips room m n h _ _ _ _ g no_cycle = absurd (omega arith)
  counted-one skips room m n h _ _ _ _ g (also {t} {u} {y} {d} {a} x e (also x' e' o q' f' l' j') q f l j) = absurd (omega arith)
  counted-one skips room m n h _ _ _ _ g (also x e no_cycle q f l j) =
      let went_is = counted_is ∙ ap (carrying (count_after sched s.cycle.0 c)) q in
      (refl, also x e no_cycle went_is f h (λ i. counted_no_jump sheet rom sched (with_count c s) (m - 0) n))

  -- where the ordinary machine stops, the chip does, with its count as it was
  pub counted-stops : (room k : ℕ) → within (ordinary sheet) rom sched room 1 s ≡ still s (some k)
      → within (chip sheet) rom sched room 1 (with_count c s) ≡ still (with_count c s) (some k)
  unfolding within
  counted-stops room k h = go (steps_of sheet rom sched s) counted_is h
    where
      go : (o : Out State) → cycle sheet rom sched (with_count c s) ≡ carrying (count_after sched s.cycle.0 c) o
          → on_out_within o s room (λ t r. still t none) ≡ still s (some k)
          → within (chip sheet) rom sched room 1 (with_count c s) ≡ still (with_count c s) (some k)
      go (stop n) e i =
          one_stops (chip sheet) rom sched room (with_count c s) n e ∙ ap (λ (r : Ran State). still (with_count c s) r.number) i
      go (went t x b) e i = full (leb (length x) room) refl i
        where
          full : (f : Bool) → leb (length x) room ≡ f → on_room f (begins x b (still t none)) (still s (some 3)) ≡ still s (some k)
              → within (chip sheet) rom sched room 1 (with_count c s) ≡ still (with_count c s) (some k)
          full true f i = let z : ◌≡◌ {A = ℕ} 1 0 = ap (λ (r : Ran State). r.cycles) i in absurd (omega (arith, z))
          full false f i =
              one_fills (chip sheet) rom sched room (with_count c s) _ x b e (omega (arith, leb-false (length x) room f))
              ∙ ap (λ (r : Ran State). still (with_count c s) r.number) i

-- RESET CYCLES

-- lines taken and cleared a second time change nothing
cleared-again : (l : Lines) (c : Core) → cleared (taken l (cleared (taken l c))) ≡ cleared (taken l c)
unfolding cleared taken
cleared-again l c = refl

-- a count of 4 stays while RES is high
found : (res : ℕ) → (res ≡ 0 → ⊥) → counted res reset_count ≡ reset_count
found zero h = absurd (h refl)
found (suc res) h = refl

-- the bytes that they append, all in the first
abbrev pub reset_bytes : State → List ℕ
reset_bytes s = log_bytes s.cycle.0 (reset_writes s.count)

module _ (sheet : Sheet) (rom sched : List ℕ) (s : State) (due : ResetDue sched s) where
  -- the record finds no room
  pub reset_stops : (room : ℕ) → (s.count ≡ reset_count → ⊥) → room < log_record_length
      → within (chip sheet) rom sched room 1 s ≡ still s (some 3)
  unfolding reset_cycle
  reset_stops room n h =
      let long : length (reset_bytes s) ≡ log_record_length =
      ap (λ (b : Bool). length (log_bytes s.cycle.0 (cond b [] reset_record))) (ne_eqb s.count reset_count n) in
      one_fills (chip sheet) rom sched room s _ _ 0 (resets sheet rom sched s due) (omega (arith, long))

module _ (sheet : Sheet) (rom sched : List ℕ) (l : Lines) (s : State) (due : ResetDue sched s) (high : l.res ≡ 0 → ⊥) where
  high_no_jump : (t : State) (left : ℕ) → lines_at sched t.cycle.0 ≡ l → jump_length sheet rom sched t left ≡ 0
  high_no_jump t left e = counted_no_jump sheet rom sched t left (λ u. high (sym (ap (λ (x : Lines). x.res) e) ∙ u.low))

  -- a reset that goes on
  held_on : (j : ℕ) → lines_at sched (s.cycle.0 + j) ≡ l → cycle sheet rom sched (held_reset l j s) ≡ went (held_reset l (suc j) s) [] 0
  unfolding reset_cycle
  held_on j e =
      let t = held_reset l j s in
      let n : s.cycle.0 + j + 1 ≡ s.cycle.0 + suc j = omega arith in
      resets sheet rom sched t (ap (λ (x : Lines). counted x.res reset_count) e ∙ found l.res high)
      ∙ ap (λ (x : Lines). reset_cycle x t) e
      ∙ ap (λ (c : Core). went (onward 1 t c s.ram (replicate latches 0)) [] 0) (cleared-again l s.core)
      ∙ ap (λ (i : ℕ). went (with_parts t (cleared (taken l s.core)) s.ram (replicate latches 0) i) [] 0) n

  -- THE LAW: j of them, with these lines, lead to one state, and append what the first appends
  pub held_resets : (skips : Bool) (room m j : ℕ) → length (reset_bytes s) ≤ room → suc j ≤ m
      → ((i : ℕ) → i < suc j → lines_at sched (s.cycle.0 + i) ≡ l)
      → OneByOne (chip sheet) rom sched skips room m s (held_reset l (suc j) s) (reset_bytes s) (suc j) 0
  unfolding reset_cycle
  held_resets skips room m zero f h e =
      let now : lines_at sched s.cycle.0 ≡ l = rw (add-zero s.cycle.0) at (e 0 (omega arith)) in
      let first = resets sheet rom sched s due ∙ ap (λ (x : Lines). reset_cycle x s) now in
      also (reset_bytes s) 0 no_cycle first f (omega arith) (λ i. high_no_jump s (m - 0) now)
  held_resets skips room m (suc j) f h e =
      let r = held_resets skips room m j f (omega arith) (λ i g. e i (omega arith)) in
      let now = e (suc j) (omega arith) in
      let room_left : length (reset_bytes s ++ []) ≤ room = rw (append-nil (reset_bytes s)) f in
      let n = also [] 0 r (held_on (suc j) now) room_left (omega arith) (λ i. high_no_jump (held_reset l (suc j) s) (m - suc j) now) in
      rw (append-nil (reset_bytes s)) at n
