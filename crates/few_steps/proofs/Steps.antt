-- A run of the timer-skipping runner is its first steps and then the run of the rest, and every boundary in it has an accepted state,
-- over any machine. Assumes nothing.
use mathlib.Core.Path.{◌≡◌, ◌∙◌, refl, sym, ap}
use mathlib.Core.List.{List, ◌++◌, append_assoc}
use mathlib.Core.Option.{Option, none, some}
use Prim.Native.Nat.{ℕ, zero, suc, ◌+◌, ◌-◌, ◌≤◌}
use native.Mathlib.Nat.{zero-add, suc-add, add_assoc, sub-zero}
use native.Mathlib.Omega.{arith}
use lib.ListN.{length, length-append}
use Rattle.runs.specs.Machine.{Machine}
use Rattle.runs.specs.Refusals.{cycle_limit}
use Rattle.runs.specs.Laws.{Panel, CycleLaws, JumpLaws}
use Rattle.runs.specs.TwoRunners.{Ran, Stepped, still, then, on_stride, stride_of, within, strides, told, skipping}
use Rattle.runs.proofs.Cut.{within_cut}
use Rattle.runs.proofs.Skipping.{stride_some, stride_within}
use Rattle.runs.proofs.EveryRun.{all_done, within_sound}
use Rattle.few_steps.specs.Steps.{and_then, steps_from, RunsGoOnFromTheirSteps, StepsGoOnFromSteps, AnswersGoOnFromTheirSteps}

still_then : {S : Type 0} (s : S) (q : Stepped S) → q ≡ and_then (record { ran = still s none; steps = 0 }) q
still_then s q = simp zero-add

-- a step, then q, then p
stride_then : {S : Type 0} (r : Ran S) (q p : Stepped S) → on_stride r none (and_then q p) ≡ and_then (on_stride r none q) p
stride_then r q p = simp (append_assoc, suc-add, add_assoc)

module _ {S : Type 0} (M : Machine S) (rom sched : List ℕ) where
  -- fuel for n steps is enough for n cycles: more changes nothing
  fuel_enough : (f g room n : ℕ) (s : S) → n ≤ f → n ≤ g → strides M rom sched f room n s ≡ strides M rom sched g room n s
  unfolding strides
  fuel_enough zero zero room zero s h i = refl
  fuel_enough zero (suc g) room zero s h i = refl
  fuel_enough (suc f) zero room zero s h i = refl
  fuel_enough (suc f) (suc g) room zero s h i = refl
  fuel_enough zero g room (suc n) s h i = absurd (omega arith)
  fuel_enough (suc f) zero room (suc n) s h i = absurd (omega arith)
  fuel_enough (suc f) (suc g) room (suc n) s h i =
      let stride = stride_of (M.jump rom sched s (suc n)) in
      let r = within M rom sched room stride s in
      let some_cycles = stride_some (M.jump rom sched s (suc n)) in
      ap (on_stride r r.number)
      (fuel_enough f g (room - length r.bytes) (suc n - stride) r.state (omega (arith, some_cycles)) (omega (arith, some_cycles)))

  -- no cycles are no steps
  none_left : (f room : ℕ) (s : S) → strides M rom sched f room 0 s ≡ record { ran = still s none; steps = 0 }
  unfolding strides
  none_left zero room s = refl
  none_left (suc f) room s = refl

  -- k + i steps are k steps, and then i from where those stand
  pub steps_cut : (k i room n : ℕ) (s : S) → (strides M rom sched k room n s).ran.number ≡ none
      → strides M rom sched (k + i) room n s
      ≡ and_then (strides M rom sched k room n s) (steps_from M rom sched i room n (strides M rom sched k room n s))
  unfolding strides
  steps_cut zero i room n s h = rw (zero-add, sub-zero, sub-zero) (still_then s (strides M rom sched i room n s))
  steps_cut (suc k) i room zero s h = rw (suc-add, none_left i (room - 0) s)
  steps_cut (suc k) i room (suc n) s h =
      rw suc-add (go r.number refl h (steps_cut k i (room - length r.bytes) (suc n - stride) r.state))
    where
      stride : ℕ
      stride = stride_of (M.jump rom sched s (suc n))

      r : Ran S
      r = within M rom sched room stride s

      later : ℕ → Stepped S
      later k = strides M rom sched k (room - length r.bytes) (suc n - stride) r.state

      go : (o : Option ℕ) → r.number ≡ o → (on_stride r o (later k)).ran.number ≡ none
          → ((later k).ran.number ≡ none
          → later (k + i) ≡ and_then (later k) (steps_from M rom sched i (room - length r.bytes) (suc n - stride) (later k)))
          → on_stride r o (later (k + i)) ≡ and_then (on_stride r o (later k)) (steps_from M rom sched i room (suc n) (on_stride r o (later k)))
      go none e g ih =
          let q = later k in
          let done = all_done M rom sched stride room s e in
          let a : room - length r.bytes - length q.ran.bytes ≡ room - length (r.bytes ++ q.ran.bytes) =
          omega (arith, length-append r.bytes q.ran.bytes) in
          let b : suc n - stride - q.ran.cycles ≡ suc n - (r.cycles + q.ran.cycles) = omega (arith, done) in
          ap (on_stride r none) (ih g)
          ∙ stride_then r q (steps_from M rom sched i (room - length r.bytes) (suc n - stride) q)
          ∙ ap (λ (x : ℕ). and_then (on_stride r none q) (strides M rom sched i x (suc n - stride - q.ran.cycles) q.ran.state)) a
          ∙ ap (λ (x : ℕ).
          and_then (on_stride r none q) (strides M rom sched i (room - length (r.bytes ++ q.ran.bytes)) x q.ran.state)) b
      go (some j) e g ih = cc

pub steps_go_on : {S : Type 0} (M : Machine S) → StepsGoOnFromSteps M
steps_go_on M rom sched k i room n s h = steps_cut M rom sched k i room n s h

pub runs_go_on : {S : Type 0} (M : Machine S) → RunsGoOnFromTheirSteps M
runs_go_on M rom sched k room n s h =
    let q = strides M rom sched k room n s in
    let left = n - q.ran.cycles in
    fuel_enough M rom sched n (k + n) room n s (omega arith) (omega arith)
    ∙ steps_cut M rom sched k n room n s h
    ∙ ap (and_then q) (fuel_enough M rom sched n left (room - length q.ran.bytes) left q.ran.state (omega arith) (omega arith))

pub answers_go_on : {S : Type 0} (M : Machine S) → AnswersGoOnFromTheirSteps M
unfolding skipping
answers_go_on {S} M rom sched k n s log e h =
    rw e (ap (λ (q : Stepped S). told M 0 q s log) (runs_go_on M rom sched k (length log) n s h))

-- EVERY BOUNDARY HAS AN ACCEPTED STATE

module _ {S : Type 0} (M : Machine S) (J : JumpLaws M) (rom sched : List ℕ) where
  -- the steps come to their cycles, one by one, and to no more than n
  record OneByOne (room n : ℕ) (s : S) (r : Ran S) : Type 0 where
    same : r ≡ within M rom sched room r.cycles s
    most : r.cycles ≤ n

  one_by_one : (k room n : ℕ) (s : S) → (strides M rom sched k room n s).ran.number ≡ none
      → OneByOne room n s (strides M rom sched k room n s).ran
  unfolding strides within
  one_by_one zero room n s h = record { same = refl; most = omega arith }
  one_by_one (suc k) room zero s h = record { same = refl; most = omega arith }
  one_by_one (suc k) room (suc n) s h = go r.number refl h (one_by_one k (room - length r.bytes) (suc n - stride) r.state)
    where
      stride : ℕ
      stride = stride_of (M.jump rom sched s (suc n))

      r : Ran S
      r = within M rom sched room stride s

      later : Stepped S
      later = strides M rom sched k (room - length r.bytes) (suc n - stride) r.state

      go : (o : Option ℕ) → r.number ≡ o → (on_stride r o later).ran.number ≡ none
          → (later.ran.number ≡ none → OneByOne (room - length r.bytes) (suc n - stride) r.state later.ran)
          → OneByOne room (suc n) s (on_stride r o later).ran
      go none e g ih =
          let x = ih g in
          let done : r.cycles ≡ stride = all_done M rom sched stride room s e in
          let fits = stride_within (M.jump rom sched s (suc n)) n (J.jump_within rom sched s (suc n)) in
          let cut : within M rom sched room (stride + later.ran.cycles) s
          ≡ then r (within M rom sched (room - length r.bytes) later.ran.cycles r.state)
          = rw e at (within_cut M rom sched stride later.ran.cycles room s) in
          record {
            same = ap (then r) x.same ∙ sym cut ∙ ap (λ (c : ℕ). within M rom sched room (c + later.ran.cycles) s) (sym done);
            most = omega (arith, x.most, done, fits);
          }
      go (some j) e g ih = let z : j ≡ suc j = cc in absurd (omega (arith, z))

  pub steps_sound : CycleLaws M → Panel M rom sched → (k room n : ℕ) (s : S) → M.state_number s ≡ 0 → M.at s + n ≤ cycle_limit
      → (strides M rom sched k room n s).ran.number ≡ none → M.state_number (strides M rom sched k room n s).ran.state ≡ 0
  steps_sound L p k room n s v h e =
      let x = one_by_one k room n s e in
      let c = (strides M rom sched k room n s).ran.cycles in
      ap (λ (r : Ran S). M.state_number r.state) x.same ∙ within_sound M L rom sched p c room s v (omega (arith, x.most, h))
