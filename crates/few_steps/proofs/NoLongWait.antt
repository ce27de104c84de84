-- No long wait is walked: from a wait with r ticks left, one, two or three steps lead to the TTM that skips. Assumes nothing.
use mathlib.Core.Path.{◌≡◌, ◌∙◌, refl, sym, ap, subst}
use mathlib.Core.Bool.{Bool, true, false, cond}
use mathlib.Core.List.{List, [], ◌++◌, append-nil}
use mathlib.Core.Option.{none}
use Prim.Native.Nat.{ℕ, zero, suc, ◌+◌, ◌-◌, ◌%◌, ◌<◌, ◌≤◌, min}
use native.Mathlib.Nat.{add-zero, sub-zero}
use native.Mathlib.Omega.{arith}
use lib.Dec.{eqb}
use lib.ListN.{length}
use borrow.Author.Tests.{eqb-true, eqb-false, le-leb}
use Rattle.runs.specs.Machine.{Machine, went}
use Rattle.runs.specs.Refusals.{first_of}
use Rattle.runs.specs.Laws.{Panel}
use Rattle.runs.specs.TwoRunners.{Stepped, on_stride, stride_of, within, strides}
use Rattle.runs.proofs.Calls.{run_fit}
use Rattle.upd546.specs.declared.Timer.{Timer}
use Rattle.upd546.specs.declared.Lines.{Lines}
use Rattle.upd546.specs.declared.State.{State}
use Rattle.upd546.specs.declared.Sheet.{Sheet}
use Rattle.upd546.specs.TheMachine.{byte_at, follows, past, reset_count}
use Rattle.upd546.specs.Parts.{with_count}
use Rattle.upd546.specs.Sequences.{all_of}
use Rattle.upd546.specs.TheLineSchedule.{record_count, lines_at, no_record}
use Rattle.upd546.specs.Timer.{step_register, tick, register_after, steps_to, position_of, ticks_left}
use Rattle.upd546.specs.Instructions.{instruction}
use Rattle.upd546.specs.OneMachineCycle.{taken, ticked, given, instruction_stop, passed_over, begun, execute, ordinary_cycle, counted, cycle}
use Rattle.upd546.specs.StateImage.{state_number}
use Rattle.upd546.specs.TwoRunners.{may_jump, jumpable, largest, on_jump, wait_length, jump_length}
use Rattle.laws.specs.Timer.{timer_left}
use Rattle.laws.specs.Jump.{core_after_jump, state_after_jump}
use Rattle.laws.specs.Reset.{Unreset}
use Rattle.laws.specs.Valid.{Valid}
use Rattle.laws.proofs.Sound.{accepted-valid}
use Rattle.laws.proofs.Lists.{all_at}
use Rattle.laws.proofs.Timer.{position_small, tick_left, running_left}
use Rattle.laws.proofs.Reset.{ordinary-cycle, steps as ordinary-steps}
use Rattle.laws.proofs.Jump.{Waits, MayJump, in_loop, quietly, left_tm, free_accepts, is_jcp, ttm_cycle, jcp_cycle, may_jump_lem}
use Rattle.laws.proofs.Jump.{none_fewer, lines_stay, largest-even, wait_length-none, jump_is_wait, jump_in_room}
use Rattle.laws.proofs.Demand3.{laws, jump_laws}
use Rattle.few_steps.specs.NoLongWait.{the_chip, Wait, steps_for, cycles_for, AtTheSkip, SkipBegun, Waited, no_steps}
use Rattle.few_steps.specs.NoLongWait.{NoLongWaitIsWalked, NoWaitIsWalked, NoLongWaitOfARunIsWalked}
use Rattle.few_steps.proofs.Steps.{steps_cut, steps_sound}

-- A STEP THAT WRITES NOTHING

-- so many steps, in which so many cycles write nothing and begin an instruction each
abbrev quiet : ℕ → ℕ → State → Stepped State
quiet k j s = record { ran = quietly j s; steps = k }

-- a step of j cycles, and then none
last_step : (j : ℕ) (t : State) → on_stride (quietly j t) none (quiet 0 0 t) ≡ quiet 1 j t
last_step j t = rw (add-zero j)

module _ (M : Machine State) (rom sched : List ℕ) where
  one_step : (fuel room n j : ℕ) (s t : State) → 0 < n → stride_of (M.jump rom sched s n) ≡ j
      → within M rom sched room j s ≡ quietly j t
      → strides M rom sched (suc fuel) room n s ≡ on_stride (quietly j t) none (strides M rom sched fuel room (n - j) t)
  unfolding strides
  one_step fuel room zero j s t p d e = absurd (omega arith)
  one_step fuel room (suc n) j s t p d e = rw (d, e, sub-zero)

  no_fuel : (room n : ℕ) (s : State) → strides M rom sched 0 room n s ≡ quiet 0 0 s
  unfolding strides
  no_fuel room n s = refl

  -- a cycle that writes nothing fits every log
  one_cycle : (room : ℕ) (s t : State) → M.cycle rom sched s ≡ went t [] 1 → within M rom sched room 1 s ≡ quietly 1 t
  unfolding within
  one_cycle room s t e = rw (e, le-leb 0 room (omega arith))

-- THE JUMP

-- what a wait says, where its span has the cycles of the wait
module _ (sheet : Sheet) (rom sched : List ℕ) (s : State) (r span room n : ℕ) (accepted : state_number sheet s ≡ 0)
    (enough : cycles_for r ≤ span) (w : Wait sheet rom sched s r span n) where
  said : MayJump sheet rom sched s
  said = may_jump_lem sheet rom sched s w.waits

  valid : Valid s
  valid = accepted-valid sheet s accepted

  unreset : Unreset sched s
  unreset = record { low = w.low; none = omega (arith, w.count) }

  some_ticks : 0 < r
  unfolding ticks_left
  some_ticks = omega (arith, w.ticks, position_small s.core.timer.register said.runs valid.core.scalars.register)

  no_record_is : (j : ℕ) → j ≤ cycles_for r → no_record sched (s.cycle.0 + 1) (s.cycle.0 + j) ≡ true
  unfolding no_record
  no_record_is j h =
      none_fewer sched (s.cycle.0 + 1) (s.cycle.0 + span) (s.cycle.0 + j) (record_count sched) (omega (arith, enough, h)) w.quiet

  largest-is : jump_length sheet rom sched s n ≡ r - r % 2
  unfolding wait_length
  largest-is =
      let b = min (ticks_left s.core.timer) n in
      let e : b ≡ r = omega (arith, w.ticks, w.budget, enough) in
      let f : min r r - min r r % 2 ≡ r - r % 2 = omega arith in
      let wait : wait_length sheet rom sched s n ≡ largest (jumpable sched s.cycle.0) b = rw w.waits in
      jump_is_wait sheet rom sched s n unreset
      ∙ wait
      ∙ ap (largest (jumpable sched s.cycle.0)) e
      ∙ largest-even sched s.cycle.0 r r (λ j h. no_record_is j (omega arith)) (λ j h i. absurd (omega arith))
      ∙ f

  -- the jump is all of r, or all but one
  jump_is : (the_chip sheet).jump rom sched s n ≡ r - r % 2
  jump_is = omega (arith, largest-is)

  stride_is : (j : ℕ) → 0 < j → r - r % 2 ≡ j → stride_of ((the_chip sheet).jump rom sched s n) ≡ j
  stride_is zero p e = absurd (omega arith)
  stride_is (suc j) p e = ap stride_of (jump_is ∙ e)

  -- so many cycles are jumped
  jumped : (j : ℕ) → 0 < j → r - r % 2 ≡ j → within (the_chip sheet) rom sched room j s ≡ quietly j (state_after_jump j s)
  jumped j p e = jump_in_room sheet rom sched s n j (jump_is ∙ e) (λ z. omega (arith, z)) valid room

-- THE LAST TWO CYCLES OF AN ODD NUMBER: no jump, since 1 isn't even, and none from JCP

-- the lines at cycle n leave INT and RES as they are
record Steady (sched : List ℕ) (s : State) (n : ℕ) : Type 0 where
  level : (lines_at sched n).int ≡ s.core.interrupt.level
  low : (lines_at sched n).res ≡ 0

last_ticks : ticks_left (timer_left 0 1) ≡ 1
unfolding ticks_left timer_left register_after position_of steps_to step_register
last_ticks = refl

ended_stands : tick (timer_left 0 0) ≡ timer_left 0 0
unfolding tick timer_left
ended_stands = refl

module _ (sheet : Sheet) (rom sched : List ℕ) where
  no_jump_of_one : (s : State) (n : ℕ) → Unreset sched s → s.core.timer ≡ timer_left 0 1 → (the_chip sheet).jump rom sched s n ≡ 0
  unfolding wait_length largest jumpable
  no_jump_of_one s n u t = jump_is_wait sheet rom sched s n u ∙ go (may_jump sheet rom sched s)
    where
      least : (b : ℕ) → b ≤ 1 → largest (jumpable sched s.cycle.0) b ≡ 0
      least zero h = refl
      least (suc zero) h = refl
      least (suc (suc b)) h = absurd (omega arith)

      go : (b : Bool) → on_jump b sched s n ≡ 0
      go true = least (min (ticks_left s.core.timer) n) (omega (arith, ap ticks_left t ∙ last_ticks))
      go false = refl

  not_at_jcp : (s : State) (pc c n : ℕ) → Unreset sched (in_loop s pc (timer_left 0 0) c)
      → (the_chip sheet).jump rom sched (in_loop s pc (timer_left 0 0) c) n ≡ 0
  unfolding may_jump all_of timer_left
  not_at_jcp s pc c n u =
      let at_jcp = in_loop s pc (timer_left 0 0) c in
      let ended : may_jump sheet rom sched at_jcp ≡ false = refl in
      jump_is_wait sheet rom sched at_jcp n u ∙ wait_length-none sheet rom sched at_jcp n ended

  last_two : (s : State) (room n : ℕ) → Waits sheet rom s.core → s.core.timer ≡ timer_left 0 1 → s.count ≡ 0
      → Steady sched s s.cycle.0 → Steady sched s (s.cycle.0 + 1) → 2 ≤ n
      → strides (the_chip sheet) rom sched 2 room n s
      ≡ quiet 2 2 (in_loop s s.core.flow.pc (timer_left 0 0) (s.cycle.0 + 1 + 1))
  last_two s room n w t z first second h =
      let c = s.cycle.0 in
      let pc = s.core.flow.pc in
      let u = in_loop s (follows pc) (timer_left 0 0) (c + 1) in
      let v = in_loop s pc (timer_left 0 0) (c + 1 + 1) in
      let tm : s.core.timer.tm ≡ 0 = ap (λ (x : Timer). x.tm) t ∙ left_tm 0 0 in
      let s_low : Unreset sched s = record { low = first.low; none = z } in
      let u_low : Unreset sched u = record { low = second.low; none = z } in
      let a : cycle sheet rom sched s ≡ went u [] 1
      = ordinary-cycle sheet rom sched s s_low
      ∙ ttm_cycle sheet rom sched s w tm first.level
      ∙ ap (λ (x : Timer). went (in_loop s (follows pc) x (c + 1)) [] 1) (ap tick t ∙ tick_left 0 0) in
      let b : cycle sheet rom sched u ≡ went v [] 1
      = ordinary-cycle sheet rom sched u u_low
      ∙ jcp_cycle sheet rom sched s w (timer_left 0 0) (c + 1) second.level
      ∙ ap (λ (x : Timer). went (in_loop s pc x (c + 1 + 1)) [] 1) ended_stands in
      one_step (the_chip sheet) rom sched 1 room n 1 s u (omega arith) (ap stride_of (no_jump_of_one s n s_low t))
      (one_cycle (the_chip sheet) rom sched room s u a)
      ∙ ap (on_stride (quietly 1 u) none)
      (one_step (the_chip sheet) rom sched 0 room (n - 1) 1 u v (omega arith)
      (ap stride_of (not_at_jcp s (follows pc) (c + 1) (n - 1) u_low))
      (one_cycle (the_chip sheet) rom sched room u v b)
      ∙ ap (on_stride (quietly 1 v) none) (no_fuel (the_chip sheet) rom sched room (n - 1 - 1) v))

-- A WAIT

module _ (sheet : Sheet) (rom sched : List ℕ) (s : State) (r span room n : ℕ) (accepted : state_number sheet s ≡ 0)
    (enough : cycles_for r ≤ span) (w : Wait sheet rom sched s r span n) where
  may : MayJump sheet rom sched s
  may = said sheet rom sched s r span room n accepted enough w

  more : 0 < r
  more = some_ticks sheet rom sched s r span room n accepted enough w

  steady : (i : ℕ) → i < cycles_for r → Steady sched s (s.cycle.0 + i)
  steady i h =
      let none_here = no_record_is sheet rom sched s r span room n accepted enough w (cycles_for r) (omega arith) in
      let same = lines_stay sched s.cycle.0 (cycles_for r) none_here i h in
      record { level = ap (λ (l : Lines). l.int) same ∙ may.level; low = ap (λ (l : Lines). l.res) same ∙ w.low }

  -- the step that jumps
  jump_step : (fuel j : ℕ) → 0 < j → r - r % 2 ≡ j
      → strides (the_chip sheet) rom sched (suc fuel) room n s
      ≡ on_stride (quietly j (state_after_jump j s)) none (strides (the_chip sheet) rom sched fuel room (n - j) (state_after_jump j s))
  jump_step fuel j p e =
      one_step (the_chip sheet) rom sched fuel room n j s (state_after_jump j s) (omega (arith, w.budget, enough, more))
      (stride_is sheet rom sched s r span room n accepted enough w j p e)
      (jumped sheet rom sched s r span room n accepted enough w j p e)

  -- where the wait ends: at the same TTM, with a timer that has ended
  abbrev skipping : ℕ → State
  skipping c = in_loop s s.core.flow.pc (timer_left 0 0) c

  after_all : state_after_jump r s ≡ skipping (s.cycle.0 + r)
  unfolding core_after_jump
  after_all = let e : r - r ≡ 0 = omega arith in rw (w.ticks, e, may.tm, may.waits.owed)

  even_wait : r % 2 ≡ 0 → strides (the_chip sheet) rom sched 1 room n s ≡ quiet 1 r (skipping (s.cycle.0 + r))
  even_wait even =
      jump_step 0 r more (omega arith)
      ∙ ap (on_stride (quietly r (state_after_jump r s)) none) (no_fuel (the_chip sheet) rom sched room (n - r) (state_after_jump r s))
      ∙ last_step r (state_after_jump r s)
      ∙ ap (quiet 1 r) after_all

  one_wait : r ≡ 1 → strides (the_chip sheet) rom sched 2 room n s ≡ quiet 2 2 (skipping (s.cycle.0 + 1 + 1))
  one_wait one =
      let t : s.core.timer ≡ timer_left 0 1
      = running_left s.core.timer may.runs (accepted-valid sheet s accepted).core.scalars.register
      ∙ ap (timer_left s.core.timer.tm) (w.ticks ∙ one)
      ∙ ap (λ (x : ℕ). timer_left x 1) may.tm in
      let first : Steady sched s s.cycle.0 = record { level = may.level; low = w.low } in
      let second = steady 1 (omega (arith, one)) in
      last_two sheet rom sched s room n may.waits t w.count first second (omega (arith, w.budget, enough, one))

  -- an odd number above 1: all but one tick are jumped
  module _ (j : ℕ) (odd : r ≡ suc j) (even : j % 2 ≡ 0) (some : 0 < j) where
    abbrev u : State
    u = state_after_jump j s

    u_waits : Waits sheet rom u.core
    unfolding core_after_jump
    u_waits =
        let w = may.waits in
        record { owed = w.owed; free = w.free; ttm_in = w.ttm_in; ttm = w.ttm; jcp_in = w.jcp_in; jcp = w.jcp; back = w.back }

    u_timer : u.core.timer ≡ timer_left 0 1
    unfolding core_after_jump
    u_timer = let e : r - j ≡ 1 = omega (arith, odd) in rw (w.ticks, e, may.tm)

    u_steady : (i c : ℕ) → i < 2 → s.cycle.0 + (j + i) ≡ c → Steady sched u c
    unfolding core_after_jump
    u_steady i c h e =
        let x = steady (j + i) (omega (arith, odd, h)) in
        record { level = rw e at x.level; low = rw e at x.low }

    u_skips : in_loop u u.core.flow.pc (timer_left 0 0) (u.cycle.0 + 1 + 1) ≡ skipping (s.cycle.0 + (j + 2))
    unfolding core_after_jump
    u_skips = let e : s.cycle.0 + j + 1 + 1 ≡ s.cycle.0 + (j + 2) = omega arith in rw e

    odd_wait : strides (the_chip sheet) rom sched 3 room n s ≡ quiet 3 (j + 2) (skipping (s.cycle.0 + (j + 2)))
    odd_wait =
        jump_step 2 j some (omega (arith, odd))
        ∙ ap (on_stride (quietly j u) none)
        (last_two sheet rom sched u room (n - j) u_waits u_timer w.count (u_steady 0 (s.cycle.0 + j) (omega arith) (omega arith))
        (u_steady 1 (s.cycle.0 + j + 1) (omega arith) (omega arith))
        (omega (arith, odd, enough, w.budget)))
        ∙ ap (quiet 3 (j + 2)) u_skips

  -- every r
  waited_steps : strides (the_chip sheet) rom sched (steps_for r) room n s
      ≡ quiet (steps_for r) (cycles_for r) (skipping (s.cycle.0 + cycles_for r))
  waited_steps = go (eqb (r % 2) 0) refl (eqb r 1) refl
    where
      go : (a : Bool) → eqb (r % 2) 0 ≡ a → (b : Bool) → eqb r 1 ≡ b
          → strides (the_chip sheet) rom sched (cond a 1 (cond b 2 3)) room n s
          ≡ quiet (cond a 1 (cond b 2 3)) (cycles_for r) (skipping (s.cycle.0 + cycles_for r))
      go true e b f =
          let even = eqb-true (r % 2) 0 e in
          let all : r ≡ cycles_for r = omega arith in
          even_wait even ∙ ap (λ (x : ℕ). quiet 1 x (skipping (s.cycle.0 + x))) all
      go false e true f =
          let one = eqb-true r 1 f in
          let all : 2 ≡ cycles_for r = omega arith in
          let c : s.cycle.0 + 1 + 1 ≡ s.cycle.0 + 2 = omega arith in
          one_wait one ∙ ap (λ (x : ℕ). quiet 2 2 (skipping x)) c ∙ ap (λ (x : ℕ). quiet 2 x (skipping (s.cycle.0 + x))) all
      go false e false f =
          let odd = eqb-false (r % 2) 0 e in
          let other = eqb-false r 1 f in
          let all : r - 1 + 2 ≡ cycles_for r = omega arith in
          odd_wait (r - 1) (omega arith) (omega arith) (omega arith) ∙ ap (λ (x : ℕ). quiet 3 x (skipping (s.cycle.0 + x))) all

  -- AT THE SKIP

  at_the_skip : (c : ℕ) → AtTheSkip sheet rom s (skipping c)
  unfolding may_jump timer_left
  at_the_skip c = record {
    same = refl;
    ttm = all_at _ w.waits 4;
    tm = refl;
    owed = refl;
    free = free_accepts (skipping c).core may.waits.free;
    count = w.count;
  }

  -- TTM with TM 1, before JCP, whatever the lines are
  execute-skip : (l : Lines) (k c : ℕ)
      → SkipBegun s.core.flow.pc (execute sheet rom l (with_count k (skipping c)) (taken l (skipping c).core))
  unfolding execute given instruction_stop passed_over begun instruction past first_of ticked timer_left taken
  execute-skip l k c =
      let x = may.waits in
      rw (x.ttm, x.ttm_in, x.jcp_in, is_jcp (byte_at rom (follows s.core.flow.pc)) x.jcp) (refl, refl, refl)

  skip_begun : (c : ℕ) → SkipBegun s.core.flow.pc (cycle sheet rom sched (skipping c))
  unfolding ordinary_cycle
  skip_begun c =
      let l = lines_at sched c in
      let ordinary = ordinary-steps sheet rom sched (skipping c) (λ d. not_due l.res w.count d) in
      rw (ordinary, free_accepts (skipping c).core may.waits.free)
      (execute-skip l (counted l.res s.count) c)
    where
      not_due : (res : ℕ) → s.count ≡ 0 → counted res s.count ≡ reset_count → ⊥
      not_due zero z d = omega (arith, d)
      not_due (suc res) z d = omega (arith, z, d)

  at_most_three : steps_for r ≤ 3
  at_most_three = go (eqb (r % 2) 0) (eqb r 1)
    where
      go : (a b : Bool) → cond a 1 (cond b 2 3) ≤ 3
      go true b = omega arith
      go false true = omega arith
      go false false = omega arith

  waited : Waited sheet rom sched r (no_steps s) (strides (the_chip sheet) rom sched (steps_for r) room n s)
  waited =
      subst (Waited sheet rom sched r (no_steps s)) (sym waited_steps)
      (record {
        steps = omega arith;
        few = omega (arith, at_most_three);
        cycles = omega arith;
        bytes = refl;
        number = refl;
        stands = at_the_skip (s.cycle.0 + cycles_for r);
        skips = skip_begun (s.cycle.0 + cycles_for r);
      })

pub no_wait_is_walked : NoWaitIsWalked
no_wait_is_walked sheet rom sched s r room n a w = waited sheet rom sched s r (cycles_for r) room n a (omega arith) w

pub no_long_wait_is_walked : NoLongWaitIsWalked
no_long_wait_is_walked sheet rom sched s r room n a w = waited sheet rom sched s r (r + 2) room n a (omega arith) w

pub no_long_wait_of_a_run_is_walked : NoLongWaitOfARunIsWalked
no_long_wait_of_a_run_is_walked sheet rom sched s k r room n br bs e h w =
    let q = strides (the_chip sheet) rom sched k room n s in
    let f = run_fit (the_chip sheet) rom sched s n e in
    let p : Panel (the_chip sheet) rom sched = record { legal = f.legal; rom_bytes = br; sched_bytes = bs; not_refused_is = f.panel } in
    let a = steps_sound (the_chip sheet) (jump_laws sheet) rom sched (laws sheet f.legal).cycles p k room n s f.state f.limit h in
    let x = no_long_wait_is_walked sheet rom sched q.ran.state r (room - length q.ran.bytes) (n - q.ran.cycles) a w in
    subst (Waited sheet rom sched r q) (sym (steps_cut (the_chip sheet) rom sched k (steps_for r) room n s h))
    (record {
      steps = omega (arith, x.steps);
      few = omega (arith, x.few);
      cycles = omega (arith, x.cycles);
      bytes = ap (λ (b : List ℕ). q.ran.bytes ++ b) x.bytes ∙ append-nil q.ran.bytes;
      number = x.number;
      stands = x.stands;
      skips = x.skips;
    })
