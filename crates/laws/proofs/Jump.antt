-- What a jump of the timer-skipping runner says is what so many plain cycles come to, and how long a jump is: of the ordinary machine,
-- and then of the chip, which is that machine as long as it jumps. Assumes nothing.
use mathlib.Core.Path.{◌≡◌, ◌∙◌, refl, sym, ap, subst}
use mathlib.Core.Bool.{Bool, true, false, true≢false, cond, ◌&&◌, and-false}
use mathlib.Core.List.{List, [], ◌∷◌}
use mathlib.Core.Option.{none}
use Prim.Native.Nat.{ℕ, zero, suc, ◌+◌, ◌-◌, ◌*◌, ◌/◌, ◌%◌, ◌<◌, ◌≤◌, min}
use native.Mathlib.Nat.{add-zero}
use native.Mathlib.Omega.{arith}
use lib.Dec.{eqb, leb, ltb}
use lib.ListN.{length, replicate, get_or-replicate, get_or-eq_default}
use lib.Seq.{set-get_or}
use borrow.Author.Tests.{ltb-true, leb-true, eqb-true, eqb-false, lt-ltb, le-ltb, not-true}
use Rattle.runs.specs.Machine.{went}
use Rattle.runs.specs.TwoRunners.{Ran, begins, unbroken, within}
use Rattle.runs.specs.Refusals.{cycle_limit, first_of}
use Rattle.runs.specs.Laws.{Panel}
use Rattle.runs.proofs.Cut.{roomy}
use Rattle.upd546.specs.declared.Core.{Core}
use Rattle.upd546.specs.declared.Timer.{Timer}
use Rattle.upd546.specs.declared.Lines.{Lines}
use Rattle.upd546.specs.declared.State.{State}
use Rattle.upd546.specs.declared.Sheet.{Sheet}
use Rattle.upd546.specs.TheSheet.{in_rom}
use Rattle.upd546.specs.TheMachine.{byte_at, follows, past, page_of, mark_other}
use Rattle.upd546.specs.Parts.{with_parts, with_timer, set_mark, set_owed, set_pc}
use Rattle.upd546.specs.Sequences.{all_of}
use Rattle.upd546.specs.TheLineSchedule.{record_count, record_cycle, lines_at, none_among, no_record}
use Rattle.upd546.specs.Timer.{tick, ticks_left}
use Rattle.laws.specs.Timer.{timer_left}
use Rattle.upd546.specs.Instructions.{instruction, codes, jcp, none as no_instruction}
use Rattle.upd546.specs.OneMachineCycle.{blocks, accepts, taken, ticked, given, instruction_stop, passed_over, begun, execute, ordinary_cycle}
use Rattle.upd546.specs.TwoRunners.{at_ttm, at_jcp_back, may_jump, jumpable, largest, on_jump, wait_length, reset_far, jump_length, chip}
use Rattle.laws.specs.Ordinary.{steps_of, ordinary}
use Rattle.laws.specs.Reset.{Unreset}
use Rattle.laws.specs.Jump.{core_after_jump, state_after_jump}
use Rattle.laws.specs.Valid.{Valid}
use Rattle.laws.proofs.Lists.{and_left, and_right, all_at}
use Rattle.laws.proofs.Sheets.{legal_sheet}
use Rattle.laws.proofs.Lines.{lines_same, panel_schedule}
use Rattle.laws.proofs.Reset.{low_run}
use Rattle.laws.proofs.Chip.{reaches_valid}
use Rattle.laws.proofs.Timer.{tick_left, running_left}

-- ONE CYCLE OF THE WAITING LOOP

no_accept : (a b c d : Bool) → (c && b) ≡ false → all_of (a ∷ b ∷ c ∷ d ∷ []) ≡ false
unfolding all_of
no_accept false b c d e = refl
no_accept true false c d e = refl
no_accept true true false d e = refl
no_accept true true true d e = cc

-- the lines are taken, and INT doesn't fall
pub taken_same : (l : Lines) (c : Core) → l.int ≡ c.interrupt.level → taken l c ≡ c
unfolding taken
taken_same l c e = rw (e, le-ltb c.interrupt.level c.interrupt.level (omega arith))

-- no interrupt is accepted where INT and INTE aren't both 1, nor where the mark keeps it back
pub free_accepts : (c : Core) → (eqb c.interrupt.int 1 && eqb c.interrupt.inte 1) ≡ false → accepts c ≡ false
unfolding accepts
free_accepts c f = no_accept (eqb c.owed 0) _ _ _ f

pub blocked_accepts : (c : Core) → blocks c.mark ≡ true → accepts c ≡ false
unfolding accepts all_of
blocked_accepts c b = rw b (last_false (eqb c.owed 0) (eqb c.interrupt.inte 1) (eqb c.interrupt.int 1))
  where
    last_false : (x y z : Bool) → all_of (x ∷ y ∷ z ∷ false ∷ []) ≡ false
    last_false x y z = simp (and-false)

-- C0 to FF
pub is_jcp : (code : ℕ) → 0xC0 ≤ code → instruction code ≡ jcp
unfolding instruction
is_jcp code h =
    let p : 12 ≤ code / 16 = omega arith in
    rw (get_or-eq_default codes (replicate 16 jcp) p) (get_or-replicate 16 (code % 16) jcp no_instruction (omega arith))

-- the state in the loop at an address, with this timer and cycle number; nothing else changes there
abbrev pub in_loop : State → ℕ → Timer → ℕ → State
in_loop s pc t n = with_parts s (set_pc pc (set_mark mark_other (set_owed 0 (with_timer s.core t)))) s.ram s.ports n

module _ (sheet : Sheet) (rom sched : List ℕ) (s : State) where
  -- an instruction is due where nothing is owed and no interrupt is accepted
  pub cycle_due : s.core.owed ≡ 0 → accepts s.core ≡ false → (lines_at sched s.cycle.0).int ≡ s.core.interrupt.level
      → steps_of sheet rom sched s ≡ execute sheet rom (lines_at sched s.cycle.0) s s.core
  unfolding ordinary_cycle
  cycle_due o a l = rw (a, taken_same (lines_at sched s.cycle.0) s.core l, o)

  cycle_executes : s.core.owed ≡ 0 → (eqb s.core.interrupt.int 1 && eqb s.core.interrupt.inte 1) ≡ false
      → (lines_at sched s.cycle.0).int ≡ s.core.interrupt.level
      → steps_of sheet rom sched s ≡ execute sheet rom (lines_at sched s.cycle.0) s s.core
  cycle_executes o f l = cycle_due o (free_accepts s.core f) l

  -- TTM with TM 0
  execute-ttm : (l : Lines) → s.core.timer.tm ≡ 0 → in_rom sheet s.core.flow.pc ≡ true → byte_at rom s.core.flow.pc ≡ 0x05
      → execute sheet rom l s s.core ≡ went (in_loop s (follows s.core.flow.pc) (tick s.core.timer) (s.cycle.0 + 1)) [] 1
  unfolding execute given instruction_stop passed_over begun instruction past first_of ticked
  execute-ttm l z i b = rw (b, i, z, set-get_or)

  execute-jcp : (l : Lines) → in_rom sheet s.core.flow.pc ≡ true → 0xC0 ≤ byte_at rom s.core.flow.pc
      → execute sheet rom l s s.core
      ≡ went (in_loop s (page_of s.core.flow.pc + byte_at rom s.core.flow.pc % 64) (tick s.core.timer) (s.cycle.0 + 1)) [] 1
  unfolding execute given instruction_stop passed_over begun past first_of ticked
  execute-jcp l i b = rw (is_jcp (byte_at rom s.core.flow.pc) b, i, set-get_or)

-- ONE TURN OF IT

-- the state at TTM again, with q ticks left
abbrev at_ttm_again : State → ℕ → ℕ → State
at_ttm_again s q n = in_loop s s.core.flow.pc (timer_left 0 q) n

-- what stays as it is in the loop `TTM; JCP back`
pub record Waits (sheet : Sheet) (rom : List ℕ) (c : Core) : Type 0 where
  pub owed : c.owed ≡ 0
  pub free : (eqb c.interrupt.int 1 && eqb c.interrupt.inte 1) ≡ false
  pub ttm_in : in_rom sheet c.flow.pc ≡ true
  pub ttm : byte_at rom c.flow.pc ≡ 0x05
  pub jcp_in : in_rom sheet (follows c.flow.pc) ≡ true
  pub jcp : 0xC0 ≤ byte_at rom (follows c.flow.pc)
  pub back : page_of (follows c.flow.pc) + byte_at rom (follows c.flow.pc) % 64 ≡ c.flow.pc

-- the INT line is the level seen at the j cycles from n on
abbrev Level : List ℕ → State → ℕ → ℕ → Type 0
Level sched s j n = (i : ℕ) → i < j → (lines_at sched (n + i)).int ≡ s.core.interrupt.level

level_first : (sched : List ℕ) (s : State) (j n : ℕ) → Level sched s (suc j) n → (lines_at sched n).int ≡ s.core.interrupt.level
level_first sched s j n l = rw (add-zero n) at (l 0 (omega arith))

level_later : (sched : List ℕ) (s : State) (j n : ℕ) → Level sched s (suc (suc j)) n → Level sched s j (n + 1 + 1)
level_later sched s j n l i h =
    let e : n + suc (suc i) ≡ n + 1 + 1 + i = omega arith in
    rw e at (l (suc (suc i)) (omega arith))

-- so many cycles that append nothing, each of which begins an instruction
abbrev pub quietly : ℕ → State → Ran State
quietly j s = record { state = s; bytes = []; cycles = j; begun = j; number = none }

two_more : (j : ℕ) (s : State) → begins [] 1 (begins [] 1 (quietly j s)) ≡ quietly (suc (suc j)) s
two_more j s = let e : 1 + (1 + j) ≡ suc (suc j) = omega arith in rw e

pub left_tm : (tm k : ℕ) → (timer_left tm (suc k)).tm ≡ tm
unfolding timer_left
left_tm tm k = refl

module _ (sheet : Sheet) (rom sched : List ℕ) (s : State) (w : Waits sheet rom s.core) where
  pub ttm_cycle : s.core.timer.tm ≡ 0 → (lines_at sched s.cycle.0).int ≡ s.core.interrupt.level
      → steps_of sheet rom sched s ≡ went (in_loop s (follows s.core.flow.pc) (tick s.core.timer) (s.cycle.0 + 1)) [] 1
  ttm_cycle z l =
      cycle_executes sheet rom sched s w.owed w.free l
      ∙ execute-ttm sheet rom sched s (lines_at sched s.cycle.0) z w.ttm_in w.ttm

  pub jcp_cycle : (t : Timer) (n : ℕ) → (lines_at sched n).int ≡ s.core.interrupt.level
      → steps_of sheet rom sched (in_loop s (follows s.core.flow.pc) t n) ≡ went (in_loop s s.core.flow.pc (tick t) (n + 1)) [] 1
  jcp_cycle t n l =
      let u = in_loop s (follows s.core.flow.pc) t n in
      cycle_executes sheet rom sched u refl w.free l
      ∙ execute-jcp sheet rom sched u (lines_at sched n) w.jcp_in w.jcp
      ∙ ap (λ (pc : ℕ). went (in_loop s pc (tick t) (n + 1)) [] 1) w.back

  -- with q + 2 ticks left, TM is 0 at TTM; two cycles later PC is back
  turn : (q k : ℕ) → s.core.timer ≡ timer_left 0 (suc (suc q)) → Level sched s (suc (suc k)) s.cycle.0
      → unbroken (ordinary sheet) rom sched (suc (suc k)) s
      ≡ begins [] 1 (begins [] 1 (unbroken (ordinary sheet) rom sched k (at_ttm_again s q (s.cycle.0 + 1 + 1))))
  unfolding unbroken
  turn q k t l =
      let n = s.cycle.0 in
      let z : s.core.timer.tm ≡ 0 = ap (λ (x : Timer). x.tm) t ∙ left_tm 0 (suc q) in
      rw (ttm_cycle z (level_first sched s (suc k) n l), jcp_cycle (tick s.core.timer) (n + 1) (l 1 (omega arith)), t, tick_left 0 (suc q), tick_left 0 q)

-- EVERY TURN OF IT

-- 2h, counted by turns
abbrev pub double : ℕ → ℕ
double zero = zero
double (suc h) = suc (suc (double h))

pub double_is : (h : ℕ) → double h ≡ 2 * h
double_is zero = refl
double_is (suc h) = omega (arith, double_is h)

again_waits : (sheet : Sheet) (rom : List ℕ) (s : State) (q n : ℕ) → Waits sheet rom s.core → Waits sheet rom (at_ttm_again s q n).core
again_waits sheet rom s q n w =
    record { owed = refl; free = w.free; ttm_in = w.ttm_in; ttm = w.ttm; jcp_in = w.jcp_in; jcp = w.jcp; back = w.back }

last_turn : (sheet : Sheet) (rom sched : List ℕ) (s : State)
    → begins [] 1 (begins [] 1 (unbroken (ordinary sheet) rom sched 0 s)) ≡ quietly 2 s
unfolding unbroken
last_turn sheet rom sched s = two_more 0 s

-- h + 1 turns; the first may find any mark
turns : (sheet : Sheet) (rom sched : List ℕ) (h q : ℕ) (s : State) → Waits sheet rom s.core
    → s.core.timer ≡ timer_left 0 (double (suc h) + q)
    → Level sched s (double (suc h)) s.cycle.0
    → unbroken (ordinary sheet) rom sched (double (suc h)) s ≡ quietly (double (suc h)) (at_ttm_again s q (s.cycle.0 + double (suc h)))
turns sheet rom sched zero q s w t l =
    let e : 2 + q ≡ suc (suc q) = omega arith in
    let a : s.cycle.0 + 1 + 1 ≡ s.cycle.0 + 2 = omega arith in
    turn sheet rom sched s w q 0 (t ∙ ap (timer_left 0) e) l
    ∙ last_turn sheet rom sched (at_ttm_again s q (s.cycle.0 + 1 + 1))
    ∙ ap (λ (n : ℕ). quietly 2 (at_ttm_again s q n)) a
turns sheet rom sched (suc h) q s w t l =
    let j = double (suc h) in
    let n = s.cycle.0 in
    let e : suc (suc j) + q ≡ suc (suc (j + q)) = omega arith in
    let a : n + 1 + 1 + j ≡ n + suc (suc j) = omega arith in
    turn sheet rom sched s w (j + q) j (t ∙ ap (timer_left 0) e) l
    ∙ ap (λ (r : Ran State). begins [] 1 (begins [] 1 r))
    (turns sheet rom sched h q (at_ttm_again s (j + q) (n + 1 + 1)) (again_waits sheet rom s (j + q) (n + 1 + 1) w) refl
    (level_later sched s j n l))
    ∙ two_more j (at_ttm_again s q (n + 1 + 1 + j))
    ∙ ap (λ (m : ℕ). quietly (suc (suc j)) (at_ttm_again s q m)) a

-- LINES

-- no record below a bound is none below a lesser one
pub none_fewer : (sched : List ℕ) (a b d k : ℕ) → d ≤ b → none_among sched a b k ≡ true → none_among sched a d k ≡ true
unfolding none_among
none_fewer sched a b d zero h e = refl
none_fewer sched a b d (suc k) h e = go (leb a r && ltb r b) refl (leb a r && ltb r d) refl (none_fewer sched a b d k h)
  where
    r : ℕ
    r = record_cycle sched k

    go : (t : Bool) → (leb a r && ltb r b) ≡ t → (u : Bool) → (leb a r && ltb r d) ≡ u
        → (none_among sched a b k ≡ true → none_among sched a d k ≡ true) → none_among sched a d (suc k) ≡ true
    go true p u q ih = let z : false ≡ true = rw (p, none_among) at e in cc
    go false p true q ih =
        let x = and_left (leb a r) (ltb r d) q in
        let y = ltb-true r d (and_right (leb a r) (ltb r d) q) in
        let z : true ≡ false = rw (x, lt-ltb r b (omega arith)) at p in
        cc
    go false p false q ih = rw (q, none_among) (ih (rw (p, none_among) at e))

-- where no record comes in the j - 1 cycles after cycle n, the lines stay what they were
pub lines_stay : (sched : List ℕ) (n j : ℕ) → no_record sched (n + 1) (n + j) ≡ true → (i : ℕ) → i < j → lines_at sched (n + i) ≡ lines_at sched n
unfolding no_record
lines_stay sched n j q i h =
    let f : no_record sched (n + 1) (n + i + 1) ≡ true = none_fewer sched (n + 1) (n + j) (n + i + 1) (record_count sched) (omega arith) q in
    lines_same sched n (n + i) (omega arith) f

level_stays : (sched : List ℕ) (s : State) (j : ℕ) → (lines_at sched s.cycle.0).int ≡ s.core.interrupt.level
    → no_record sched (s.cycle.0 + 1) (s.cycle.0 + j) ≡ true → Level sched s j s.cycle.0
level_stays sched s j e q i h = ap (λ (l : Lines). l.int) (lines_stay sched s.cycle.0 j q i h) ∙ e

-- AN EVEN NUMBER OF CYCLES

-- what the test of a jump says
pub record MayJump (sheet : Sheet) (rom sched : List ℕ) (s : State) : Type 0 where
  pub waits : Waits sheet rom s.core
  pub tm : s.core.timer.tm ≡ 0
  pub runs : 0 < s.core.timer.register
  pub level : (lines_at sched s.cycle.0).int ≡ s.core.interrupt.level

pub may_jump_lem : (sheet : Sheet) (rom sched : List ℕ) (s : State) → may_jump sheet rom sched s ≡ true → MayJump sheet rom sched s
unfolding may_jump at_ttm at_jcp_back
may_jump_lem sheet rom sched s e =
    let t = all_at _ e in
    let a = all_at _ (t 4) in
    let b = all_at _ (t 5) in
    record {
      waits = record {
        owed = eqb-true _ _ (t 0);
        free = not-true _ (t 3);
        ttm_in = a 0;
        ttm = eqb-true _ _ (a 1);
        jcp_in = b 0;
        jcp = leb-true _ _ (b 1);
        back = eqb-true _ _ (b 2);
      };
      tm = eqb-true _ _ (t 1);
      runs = ltb-true _ _ (t 2);
      level = eqb-true _ _ (t 6);
    }

-- what a jump leaves is the state at TTM again
jumped_is : (s : State) (j : ℕ) → s.core.owed ≡ 0 → s.core.timer.tm ≡ 0
    → at_ttm_again s (ticks_left s.core.timer - j) (s.cycle.0 + j) ≡ state_after_jump j s
unfolding core_after_jump
jumped_is s j o z = rw (o, z)

-- any even number of cycles, up to the ticks left and the next record
module _ (sheet : Sheet) (rom sched : List ℕ) (s : State) (j : ℕ) (small : s.core.timer.register < 64)
    (may : may_jump sheet rom sched s ≡ true)
    (even : j % 2 ≡ 0) (more : 0 < j) (left : j ≤ ticks_left s.core.timer)
    (between : no_record sched (s.cycle.0 + 1) (s.cycle.0 + j) ≡ true) where
  turns_unbroken : unbroken (ordinary sheet) rom sched j s ≡ quietly j (state_after_jump j s)
  turns_unbroken =
      let m = may_jump_lem sheet rom sched s may in
      let n = s.cycle.0 in
      let timer = s.core.timer in
      let q = ticks_left timer - j in
      let e : double (suc (j / 2 - 1)) ≡ j = omega (arith, double_is (suc (j / 2 - 1))) in
      let a : ticks_left timer ≡ j + q = omega arith in
      let z : timer_left timer.tm (ticks_left timer) ≡ timer_left 0 (ticks_left timer) = ap (λ (x : ℕ). timer_left x (ticks_left timer)) m.tm in
      let t : timer ≡ timer_left 0 (j + q) = running_left timer m.runs small ∙ z ∙ ap (timer_left 0) a in
      subst (λ (k : ℕ). timer ≡ timer_left 0 (k + q) → Level sched s k n
      → unbroken (ordinary sheet) rom sched k s ≡ quietly k (at_ttm_again s q (n + k))) e
      (turns sheet rom sched (j / 2 - 1) q s m.waits) t (level_stays sched s j m.level between)
      ∙ ap (quietly j) (jumped_is s j m.waits.owed m.tm)

-- THE LENGTH OF A WAIT

largest-most : (test : ℕ → Bool) (k : ℕ) → largest test k ≤ k
unfolding largest
largest-most test zero = omega arith
largest-most test (suc k) = go (test (suc k)) refl (largest-most test k)
  where
    go : (b : Bool) → test (suc k) ≡ b → largest test k ≤ k → largest test (suc k) ≤ suc k
    go true e h = rw (e, largest) (omega arith)
    go false e h = rw (e, largest) (omega arith)

largest-passes : (test : ℕ → Bool) (k : ℕ) → (largest test k ≡ 0 → ⊥) → test (largest test k) ≡ true
unfolding largest
largest-passes test zero h = absurd (h refl)
largest-passes test (suc k) h = go (test (suc k)) refl (largest-passes test k) h
  where
    go : (b : Bool) → test (suc k) ≡ b → ((largest test k ≡ 0 → ⊥) → test (largest test k) ≡ true)
        → (largest test (suc k) ≡ 0 → ⊥) → test (largest test (suc k)) ≡ true
    go true e ih h = rw (e, largest) e
    go false e ih h = rw (e, largest) (ih (rw (e, largest) at h))

pub wait_within : (sheet : Sheet) (rom sched : List ℕ) (s : State) (left : ℕ) → wait_length sheet rom sched s left ≤ left
unfolding wait_length
wait_within sheet rom sched s left = go (may_jump sheet rom sched s)
  where
    go : (b : Bool) → on_jump b sched s left ≤ left
    go true = omega (arith, largest-most (jumpable sched s.cycle.0) (min (ticks_left s.core.timer) left))
    go false = omega arith

-- such a number is as the law above asks
record Jumps (sheet : Sheet) (rom sched : List ℕ) (s : State) (j : ℕ) : Type 0 where
  may : may_jump sheet rom sched s ≡ true
  even : j % 2 ≡ 0
  left : j ≤ ticks_left s.core.timer
  between : no_record sched (s.cycle.0 + 1) (s.cycle.0 + j) ≡ true

jumps : (sheet : Sheet) (rom sched : List ℕ) (s : State) (left : ℕ) → (wait_length sheet rom sched s left ≡ 0 → ⊥)
    → Jumps sheet rom sched s (wait_length sheet rom sched s left)
unfolding wait_length jumpable
jumps sheet rom sched s left h = go (may_jump sheet rom sched s) refl h
  where
    go : (b : Bool) → may_jump sheet rom sched s ≡ b → (on_jump b sched s left ≡ 0 → ⊥) → Jumps sheet rom sched s (on_jump b sched s left)
    go true e h =
        let n = s.cycle.0 in
        let b = min (ticks_left s.core.timer) left in
        let j = largest (jumpable sched n) b in
        let p = largest-passes (jumpable sched n) b h in
        record {
          may = e;
          even = eqb-true (j % 2) 0 (and_left (eqb (j % 2) 0) (no_record sched (n + 1) (n + j)) p);
          left = omega (arith, largest-most (jumpable sched n) b);
          between = and_right (eqb (j % 2) 0) (no_record sched (n + 1) (n + j)) p;
        }
    go false e h = absurd (h refl)

-- it is even: there is none where one cycle is left
pub wait_of_one : (sheet : Sheet) (rom sched : List ℕ) (s : State) → wait_length sheet rom sched s 1 ≡ 0
wait_of_one sheet rom sched s = go (eqb (wait_length sheet rom sched s 1) 0) refl
  where
    go : (b : Bool) → eqb (wait_length sheet rom sched s 1) 0 ≡ b → wait_length sheet rom sched s 1 ≡ 0
    go true e = eqb-true _ _ e
    go false e = omega (arith, wait_within sheet rom sched s 1, (jumps sheet rom sched s 1 (eqb-false _ _ e)).even)

-- WHAT A RUNNER COMPUTES

-- Where m is the number of cycles up to the next record: the largest is the lesser of the bound and m, rounded down to even.
pub largest-even : (sched : List ℕ) (n m b : ℕ) → ((j : ℕ) → j ≤ m → no_record sched (n + 1) (n + j) ≡ true)
    → ((j : ℕ) → m < j → j ≤ b → no_record sched (n + 1) (n + j) ≡ false) → largest (jumpable sched n) b ≡ min b m - min b m % 2
unfolding largest jumpable
largest-even sched n m zero p q = omega arith
largest-even sched n m (suc k) p q =
    go (eqb (suc k % 2) 0) refl (no_record sched (n + 1) (n + suc k)) refl (largest-even sched n m k p (λ j h l. q j h (omega arith)))
  where
    go : (t : Bool) → eqb (suc k % 2) 0 ≡ t → (u : Bool) → no_record sched (n + 1) (n + suc k) ≡ u
        → largest (jumpable sched n) k ≡ min k m - min k m % 2 → largest (jumpable sched n) (suc k) ≡ min (suc k) m - min (suc k) m % 2
    go true e true f ih =
        let z : suc k % 2 ≡ 0 = eqb-true (suc k % 2) 0 e in
        let l : m < suc k → ⊥ = λ h. true≢false (sym f ∙ q (suc k) h (omega arith)) in
        rw (e, f, largest) (omega arith)
    go true e false f ih =
        let l : suc k ≤ m → ⊥ = λ h. true≢false (sym (p (suc k) h) ∙ f) in
        rw (e, f, largest) (omega arith)
    go false e u f ih =
        let z : suc k % 2 ≡ 0 → ⊥ = eqb-false (suc k % 2) 0 e in
        rw (e, largest) (omega arith)

-- the length where it may jump
wait_length-even : (sheet : Sheet) (rom sched : List ℕ) (s : State) (left m : ℕ) → may_jump sheet rom sched s ≡ true
    → ((j : ℕ) → j ≤ m → no_record sched (s.cycle.0 + 1) (s.cycle.0 + j) ≡ true)
    → ((j : ℕ) → m < j → j ≤ left → no_record sched (s.cycle.0 + 1) (s.cycle.0 + j) ≡ false)
    → (k : ℕ) → k ≡ min (min (ticks_left s.core.timer) left) m → wait_length sheet rom sched s left ≡ k - k % 2
unfolding wait_length
wait_length-even sheet rom sched s left m e p q k f =
    rw (e, f) (largest-even sched s.cycle.0 m (min (ticks_left s.core.timer) left) p (λ j h l. q j h (omega arith)))

-- and where it may not
pub wait_length-none : (sheet : Sheet) (rom sched : List ℕ) (s : State) (left : ℕ) → may_jump sheet rom sched s ≡ false
    → wait_length sheet rom sched s left ≡ 0
unfolding wait_length
wait_length-none sheet rom sched s left e = rw e

-- the length where it may jump and no record comes before the cycles that are left are over
pub wait_length-steady : (sheet : Sheet) (rom sched : List ℕ) (s : State) (left : ℕ) → may_jump sheet rom sched s ≡ true
    → no_record sched (s.cycle.0 + 1) (s.cycle.0 + left) ≡ true
    → (k : ℕ) → k ≡ min (ticks_left s.core.timer) left → wait_length sheet rom sched s left ≡ k - k % 2
unfolding no_record
wait_length-steady sheet rom sched s left e v k f =
    let n = s.cycle.0 in
    wait_length-even sheet rom sched s left left e (λ j h. none_fewer sched (n + 1) (n + left) (n + j) (record_count sched) (omega arith) v)
    (λ j h l. absurd (omega arith)) k
    (omega (arith, f))

-- THE CUT: as it ends before the next record, m cycles on, it is as long where no more cycles are left than those
wait_length-cut : (sheet : Sheet) (rom sched : List ℕ) (s : State) (left m : ℕ)
    → ((j : ℕ) → j ≤ m → no_record sched (s.cycle.0 + 1) (s.cycle.0 + j) ≡ true)
    → ((j : ℕ) → m < j → j ≤ left → no_record sched (s.cycle.0 + 1) (s.cycle.0 + j) ≡ false)
    → wait_length sheet rom sched s left ≡ wait_length sheet rom sched s (min left m)
wait_length-cut sheet rom sched s left m p q = go (may_jump sheet rom sched s) refl
  where
    k : ℕ
    k = min (min (ticks_left s.core.timer) left) m

    go : (b : Bool) → may_jump sheet rom sched s ≡ b → wait_length sheet rom sched s left ≡ wait_length sheet rom sched s (min left m)
    go true e =
        wait_length-even sheet rom sched s left m e p q k refl
        ∙ sym (wait_length-even sheet rom sched s (min left m) m e p (λ j h l. absurd (omega arith)) k (omega arith))
    go false e = wait_length-none sheet rom sched s left e ∙ sym (wait_length-none sheet rom sched s (min left m) e)

-- THE CHIP'S JUMP: a wait, where RES is low and the count 0

-- what the test says
pub far : (sched : List ℕ) (s : State) → reset_far sched s ≡ true → Unreset sched s
unfolding reset_far
far sched s e =
    let n = (lines_at sched s.cycle.0).res in
    record {
      low = eqb-true n 0 (and_left (eqb n 0) (eqb s.count 0) e);
      none = eqb-true s.count 0 (and_right (eqb n 0) (eqb s.count 0) e);
    }

pub jump_is_wait : (sheet : Sheet) (rom sched : List ℕ) (s : State) (left : ℕ) → Unreset sched s
    → jump_length sheet rom sched s left ≡ wait_length sheet rom sched s left
unfolding jump_length reset_far
jump_is_wait sheet rom sched s left u = rw (u.low, u.none)

-- a jump has an even number of cycles: there is none where one is left
pub jump_of_one : (sheet : Sheet) (rom sched : List ℕ) (s : State) → jump_length sheet rom sched s 1 ≡ 0
unfolding jump_length
jump_of_one sheet rom sched s = go (reset_far sched s)
  where
    go : (b : Bool) → cond b (wait_length sheet rom sched s 1) 0 ≡ 0
    go true = wait_of_one sheet rom sched s
    go false = refl

pub jump_within : (sheet : Sheet) (rom sched : List ℕ) (s : State) (left : ℕ) → jump_length sheet rom sched s left ≤ left
unfolding jump_length
jump_within sheet rom sched s left = go (reset_far sched s)
  where
    go : (b : Bool) → cond b (wait_length sheet rom sched s left) 0 ≤ left
    go true = wait_within sheet rom sched s left
    go false = omega arith

pub jump_length-cut : (sheet : Sheet) (rom sched : List ℕ) (s : State) (left m : ℕ)
    → ((j : ℕ) → j ≤ m → no_record sched (s.cycle.0 + 1) (s.cycle.0 + j) ≡ true)
    → ((j : ℕ) → m < j → j ≤ left → no_record sched (s.cycle.0 + 1) (s.cycle.0 + j) ≡ false)
    → jump_length sheet rom sched s left ≡ jump_length sheet rom sched s (min left m)
unfolding jump_length
jump_length-cut sheet rom sched s left m p q = ap (λ (k : ℕ). cond (reset_far sched s) k 0) (wait_length-cut sheet rom sched s left m p q)

-- a jump is a wait, and RES and the count are as it asks
record JumpsSo (sheet : Sheet) (rom sched : List ℕ) (s : State) (j : ℕ) : Type 0 where
  wait : Jumps sheet rom sched s j
  unreset : Unreset sched s

jumps_so : (sheet : Sheet) (rom sched : List ℕ) (s : State) (left : ℕ) → (jump_length sheet rom sched s left ≡ 0 → ⊥)
    → JumpsSo sheet rom sched s (jump_length sheet rom sched s left)
unfolding jump_length
jumps_so sheet rom sched s left h = go (reset_far sched s) refl h
  where
    go : (b : Bool) → reset_far sched s ≡ b → (cond b (wait_length sheet rom sched s left) 0 ≡ 0 → ⊥)
        → JumpsSo sheet rom sched s (cond b (wait_length sheet rom sched s left) 0)
    go true e h = record { wait = jumps sheet rom sched s left h; unreset = far sched s e }
    go false e h = absurd (h refl)

module _ (sheet : Sheet) (rom sched : List ℕ) (s : State) (left j : ℕ) (e : jump_length sheet rom sched s left ≡ j) (more : j ≡ 0 → ⊥) where
  is_jump : JumpsSo sheet rom sched s j
  is_jump = subst (JumpsSo sheet rom sched s) e (jumps_so sheet rom sched s left (λ z. more (sym e ∙ z)))

  -- what a runner asks of the timer and the schedule where it jumps
  pub jump_runs : 0 < s.core.timer.register
  jump_runs = (may_jump_lem sheet rom sched s is_jump.wait.may).runs

  pub jump_ticks : j ≤ ticks_left s.core.timer
  jump_ticks = is_jump.wait.left

  pub jump_between : no_record sched (s.cycle.0 + 1) (s.cycle.0 + j) ≡ true
  jump_between = is_jump.wait.between

  pub jump_unreset : Unreset sched s
  jump_unreset = is_jump.unreset

  -- RES stays low
  stays_low : (i : ℕ) → i < j → (lines_at sched (s.cycle.0 + i)).res ≡ 0
  stays_low i h = ap (λ (l : Lines). l.res) (lines_stay sched s.cycle.0 j jump_between i h) ∙ jump_unreset.low

  -- THE JUMP LAW: where the timer-skipping runner jumps j cycles, j plain cycles come to what the jump says
  module _ (v : Valid s) where
    pub jump_unbroken : unbroken (chip sheet) rom sched j s ≡ quietly j (state_after_jump j s)
    jump_unbroken =
        let w = is_jump.wait in
        low_run sheet rom sched j s jump_unreset.none stays_low
        ∙ turns_unbroken sheet rom sched s j v.core.scalars.register w.may w.even (omega arith) w.left w.between

    pub jump_in_room : (room : ℕ) → within (chip sheet) rom sched room j s ≡ quietly j (state_after_jump j s)
    jump_in_room room =
        let none : length (unbroken (chip sheet) rom sched j s).bytes ≤ room =
        omega (arith, ap (λ (r : Ran State). length r.bytes) jump_unbroken) in
        roomy (chip sheet) rom sched j room s none ∙ jump_unbroken

-- a jump leads from a valid state to a valid state
pub jump_keeps : (sheet : Sheet) (rom sched : List ℕ) (s : State) (left j : ℕ) → Panel (chip sheet) rom sched → Valid s
    → s.cycle.0 + j ≤ cycle_limit → jump_length sheet rom sched s left ≡ j → (j ≡ 0 → ⊥) → Valid (state_after_jump j s)
jump_keeps sheet rom sched s left j p v h e more =
    let few = (legal_sheet sheet p.legal).level_most in
    let read = panel_schedule sheet rom sched p.not_refused_is in
    subst (λ (r : Ran State). Valid r.state) (jump_unbroken sheet rom sched s left j e more v)
    (reaches_valid sheet few rom sched p.rom_bytes p.sched_bytes read j s v h)
