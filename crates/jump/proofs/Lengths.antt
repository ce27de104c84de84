-- Which test of a jump fails, and how long the jump is where all pass. Assumes nothing.
use mathlib.Core.Path.{◌≡◌, ◌∙◌, refl, sym, ap}
use mathlib.Core.Bool.{Bool, true, false, ◌&&◌, and-true, and-false}
use mathlib.Core.List.{List, [], ◌∷◌}
use Prim.Native.Nat.{ℕ, zero, suc, ◌+◌, ◌-◌, ◌%◌, ◌<◌, ◌≤◌, min}
use lib.Dec.{eqb}
use lib.ListN.{length, get_or}
use borrow.Author.Tests.{lt-ltb, le-ltb, le-leb, lt-leb, eq-eqb, ne_eqb}
use Rattle.upd546.specs.declared.Interrupt.{Interrupt}
use Rattle.upd546.specs.declared.Timer.{Timer}
use Rattle.upd546.specs.declared.State.{State}
use Rattle.upd546.specs.declared.Sheet.{Sheet}
use Rattle.upd546.specs.TheSheet.{in_rom}
use Rattle.upd546.specs.TheMachine.{byte_at, follows, page_of}
use Rattle.upd546.specs.Sequences.{all_of}
use Rattle.upd546.specs.TheLineSchedule.{lines_at}
use Rattle.upd546.specs.Timer.{ticks_left}
use Rattle.upd546.specs.TwoRunners.{at_ttm, at_jcp_back, may_jump}
use Rattle.laws.proofs.Lists.{and_left, and_right}
use Rattle.laws.proofs.Jump.{wait_length-none, wait_length-steady}
use Rattle.jump.specs.Boundary.{Shows, Steady, jump_by, JumpsBy}

-- THE BYTES AT PC AND AFTER IT

module _ (sheet : Sheet) (rom : List ℕ) (same : sheet.rom ≡ length rom) (pc : ℕ) where
  pub past_rom : length rom ≤ pc → at_ttm sheet rom pc ≡ false
  unfolding at_ttm all_of
  past_rom h = rw (same, le-ltb pc (length rom) h)

  pub no_ttm : (byte_at rom pc ≡ 0x05 → ⊥) → at_ttm sheet rom pc ≡ false
  unfolding at_ttm all_of
  no_ttm b = rw (ne_eqb (byte_at rom pc) 0x05 b) (and-false (in_rom sheet pc))

  pub is_ttm : pc < length rom → byte_at rom pc ≡ 0x05 → at_ttm sheet rom pc ≡ true
  unfolding at_ttm all_of
  is_ttm h b = rw (same, lt-ltb pc (length rom) h, b)

  -- the address after PC
  module _ {next : ℕ} (is_next : next ≡ follows pc) where
    pub next_past_rom : length rom ≤ next → false ≡ at_jcp_back sheet rom pc
    unfolding at_jcp_back all_of
    next_past_rom g = rw (same, ← is_next, le-ltb next (length rom) g)

    -- and the byte there
    module _ {code : ℕ} (is_code : code ≡ byte_at rom next) (g : next < length rom) where
      pub no_jcp : code < 0xC0 → false ≡ at_jcp_back sheet rom pc
      unfolding at_jcp_back all_of
      no_jcp k = rw (same, ← is_next, lt-ltb next (length rom) g, ← is_code, lt-leb 0xC0 code k)

      pub is_jcp_back : 0xC0 ≤ code → eqb (page_of next + code % 64) pc ≡ at_jcp_back sheet rom pc
      unfolding at_jcp_back all_of
      is_jcp_back k =
          rw (same, ← is_next, lt-ltb next (length rom) g, ← is_code, le-leb 0xC0 code k) (sym (and-true (eqb (page_of next + code % 64) pc)))

-- THE TESTS

-- one of the tests fails
fails : (ts : List Bool) (i : ℕ) → get_or ts i true ≡ false → all_of ts ≡ false
unfolding all_of
fails [] i e = e
fails (t ∷ ts) zero e = rw e
fails (t ∷ ts) (suc i) e = rw (fails ts i e) (and-false t)

-- a state that may not jump, by what it shows
module _ (sheet : Sheet) (rom sched : List ℕ) (s : State) where
  pub both_one : (eqb s.core.interrupt.int 1 && eqb s.core.interrupt.inte 1) ≡ true → may_jump sheet rom sched s ≡ false
  unfolding may_jump
  both_one t = fails _ 3 (rw t)

  pub stopped : s.core.timer.register ≡ 0 → may_jump sheet rom sched s ≡ false
  unfolding may_jump
  stopped z = fails _ 2 (rw z)

  pub no_loop : (at_ttm sheet rom s.core.flow.pc && at_jcp_back sheet rom s.core.flow.pc) ≡ false → may_jump sheet rom sched s ≡ false
  unfolding may_jump
  no_loop t = go (at_ttm sheet rom s.core.flow.pc) refl t
    where
      go : (b : Bool) → at_ttm sheet rom s.core.flow.pc ≡ b → (b && at_jcp_back sheet rom s.core.flow.pc) ≡ false → may_jump sheet rom sched s ≡ false
      go true p t = fails _ 5 t
      go false p t = fails _ 4 p

  owes : (s.core.owed ≡ 0 → ⊥) → may_jump sheet rom sched s ≡ false
  unfolding may_jump
  owes h = fails _ 0 (ne_eqb s.core.owed 0 h)

  tm_set : (s.core.timer.tm ≡ 0 → ⊥) → may_jump sheet rom sched s ≡ false
  unfolding may_jump
  tm_set h = fails _ 1 (ne_eqb s.core.timer.tm 0 h)

  other_level : ((lines_at sched s.cycle.0).int ≡ s.core.interrupt.level → ⊥) → may_jump sheet rom sched s ≡ false
  unfolding may_jump
  other_level h = fails _ 6 (ne_eqb (lines_at sched s.cycle.0).int s.core.interrupt.level h)

-- THE LENGTH, of every state and schedule that shows this

none_by : (skips : Bool) (sheet : Sheet) (rom sched : List ℕ) (s : State) (left : ℕ) → may_jump sheet rom sched s ≡ false → 0 ≡ jump_by skips sheet rom sched s left
none_by false sheet rom sched s left e = refl
none_by true sheet rom sched s left e = sym (wait_length-none sheet rom sched s left e)

module _ {skips : Bool} {rom : List ℕ} {pc owed : ℕ} {interrupt : Interrupt} {timer : Timer} {level left : ℕ} where
  no_jump : ((sheet : Sheet) → sheet.rom ≡ length rom → (sched : List ℕ) (s : State)
      → Shows s pc owed interrupt timer → Steady sched s.cycle.0 level left → may_jump sheet rom sched s ≡ false)
      → JumpsBy skips rom pc owed interrupt timer level left 0
  no_jump h = record { length_is = λ sheet same sched s w k. none_by skips sheet rom sched s left (h sheet same sched s w k) }

  pub never_skips : skips ≡ false → JumpsBy skips rom pc owed interrupt timer level left 0
  never_skips e = record { length_is = λ sheet same sched s w k. rw e }

  pub owed_none : (owed ≡ 0 → ⊥) → JumpsBy skips rom pc owed interrupt timer level left 0
  owed_none h = no_jump (λ sheet same sched s w k. owes sheet rom sched s (λ z. h (sym w.owed_is ∙ z)))

  pub tm_none : (timer.tm ≡ 0 → ⊥) → JumpsBy skips rom pc owed interrupt timer level left 0
  tm_none h = no_jump (λ sheet same sched s w k. tm_set sheet rom sched s (λ z. h (ap (λ (t : Timer). t.tm) (sym w.timer_is) ∙ z)))

  pub stopped_none : timer.register ≡ 0 → JumpsBy skips rom pc owed interrupt timer level left 0
  stopped_none z = no_jump (λ sheet same sched s w k. stopped sheet rom sched s (ap (λ (t : Timer). t.register) w.timer_is ∙ z))

  pub both_none : (eqb interrupt.int 1 && eqb interrupt.inte 1) ≡ true → JumpsBy skips rom pc owed interrupt timer level left 0
  both_none t = no_jump (λ sheet same sched s w k. both_one sheet rom sched s (rw w.interrupt_is t))

  pub loop_none : ((sheet : Sheet) → sheet.rom ≡ length rom → (at_ttm sheet rom pc && at_jcp_back sheet rom pc) ≡ false)
      → JumpsBy skips rom pc owed interrupt timer level left 0
  loop_none t = no_jump (λ sheet same sched s w k. no_loop sheet rom sched s (rw w.pc_is (t sheet same)))

  pub level_none : (level ≡ interrupt.level → ⊥) → JumpsBy skips rom pc owed interrupt timer level left 0
  level_none h =
      no_jump (λ sheet same sched s w k. other_level sheet rom sched s
      (λ z. h (sym k.level_is ∙ z ∙ ap (λ (i : Interrupt). i.level) w.interrupt_is)))

  -- all of them pass
  pub jumps : skips ≡ true → owed ≡ 0 → timer.tm ≡ 0 → 0 < timer.register → (eqb interrupt.int 1 && eqb interrupt.inte 1) ≡ false
      → ((sheet : Sheet) → sheet.rom ≡ length rom → (at_ttm sheet rom pc && at_jcp_back sheet rom pc) ≡ true) → level ≡ interrupt.level
      → (k r : ℕ) → k ≡ min (ticks_left timer) left → r ≡ k - k % 2 → JumpsBy skips rom pc owed interrupt timer level left r
  unfolding may_jump all_of
  jumps j o z g i t l k r e f =
      rw j
      (record {
        length_is = λ sheet same sched s w y. f
            ∙ sym (wait_length-steady sheet rom sched s left (passes sheet same sched s w y) y.no_record_is k (rw w.timer_is e));
      })
    where
      passes : (sheet : Sheet) → sheet.rom ≡ length rom → (sched : List ℕ) (s : State) → Shows s pc owed interrupt timer
          → Steady sched s.cycle.0 level left → may_jump sheet rom sched s ≡ true
      passes sheet same sched s w y =
          let a = and_left (at_ttm sheet rom pc) (at_jcp_back sheet rom pc) (t sheet same) in
          let b = and_right (at_ttm sheet rom pc) (at_jcp_back sheet rom pc) (t sheet same) in
          let v = eq-eqb (lines_at sched s.cycle.0).int interrupt.level (y.level_is ∙ l) in
          rw (w.owed_is, w.timer_is, w.interrupt_is, w.pc_is, o, z, lt-ltb 0 timer.register g, i, a, b, v)
