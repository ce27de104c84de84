-- The theorems of `few_steps` at variables, and the figures of waits from them. Assumes nothing.
use mathlib.Core.Path.{◌≡◌, ◌∙◌, refl, ap, subst}
use mathlib.Core.Bool.{true}
use mathlib.Core.List.{List, []}
use Prim.Native.Nat.{ℕ, ◌+◌, ◌<◌}
use native.Mathlib.Omega.{arith}
use lib.Dec.{lit<, lit≤}
use borrow.Author.Tests.{ltb-true, eqb-true, ne_eqb}
use Rattle.runs.specs.Machine.{Machine}
use Rattle.runs.specs.TwoRunners.{RunAnswer, Stepped, strides}
use Rattle.upd546.specs.declared.State.{State}
use Rattle.upd546.specs.declared.Sheet.{Sheet}
use Rattle.upd546.specs.TheMachine.{fresh}
use Rattle.upd546.specs.TheLineSchedule.{lines_at, no_record}
use Rattle.upd546.specs.Timer.{ticks_left}
use Rattle.upd546.specs.StateImage.{state_number}
use Rattle.upd546.specs.TheSheet.{upd546_sheet}
use Rattle.upd546.specs.TwoRunners.{at_ttm, may_jump, chip, upd546}
use Rattle.laws.proofs.Lists.{all_at, below_all}
use Rattle.few_steps.specs.NoLongWait.{steps_for, cycles_for, SkipBegun, Waited}
use Rattle.few_steps.proofs.Steps.{steps_go_on, runs_go_on, answers_go_on}
use Rattle.few_steps.proofs.NoLongWait.{no_long_wait_is_walked, no_wait_is_walked, no_long_wait_of_a_run_is_walked}
use Rattle.witness.specs.FewSteps.{StandsAt, OfEveryWait, standing, WaitFacts, StepFacts}
use Rattle.witness.specs.FewSteps.{loop_bytes, loop_rom, least_sheet, stm_rom, fall_at, timed, wait_steps, AtTtm, StepFigures}
use Rattle.witness.proofs.Opened.{opened}

-- EVERY WAIT

module _ (sheet : Sheet) (rom sched : List ℕ) (r : ℕ) (q : Stepped State) where
  in_rom : (pc : ℕ) → at_ttm sheet rom pc ≡ true → pc < sheet.rom
  unfolding at_ttm
  in_rom pc e = ltb-true _ _ (all_at _ e 0)

  stands : (p : Stepped State) → Waited sheet rom sched r q p → StandsAt sheet rom sched (steps_for r) (cycles_for r) q p
  unfolding at_ttm
  stands p x = record {
    steps = x.steps;
    cycles = x.cycles;
    bytes = x.bytes;
    number = x.number;
    pc = x.stands.same;
    in_rom = in_rom p.ran.state.core.flow.pc x.stands.ttm;
    ttm = eqb-true _ _ (all_at _ x.stands.ttm 1);
    tm = x.stands.tm;
    owed = x.stands.owed;
    free = x.stands.free;
    count = x.stands.count;
    begins = λ k e. subst (SkipBegun q.ran.state.core.flow.pc) e x.skips;
    skips = λ t w b e. subst (SkipBegun q.ran.state.core.flow.pc) e x.skips;
  }

  waited : (more : ℕ → Stepped State) → Waited sheet rom sched r q (more (steps_for r)) → OfEveryWait sheet rom sched r q more
  waited more x = record {
    even = λ z. counted 1 r (rw z) (omega (arith, z));
    one = λ e. counted 2 2 (rw e) (rw e);
    odd = λ z o. counted 3 (r + 1) (rw (z, ne_eqb r 1 o)) (rw z);
    few = x.few;
  }
    where
      counted : (k c : ℕ) → steps_for r ≡ k → cycles_for r ≡ c → StandsAt sheet rom sched k c q (more k)
      counted k c e f =
          subst (λ (i : ℕ). StandsAt sheet rom sched i c q (more i)) e
          (subst (λ (i : ℕ). StandsAt sheet rom sched (steps_for r) i q (more (steps_for r))) f (stands (more (steps_for r)) x))

pub wait_facts : (sheet : Sheet) → WaitFacts sheet
wait_facts sheet = record {
  long = λ rom sched s r room n a m t b l z d.
      waited sheet rom sched r (standing s) (λ k. strides (chip sheet) rom sched k room n s)
      (no_long_wait_is_walked sheet rom sched s r room n a (record { waits = m; ticks = t; budget = b; low = l; count = z; quiet = d }));
  own = λ rom sched s r room n a m t b l z d.
      waited sheet rom sched r (standing s) (λ k. strides (chip sheet) rom sched k room n s)
      (no_wait_is_walked sheet rom sched s r room n a (record { waits = m; ticks = t; budget = b; low = l; count = z; quiet = d }));
  in_a_run = λ rom sched s k r room n br bs e o m t b l z d.
      waited sheet rom sched r (strides (chip sheet) rom sched k room n s) (λ i. strides (chip sheet) rom sched (k + i) room n s)
      (no_long_wait_of_a_run_is_walked sheet rom sched s k r room n br bs e o
      (record { waits = m; ticks = t; budget = b; low = l; count = z; quiet = d }));
}

pub step_facts : {S : Type 0} (M : Machine S) → StepFacts M
step_facts {S} M = record {
  steps = steps_go_on M;
  run = runs_go_on M;
  answer = λ rom sched k n s log e o. ap (λ (a : RunAnswer S). a.steps) (answers_go_on M rom sched k n s log e o);
}

-- IN FIGURES

at_ttm_lem : (sheet : Sheet) (rom sched : List ℕ) (k c pc j d : ℕ) (q p : Stepped State) → StandsAt sheet rom sched k c q p → q.steps + k ≡ j
    → q.ran.cycles + c ≡ d → q.ran.state.core.flow.pc ≡ pc → AtTtm j d pc p
at_ttm_lem sheet rom sched k c pc j d q p x a b e =
    record { steps = x.steps ∙ a; cycles = x.cycles ∙ b; pc = x.pc ∙ e; tm = x.tm; free = x.free }

-- a wait with r ticks left and r + 2 cycles
long : (sheet : Sheet) (rom sched : List ℕ) (r register counter : ℕ) → state_number sheet (timed register counter) ≡ 0
    → may_jump sheet rom sched (timed register counter) ≡ true
    → ticks_left (timed register counter).core.timer ≡ r → (lines_at sched 0).res ≡ 0 → no_record sched 1 (r + 2) ≡ true
    → OfEveryWait sheet rom sched r (standing (timed register counter)) (λ k. wait_steps sheet rom sched k (r + 2) register counter)
long sheet rom sched r register counter a m t l d =
    let e : r + 2 ≡ 0 + (r + 2) = omega arith in
    (wait_facts sheet).long rom sched (timed register counter) r 0 (r + 2) a m t (omega arith) l refl (rw e at d)

pub step_figures : StepFigures
unfolding opened
step_figures =
    record {
      one = at_ttm_lem upd546_sheet loop_rom (fall_at 0 3) 2 2 0 2 2 (standing (timed 32 0)) _
          ((long upd546_sheet loop_rom (fall_at 0 3) 1 32 0 refl refl refl refl refl).one refl) refl refl refl;
      two = at_ttm_lem upd546_sheet loop_rom (fall_at 0 4) 1 2 0 1 2 (standing (timed 48 0)) _
          ((long upd546_sheet loop_rom (fall_at 0 4) 2 48 0 refl refl refl refl refl).even refl) refl refl refl;
      three = at_ttm_lem upd546_sheet loop_rom (fall_at 0 5) 3 4 0 3 4 (standing (timed 56 0)) _
          ((long upd546_sheet loop_rom (fall_at 0 5) 3 56 0 refl refl refl refl refl).odd refl (λ e. omega (arith, e))) refl refl refl;
      sixty_three = at_ttm_lem upd546_sheet loop_rom (fall_at 0 65) 3 64 0 3 64 (standing (timed 1 0)) _
          ((long upd546_sheet loop_rom (fall_at 0 65) 63 1 0 refl refl refl refl refl).odd refl (λ e. omega (arith, e))) refl refl refl;
      longest = at_ttm_lem upd546_sheet loop_rom (fall_at 0x0F 0xC2) 1 4032 0 1 4032 (standing (timed 1 63)) _
          ((long upd546_sheet loop_rom (fall_at 0x0F 0xC2) 4032 1 63 refl refl refl refl refl).even refl) refl refl refl;
      two_bytes = at_ttm_lem least_sheet loop_bytes (fall_at 0 5) 3 4 0 3 4 (standing (timed 56 0)) _
          ((long least_sheet loop_bytes (fall_at 0 5) 3 56 0 refl refl refl refl refl).odd refl (λ e. omega (arith, e))) refl refl refl;
      behind_stm = at_ttm_lem upd546_sheet stm_rom (fall_at 0 67) 3 64 2 5 66 (strides upd546 stm_rom (fall_at 0 67) 2 0 67 fresh) _
          (((wait_facts upd546_sheet).in_a_run stm_rom (fall_at 0 67) fresh 2 63 0 67 (below_all 256 stm_rom (lit< tt) refl)
          (below_all 256 (fall_at 0 67) (lit< tt) refl) refl refl refl refl (lit≤ tt) refl refl refl).odd refl (λ e. omega (arith, e)))
          refl refl refl;
      answered = (step_facts upd546).answer stm_rom (fall_at 0 67) 5 67 fresh [] refl refl;
      after = at_ttm_lem upd546_sheet loop_rom (fall_at 0 4) 3 4 0 3 4 (standing (timed 56 0)) _
          (((wait_facts upd546_sheet).own loop_rom (fall_at 0 4) (timed 56 0) 3 0 4 refl refl refl (lit≤ tt) refl refl refl).odd refl
          (λ e. omega (arith, e))) refl refl refl;
      last = refl;
      due = refl;
      fourth = refl;
      accepted = refl;
    }
