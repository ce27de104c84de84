-- A turn of one cycle: an acceptance, an owed cycle. Assumes nothing.
use mathlib.Core.Path.{◌≡◌, ◌∙◌, refl, sym, ap}
use mathlib.Core.Bool.{Bool, true, false}
use mathlib.Core.List.{List, []}
use Prim.Native.Nat.{ℕ, zero, suc, ◌+◌, ◌-◌}
use native.Mathlib.Nat.{sub-zero}
use native.Mathlib.Omega.{arith}
use Rattle.runs.specs.Machine.{went}
use Rattle.runs.specs.OneByOne.{none, also}
use Rattle.upd546.specs.declared.Core.{Core}
use Rattle.upd546.specs.declared.Lines.{Lines}
use Rattle.upd546.specs.declared.Sheet.{Sheet}
use Rattle.upd546.specs.declared.State.{State}
use Rattle.upd546.specs.TheLineSchedule.{lines_at}
use Rattle.upd546.specs.OneMachineCycle.{accepts, accepted, taken, paid, ticked, quiet, on_owed, on_accepts, ordinary_cycle}
use Rattle.laws.specs.Ordinary.{steps_of}
use Rattle.laws.proofs.Tails.{put_none}
use Rattle.upd546.specs.Parts.{with_parts, onward}
use Rattle.std.specs.Prelude.{None}
use Rattle.burst.specs.Turn.{Turn, Turned, stretch_of}

module _ {sheet : Sheet} {skips : Bool} {rom sched table rows positions : List ℕ} {l : Lines} {limit : ℕ} {s : State} {log : List ℕ} {at begun : ℕ}
    (k : Turn sheet skips rom sched table rows positions l limit s log at begun) where
  lines_here : lines_at sched s.cycle.0 ≡ l
  lines_here = k.lines s.cycle.0 (omega arith) k.ahead

  single : (core : Core) → steps_of sheet rom sched s ≡ went (onward 1 s core s.ram s.ports) [] 0
      → Turned sheet skips rom sched limit s log at begun (stretch_of core (s.cycle.0 + 1) begun at None) s.ram s.ports log
  single core q = record {
    held = λ n. absurd (n refl);
    went = λ z. record {
      d = 1;
      b = 0;
      w = [];
      some_cycles = omega arith;
      steps = also [] 0 none (q ∙ ap (λ (t : State). went (with_parts t core s.ram s.ports (s.cycle.0 + 1)) [] 0) k.parts) (omega arith) (omega (arith, k.ahead)) (λ e. rw (sub-zero (limit - s.cycle.0)) (k.no_jump e));
      cycle_is = refl;
      begun_is = omega arith;
      at_is = omega arith;
      log_is = sym (put_none log at);
    };
  }

  pub accepts-turn : accepts s.core ≡ true → {core : Core} → core ≡ ticked (taken l (accepted sheet s.core))
      → Turned sheet skips rom sched limit s log at begun (stretch_of core (s.cycle.0 + 1) begun at None) s.ram s.ports log
  unfolding ordinary_cycle
  accepts-turn a e =
      rw e
      (single (ticked (taken l (accepted sheet s.core)))
      (ap (λ (b : Bool). on_accepts b sheet rom (lines_at sched s.cycle.0) s) a ∙ ap (λ (x : Lines). quiet s (taken x (accepted sheet s.core))) lines_here))

  owes : (o : ℕ) → (o ≡ 0 → ⊥) → (x : Lines) → on_owed o sheet rom x s (taken x s.core) ≡ quiet s (paid (taken x s.core))
  owes zero n x = absurd (n refl)
  owes (suc o) n x = refl

  pub owed_turn : accepts s.core ≡ false → (s.core.owed ≡ 0 → ⊥) → {core : Core} → core ≡ ticked (paid (taken l s.core))
      → Turned sheet skips rom sched limit s log at begun (stretch_of core (s.cycle.0 + 1) begun at None) s.ram s.ports log
  unfolding ordinary_cycle
  owed_turn a n e =
      rw e
      (single (ticked (paid (taken l s.core)))
      (ap (λ (b : Bool). on_accepts b sheet rom (lines_at sched s.cycle.0) s) a
      ∙ owes s.core.owed n (lines_at sched s.cycle.0)
      ∙ ap (λ (x : Lines). quiet s (paid (taken x s.core))) lines_here))
