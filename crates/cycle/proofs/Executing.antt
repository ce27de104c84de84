-- What an instruction that is due answers: by its stops in their order, and by how it ends. Assumes nothing.
use mathlib.Core.Path.{◌≡◌, ◌∙◌, refl, sym, ap, subst}
use mathlib.Core.List.{List, [], ◌∷◌}
use Prim.Native.Nat.{ℕ, zero, suc, ◌<◌, ◌≤◌}
use native.Mathlib.Omega.{arith}
use lib.Dec.{ltb}
use borrow.Author.Tests.{ltb-true}
use Rattle.runs.specs.Refusals.{first_of}
use Rattle.runs.proofs.Refusals.{first_at, first_append, passes}
use Rattle.upd546.specs.declared.Core.{Core}
use Rattle.upd546.specs.declared.Lines.{Lines}
use Rattle.upd546.specs.declared.State.{State}
use Rattle.upd546.specs.declared.Sheet.{Sheet}
use Rattle.upd546.specs.TheMachine.{byte_at, word_at}
use Rattle.upd546.specs.Parts.{state_of}
use Rattle.upd546.specs.Instructions.{Effect, Instruction, instruction}
use Rattle.upd546.specs.OneMachineCycle.{given, instruction_stop, on_stop}
use Rattle.laws.specs.Burst.{started, unticked}
use Rattle.laws.proofs.Instructions.{ValidGiven, keeps}
use Rattle.laws.proofs.Cycle.{given_valid}
use Rattle.instructions.specs.declared.Inputs.{Inputs}
use Rattle.instructions.specs.Groups.{given_of}
use Rattle.fetch.specs.declared.Fetched.{Fetched}
use Rattle.fetch.specs.Fetching.{fetch_stop}
use Rattle.fetch.specs.Fetching as fetching
use Rattle.effect.specs.Answer.{holds, answer_on}
use Rattle.effect.specs.Endings.{Begins, Outputs, outcome_of, skip_stop}
use Rattle.cycle.specs.Ready.{Ready}

-- the instruction that is due at the core c, and its effect
abbrev due : List ℕ → Core → Instruction
due rom c = instruction (byte_at rom c.flow.pc)

abbrev dues : Sheet → List ℕ → Lines → State → Core → Effect
dues sheet rom l s c = (due rom c).effect (given sheet rom l s c)

module _ (sheet : Sheet) (rom : List ℕ) (l : Lines) (s : State) (c : Core) where
  -- the stops of the fetch, and then that of the skip
  stops_are : instruction_stop (due rom c) (given sheet rom l s c) (dues sheet rom l s c) ≡ first_of (fetch_stop sheet rom c.flow.pc ∷ skip_stop sheet (dues sheet rom l s c) ∷ [])
  unfolding fetch_stop instruction_stop given
  stops_are = first_append (_ ∷ _ ∷ _ ∷ []) (_ ∷ [])

  -- a fetch that stops
  pub holds_fetch : (at : ℕ) (log : List ℕ) (k : ℕ) → (k ≡ 0 → ⊥) → k ≡ fetch_stop sheet rom c.flow.pc → holds at k s log ≡ answer_on at (unticked sheet rom l s c) s log
  unfolding unticked answer_on given first_of
  holds_fetch at log zero n e = absurd (n refl)
  holds_fetch at log (suc k) n e = rw (stops_are, ← e)

-- THE INSTRUCTION IS FETCHED
module _ (sheet : Sheet) (rom : List ℕ) (l : Lines) (ram ports : List ℕ) (n : ℕ) (c : Core) (f : Fetched) (goes_on : fetch_stop sheet rom c.flow.pc ≡ 0) (b : fetching.Begins rom c.flow.pc f) where
  abbrev here : State
  here = state_of c ram ports n

  -- what it is given
  abbrev gave : Inputs
  gave = record { core = c; after = f.after; code = f.code; second = f.second; lines = l }

  given_same : given_of sheet gave (word_at sheet ram ((instruction f.code).address c)) ports ≡ given sheet rom l here c
  unfolding given
  given_same = rw (b.code, b.second, b.after)

  outcome_due : outcome_of sheet rom (instruction f.code) gave here ≡ on_stop (skip_stop sheet (dues sheet rom l here c)) (started rom (due rom c) (given sheet rom l here c) (dues sheet rom l here c) here)
  unfolding given
  outcome_due = rw (b.code, b.second, b.after)

  pub outcome_same : outcome_of sheet rom (instruction f.code) gave here ≡ unticked sheet rom l here c
  unfolding unticked given first_of
  outcome_same = outcome_due ∙ sym (rw (stops_are sheet rom l here c, goes_on, only (skip_stop sheet (dues sheet rom l here c))))
    where
      only : (k : ℕ) → first_of (k ∷ []) ≡ k
      only zero = refl
      only (suc k) = refl

  module _ {table rows : List ℕ} {levels : ℕ} (few : sheet.levels ≤ 3) (r : Ready rom table rows levels l here) where
    pub begins : Begins table f.cycles (instruction f.code) c
    unfolding fetch_stop
    begins =
        let some : 0 < (due rom c).cycles = ltb-true 0 (due rom c).cycles (passes (ltb 0 (due rom c).cycles) 23 refl (first_at _ goes_on 1)) in
        record {
          sizes = r.sizes;
          cycles_are = b.cycles ∙ ap (λ (k : ℕ). (instruction k).cycles) (sym b.code);
          some_cycles = omega (arith, some, b.cycles);
          two_cycles = omega (arith, (keeps (byte_at rom c.flow.pc)).two_cycles, b.cycles);
          core = r.valid.core.scalars;
        }

    pub outputs : Outputs (instruction f.code) gave ports
    outputs =
        let v = given_valid sheet few here r.valid r.below rom l r.rom_bytes r.lines c r.valid.core in
        record {
          sheet = sheet;
          word = word_at sheet ram ((instruction f.code).address c);
          valid = ((keeps f.code).effect _ (subst ValidGiven (sym given_same) v)).writes;
        }
