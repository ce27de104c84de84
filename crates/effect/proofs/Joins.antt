-- From how a group ends to what the instruction of a code comes to. Assumes nothing.
use mathlib.Core.Path.{◌≡◌, ◌∙◌, refl, sym, ap, subst}
use mathlib.Core.List.{List, [], ◌++◌, append-nil}
use Prim.Native.Nat.{ℕ, zero, suc, ◌+◌, ◌-◌}
use native.Mathlib.Nat.{add-zero}
use native.Mathlib.Omega.{arith}
use lib.ListN.{length, take, drop, take-append-drop}
use lib.Seq.{set-get_or}
use borrow.Author.Tests.{le-leb}
use Rattle.upd546.specs.declared.State.{State}
use Rattle.upd546.specs.declared.Sheet.{Sheet}
use Rattle.upd546.specs.TheMachine.{place_in, word_at, with_word}
use Rattle.upd546.specs.Parts.{state_of}
use Rattle.upd546.specs.Instructions.{Instruction, instruction}
use Rattle.upd546.specs.OneMachineCycle.{leaving, on_stop}
use Rattle.laws.specs.Burst.{owing, started}
use Rattle.instructions.specs.declared.Inputs.{Inputs}
use Rattle.instructions.specs.Groups.{given_of}
use Rattle.effect.specs.Answer.{Answer, Told, start_of, answer_on}
use Rattle.effect.specs.Endings.{effect_on, skip_stop, on_skip, kept_on, outcome_of, Begins, Outputs, EndsAs, EndsOn, EndsWith}

-- what the code stands for
pub begins_named : {table : List ℕ} {cycles : ℕ} {i : Instruction} (g : Inputs) → i ≡ instruction g.code → Begins table cycles (instruction g.code) g.core
    → Begins table cycles i g.core
begins_named {table} {cycles} g named b = subst (λ (i : Instruction). Begins table cycles i g.core) (sym named) b

pub outputs-named : {i : Instruction} (g : Inputs) (ports : List ℕ) → i ≡ instruction g.code → Outputs (instruction g.code) g ports → Outputs i g ports
outputs-named g ports named o = subst (λ (i : Instruction). Outputs i g ports) (sym named) o

module _ (sheet : Sheet) (rom : List ℕ) (at : ℕ) (g : Inputs) (ram ports : List ℕ) (n : ℕ) (log : List ℕ) where
  abbrev here : State
  here = state_of g.core ram ports n

  -- the answer of the instruction i
  abbrev answer_of : Instruction → Answer
  answer_of i = answer_on at (outcome_of sheet rom i g here) here log

  -- one that writes no port: held back, or begun with this RAM
  quiet_answer : (i : Instruction) → (effect_on sheet i g ram ports).writes ≡ []
      → start_of (on_skip (skip_stop sheet (effect_on sheet i g ram ports)) rom at i g.core (effect_on sheet i g ram ports))
      (kept_on (skip_stop sheet (effect_on sheet i g ram ports)) sheet ram (i.address g.core) (effect_on sheet i g ram ports).word) ports log
      ≡ answer_of i
  unfolding answer_on
  quiet_answer i w = go (skip_stop sheet (effect_on sheet i g ram ports))
    where
      go : (k : ℕ) → start_of (on_skip k rom at i g.core (effect_on sheet i g ram ports)) (kept_on k sheet ram (i.address g.core) (effect_on sheet i g ram ports).word) ports log
          ≡ answer_on at (on_stop k (started rom i (given_of sheet g (word_at sheet ram (i.address g.core)) ports) (effect_on sheet i g ram ports) here)) here log
      go zero =
          let b : at ≡ at + 0 = sym (add-zero at) in
          let front = sym (append-nil (take at log)) in
          let l : log ≡ take at log ++ [] ++ drop (at + 0) log = sym (take-append-drop at log) ∙ (λ j. front j ++ drop (b j) log) in
          let e = effect_on sheet i g ram ports in
          rw (w, le-leb 0 (length log - at) (omega arith))
          (λ j. record { stop = 0; core = owing rom i e; ram = with_word sheet ram (i.address g.core) e.word; ports = ports; log = l j; at = b j })
      go (suc k) = refl

  module _ {i : Instruction} (named : i ≡ instruction g.code) where
    pub on_answers : {d : Told} {ram' : List ℕ} → EndsOn sheet rom at i g ram ports d ram' → start_of d ram' ports log ≡ answer_of (instruction g.code)
    on_answers e = (λ j. start_of (e.is j) (e.ram_is j) ports log) ∙ quiet_answer i e.no_writes ∙ ap answer_of named

    -- the RAM is as it was where the word is stored back
    pub as_answers : {d : Told} → ((word : ℕ) (ports : List ℕ) → EndsAs sheet rom at i g word ports d) → start_of d ram ports log ≡ answer_of (instruction g.code)
    as_answers f =
        let e = f (word_at sheet ram (i.address g.core)) ports in
        on_answers (record { is = e.is; ram_is = kept (skip_stop sheet (effect_on sheet i g ram ports)) ∙ ap (λ (w : ℕ). kept_on (skip_stop sheet (effect_on sheet i g ram ports)) sheet ram (i.address g.core) w) (sym e.word_is); no_writes = e.no_writes })
      where
        kept : (k : ℕ) → ram ≡ kept_on k sheet ram (i.address g.core) (word_at sheet ram (i.address g.core))
        kept zero = sym (set-get_or ram (place_in sheet (i.address g.core)) 0)
        kept (suc k) = refl

    pub with_answers : {d : Told} {ports' log' : List ℕ} → ((word : ℕ) (ram : List ℕ) → EndsWith sheet rom at i g word n ram ports log d ports' log')
        → start_of d ram ports' log' ≡ answer_of (instruction g.code)
    with_answers f =
        let a = i.address g.core in
        let e = f (word_at sheet ram a) ram in
        let x = effect_on sheet i g ram ports in
        let same : ram ≡ with_word sheet ram a x.word = sym (set-get_or ram (place_in sheet a) 0) ∙ ap (λ (w : ℕ). with_word sheet ram a w) (sym e.word_is) in
        e.is
        ∙ ap (λ (r : List ℕ). answer_on at (on_stop (skip_stop sheet x) (leaving x (owing rom i x) r here)) here log) same
        ∙ ap answer_of named
