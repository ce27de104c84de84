-- What `drive` and `advance` ensure, where the run is refused: the machine and the log are as they were. Assumes nothing.
use mathlib.Core.Path.{◌≡◌, ◌∙◌, sym, ap, subst}
use mathlib.Core.List.{List}
use Prim.Native.Nat.{ℕ, suc}
use Rattle.runs.specs.declared.Refusal.{Refusal}
use Rattle.runs.specs.declared.RunEnd.{RunEnd}
use Rattle.runs.specs.declared.RunEnd.TheVariants.{Refused}
use Rattle.runs.specs.Numbers.{refusal_number, end_of}
use Rattle.runs.specs.TwoRunners.{RunAnswer, refused, refused_run, run_number}
use Rattle.runs.specs.Lists.{Kind, run, run_answer, refusal, refusal_of, ChangesNothing}
use Rattle.runs.proofs.Calls.{by_number, changes_nothing}
use Rattle.runs.proofs.Refusals.{numbered}
use Rattle.upd546.specs.declared.State.{State}
use Rattle.upd546.specs.declared.Sheet.{Sheet}
use Rattle.upd546.specs.TwoRunners.{chip}
use Rattle.driver.specs.declared.KeptMachine.{KeptMachine}
use Rattle.driver.specs.declared.Report.{Report}
use Rattle.driver.specs.Lending.{brought_to, AsItWas}

module _ (kind : Kind) (rom sched : List ℕ) (m : KeptMachine) (log : List ℕ) (n : ℕ) (sheet : Sheet) where
  answers-nothing : (k : ℕ) → refusal chip (run kind rom sched m.state log n sheet) ≡ suc k
      → run_answer (chip sheet) kind rom sched m.state log n ≡ refused_run (suc k) m.state log
  answers-nothing k e =
      subst (λ (j : ℕ). ChangesNothing chip j (run kind rom sched m.state log n sheet)) e
      (changes_nothing chip (run kind rom sched m.state log n sheet))

  module _ (r : Report) (m' : KeptMachine) (log' : List ℕ)
      (e : brought_to r m' log' ≡ run_answer (chip sheet) kind rom sched m.state log n) where
    as_it_was : (k : ℕ) → brought_to r m' log' ≡ refused_run k m.state log → AsItWas r m m' log log'
    as_it_was k a = record {
      machine_kept = λ i. record { state = (a i).state };
      log_kept = ap (λ (z : RunAnswer State). z.log) a;
      no_cycles = ap (λ (z : RunAnswer State). z.cycles) a;
      no_clocks = ap (λ (z : RunAnswer State). z.clocks) a;
      none_begun = ap (λ (z : RunAnswer State). z.begun) a;
      none_written = ap (λ (z : RunAnswer State). z.written) a;
      no_steps = ap (λ (z : RunAnswer State). z.steps) a;
    }

    -- A report of a refusal: the machine and the log are as they were.
    pub refused_as_it_was : (y : Refusal) → r.end ≡ Refused y → AsItWas r m m' log log'
    refused_as_it_was y end =
        let number : refusal chip (run kind rom sched m.state log n sheet) ≡ refusal_number y =
        sym (ap (λ (z : RunAnswer State). refusal_of z.end) e) ∙ ap (λ (z : RunEnd). refusal_of (end_of z)) end in
        let k = numbered y in
        as_it_was (suc k.0) (e ∙ answers-nothing k.0 (number ∙ k.1))

    -- A run that the documents refuse: that is what the report says, with their number, and nothing is changed.
    pub numbered_as_it_was : (k : ℕ) → run_number (chip sheet) rom sched m.state n ≡ suc k
        → (end_of r.end ≡ refused (suc k)) × AsItWas r m m' log log'
    numbered_as_it_was k number =
        let a : brought_to r m' log' ≡ refused_run (suc k) m.state log =
        e ∙ answers-nothing k (by_number chip (run kind rom sched m.state log n sheet) ∙ number) in
        (ap (λ (z : RunAnswer State). z.end) a, as_it_was (suc k) a)
