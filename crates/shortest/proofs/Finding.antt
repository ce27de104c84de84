-- What the function answers: a refusal, a log that is too short, and the trials on the first 16n bytes of the log. Assumes nothing.
use mathlib.Core.Path.{◌≡◌, ◌∙◌, refl, sym, ap}
use mathlib.Core.Bool.{cond}
use mathlib.Core.List.{List, [], ◌∷◌, ◌++◌}
use Prim.Native.Nat.{ℕ, ◌<◌, ◌≤◌}
use native.Mathlib.Omega.{arith}
use lib.ListN.{length, take, drop, length-append, length-drop}
use lib.Seq.{drop_at, length-take-le}
use Rattle.runs.specs.Machine.{Machine}
use Rattle.runs.specs.Refusals.{first_of}
use Rattle.runs.specs.declared.Refusal.{Refusal}
use Rattle.runs.specs.Numbers.{refusal_number}
use Rattle.runs.specs.TwoRunners.{log_bound, run_number}
use Rattle.runs.proofs.Refusals.{numbered}
use Rattle.shortest.specs.declared.Shortest.{Shortest}
use Rattle.shortest.specs.declared.Unfound.{Unfound}
use Rattle.shortest.specs.declared.Unfound.TheVariants.{Refused, LogShort}
use Rattle.std.specs.Prelude.{Result, Err}
use Rattle.shortest.specs.Search.{finishes, trial_end, untried_number, error_number, on_error, shortest_answer, LogLeft, found_of, Answers}
use Rattle.shortest.proofs.Order.{untried_refused, untried_short, untried_none, answer_untried}

module _ {S : Type 0} (M : Machine S) (rom sched : List ℕ) (s : S) (n : ℕ) (log : List ℕ) where
  -- the log as it was
  untouched : LogLeft M rom sched s n log log
  untouched = record { untried = λ h. refl; long = refl; rest = refl }

  pub refused-answers : (why : Refusal) → refusal_number why ≡ run_number M rom sched s n → Answers M rom sched s n log (Err (Refused why)) log
  refused-answers why e =
      let k = numbered why in
      record {
        found = ap (λ (j : ℕ). record { number = j; records = 0 }) k.1
            ∙ sym (answer_untried M rom sched s n log k.0 (untried_refused M rom sched s n log k.0 (sym e ∙ k.1)));
        left = untouched;
      }

  pub short_answers : run_number M rom sched s n ≡ 0 → length log < log_bound n → Answers M rom sched s n log (Err LogShort) log
  short_answers e h = record {
    found = sym (answer_untried M rom sched s n log 80 (untried_short M rom sched s n log e h));
    left = untouched;
  }

  -- a longer log is lent with its first 16n bytes
  pub tried_answers : run_number M rom sched s n ≡ 0 → log_bound n ≤ length log → (a : Result Shortest Unfound) (part : List ℕ)
      → found_of a ≡ shortest_answer M rom sched s n (take (log_bound n) log) → length part ≡ log_bound n
      → Answers M rom sched s n log a (part ++ drop (log_bound n) log)
  unfolding shortest_answer error_number
  tried_answers e h a part q l =
      let first : untried_number M rom sched s n (take (log_bound n) log) ≡ 0
      = untried_none M rom sched s n (take (log_bound n) log) e (omega (arith, length-take-le (log_bound n) log h)) in
      let all : untried_number M rom sched s n log ≡ 0 = untried_none M rom sched s n log e h in
      record {
        found = q ∙ ap (λ (u : ℕ). on_error M rom sched s n (first_of (u ∷ cond (finishes (trial_end M rom s n sched)) 82 0 ∷ []))) (first ∙ sym all);
        left = record {
          untried = λ u. absurd (u all);
          long = length-append part (drop (log_bound n) log) ∙ omega (arith, length-drop (log_bound n) log);
          rest = drop_at part (drop (log_bound n) log) (log_bound n) l;
        };
      }
