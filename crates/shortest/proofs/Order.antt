-- What is answered in each case, by the numbers in their order. Assumes nothing.
use mathlib.Core.Path.{◌≡◌, ◌∙◌, refl, sym, ap}
use mathlib.Core.Bool.{Bool, true, false}
use mathlib.Core.List.{List, [], ◌∷◌}
use Prim.Native.Nat.{ℕ, zero, suc, ◌+◌, ◌<◌, ◌≤◌}
use native.Mathlib.Omega.{arith}
use lib.Dec.{leb}
use lib.ListN.{length}
use borrow.Author.Tests.{le-leb, lt-leb, leb-true, leb-false}
use Rattle.runs.specs.Machine.{Machine}
use Rattle.runs.specs.Refusals.{cycle_limit, first_of, unless}
use Rattle.runs.specs.TwoRunners.{log_bound, finished, stopped, number_of_end, run_number}
use Rattle.runs.proofs.Refusals.{first_is}
use Rattle.runs.proofs.Calls.{run_fit, fit_run}
use Rattle.shortest.specs.Search.{trial_end, smallest, untried_number, error_number, on_error, shortest_answer}

module _ {S : Type 0} (M : Machine S) (rom sched : List ℕ) (s : S) (n : ℕ) where
  -- A run of no cycle is refused by every number of a run of n but 2, and by 2 where every run is.

  pub none_refused : (k : ℕ) → run_number M rom sched s 0 ≡ suc k → run_number M rom sched s n ≡ suc k
  unfolding run_number first_of
  none_refused k e =
      go M.own_number (M.panel_number rom sched) (M.state_number s) (leb (M.at s + 0) cycle_limit) refl (leb (M.at s + n) cycle_limit) refl e
    where
      go : (a b c : ℕ) (x : Bool) → leb (M.at s + 0) cycle_limit ≡ x → (y : Bool) → leb (M.at s + n) cycle_limit ≡ y
          → first_of (a ∷ b ∷ c ∷ unless x 2 ∷ []) ≡ suc k → first_of (a ∷ b ∷ c ∷ unless y 2 ∷ []) ≡ suc k
      go (suc a) b c x p y q e = e
      go zero (suc b) c x p y q e = e
      go zero zero (suc c) x p y q e = e
      go zero zero zero false p false q e = e
      go zero zero zero true p y q e = absurd (omega arith)
      go zero zero zero false p true q e =
          absurd (omega (arith, leb-false (M.at s + 0) cycle_limit p, leb-true (M.at s + n) cycle_limit q))

  pub refused_by : (j k : ℕ) → j ≡ suc k → j ≡ run_number M rom sched s 0 → j ≡ run_number M rom sched s n
  refused_by j k e q = e ∙ sym (none_refused k (sym q ∙ e))

  pub by_limit : run_number M rom sched s 0 ≡ 0 → leb (M.at s + n) cycle_limit ≡ false → run_number M rom sched s n ≡ 2
  unfolding run_number first_of
  by_limit e h = let f = run_fit M rom sched s 0 e in rw (f.legal, f.panel, f.state, h)

  pub by_none : run_number M rom sched s 0 ≡ 0 → leb (M.at s + n) cycle_limit ≡ true → run_number M rom sched s n ≡ 0
  by_none e h =
      let f = run_fit M rom sched s 0 e in
      fit_run M rom sched s n (record { legal = f.legal; panel = f.panel; state = f.state; limit = leb-true (M.at s + n) cycle_limit h })

  module _ (log : List ℕ) where
    pub untried_refused : (k : ℕ) → run_number M rom sched s n ≡ suc k → untried_number M rom sched s n log ≡ suc k
    unfolding untried_number
    untried_refused k e = first_is _ k _ e

    pub untried_short : run_number M rom sched s n ≡ 0 → length log < log_bound n → untried_number M rom sched s n log ≡ 81
    unfolding untried_number first_of
    untried_short e h = rw (e, lt-leb (log_bound n) (length log) h)

    pub untried_none : run_number M rom sched s n ≡ 0 → log_bound n ≤ length log → untried_number M rom sched s n log ≡ 0
    unfolding untried_number first_of
    untried_none e h = rw (e, le-leb (log_bound n) (length log) h)

    -- "With any of them k is 0."
    pub answer_untried : (k : ℕ) → untried_number M rom sched s n log ≡ suc k → shortest_answer M rom sched s n log ≡ record { number = suc k; records = 0 }
    unfolding shortest_answer error_number
    answer_untried k e = ap (on_error M rom sched s n) (first_is _ k _ e)

    pub answer_finishes : untried_number M rom sched s n log ≡ 0 → trial_end M rom s n sched ≡ finished
        → shortest_answer M rom sched s n log ≡ record { number = 82; records = 0 }
    unfolding shortest_answer error_number first_of
    answer_finishes u e = rw (u, e)

    pub answer_stops : untried_number M rom sched s n log ≡ 0 → (number : ℕ) → trial_end M rom s n sched ≡ stopped number
        → shortest_answer M rom sched s n log ≡ record { number = number; records = smallest M rom sched s n }
    unfolding shortest_answer error_number first_of
    answer_stops u number e =
        let none : error_number M rom sched s n log ≡ 0 = rw (u, e) in
        ap (on_error M rom sched s n) none
        ∙ ap (λ (k : ℕ). record { number = k; records = smallest M rom sched s n }) (ap number_of_end e)
