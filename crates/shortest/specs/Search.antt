-- Request R-12, "The shortest schedule that still stops", over any machine: which k is found, and what is answered. "A small sheet, given
-- last to each call that takes states" (R-11), is the machine. Assumes nothing: these are definitions.
use Rattle.std.specs.Prelude.{ℕ, zero, suc, ◌*◌, ◌≡◌, Bool, true, false, cond, List, [], ◌∷◌, Result, Ok, Err, eqb, leb, length, take, drop, replicate}
use Rattle.runs.specs.Machine.{Machine}
use Rattle.runs.specs.Refusals.{first_of, unless}
use Rattle.runs.specs.TwoRunners.{log_bound, End, finished, stopped, refused, number_of_end, run_number, plain}
use Rattle.runs.specs.Numbers.{stop_number, refusal_number}
use Rattle.upd546.specs.TheLineSchedule.{record_length, record_count}
use Rattle.shortest.specs.declared.Shortest.{Shortest}
use Rattle.shortest.specs.declared.Unfound.{Unfound}
use Rattle.shortest.specs.declared.Unfound.TheVariants.{Refused, LogShort, Finishes}

-- "with only the first k records"
abbrev pub first_records : ℕ → List ℕ → List ℕ
first_records k sched = take (record_length * k) sched

-- a run that "stops with the same number"
abbrev pub stops_with : ℕ → End → Bool
stops_with number finished = false
stops_with number (stopped k) = eqb k number
stops_with number (refused k) = false

-- "the full run finishes"
abbrev pub finishes : End → Bool
finishes finished = true
finishes (stopped k) = false
finishes (refused k) = false

-- "the smallest k": of k and the numbers after it, the first that passes the test, with so many tries; where none does, the number
-- behind them
unfoldable pub smallest_from : (ℕ → Bool) → ℕ → ℕ → ℕ
smallest_from test zero k = k
smallest_from test (suc tries) k = elim (test k) [ true ↦ k | false ↦ smallest_from test tries (suc k) ]

-- "the answer is k with that number"
pub record Found : Type 0 where
  pub number : ℕ
  pub records : ℕ

-- "Each trial is lent a log of 16n bytes": how the plain run with this schedule ends on one. What stood in it before plays no part
-- (`EveryAnswer` says it of every log).
unfoldable pub trial_end : {S : Type 0} (M : Machine S) (rom : List ℕ) → S → ℕ → List ℕ → End
trial_end M rom s n kept = (plain M rom kept s (replicate (log_bound n) 0) n).end

module _ {S : Type 0} (M : Machine S) (rom sched : List ℕ) (s : S) (n : ℕ) where
  -- "as with all of them": the number of the full run
  abbrev pub full_number : ℕ
  full_number = number_of_end (trial_end M rom s n sched)

  -- "the smallest k such that the plain run with only the first k records stops with the same number as with all of them"
  unfoldable pub smallest : ℕ
  smallest = smallest_from (λ k. stops_with full_number (trial_end M rom s n (first_records k sched))) (record_count sched) 0

  -- what is said before any trial: "after the run's own refusals, 81 the log is shorter than that"
  unfoldable pub untried_number : List ℕ → ℕ
  untried_number log = first_of (run_number M rom sched s n ∷ unless (leb (log_bound n) (length log)) 81 ∷ [])

  -- "82 the full run finishes"
  unfoldable pub error_number : List ℕ → ℕ
  error_number log = first_of (untried_number log ∷ cond (finishes (trial_end M rom s n sched)) 82 0 ∷ [])

  -- "With any of them k is 0."
  abbrev pub on_error : ℕ → Found
  on_error zero = record { number = full_number; records = smallest }
  on_error (suc k) = record { number = suc k; records = 0 }

  -- THE ANSWER
  unfoldable pub shortest_answer : List ℕ → Found
  shortest_answer log = on_error (error_number log)

  -- What the lent log holds when the call returns: "a log of 16n bytes, whose bytes afterwards are free, also on 82"; a longer one is
  -- lent with its first 16n bytes, and those behind them stay. A refusal and 81 change nothing.
  pub record LogLeft (log after : List ℕ) : Type 0 where
    pub untried : (untried_number log ≡ 0 → ⊥) → after ≡ log
    pub long : length after ≡ length log
    pub rest : drop (log_bound n) after ≡ drop (log_bound n) log

-- the number and k of each case of what the function answers
abbrev pub found_of : Result Shortest Unfound → Found
found_of (Ok a) = record { number = stop_number a.stop; records = a.records }
found_of (Err (Refused why)) = record { number = refusal_number why; records = 0 }
found_of (Err LogShort) = record { number = 81; records = 0 }
found_of (Err Finishes) = record { number = 82; records = 0 }

-- what the function promises: its number and k, and the log as it stands when it returns
pub record Answers {S : Type 0} (M : Machine S) (rom sched : List ℕ) (s : S) (n : ℕ) (log : List ℕ) (a : Result Shortest Unfound) (after : List ℕ) : Type 0 where
  pub found : found_of a ≡ shortest_answer M rom sched s n log
  pub left : LogLeft M rom sched s n log after
