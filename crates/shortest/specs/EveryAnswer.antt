-- Request R-12: what is claimed of every answer, in the request's own terms. Assumes nothing: these are definitions.
use Rattle.std.specs.Prelude.{ℕ, suc, ◌<◌, ◌≤◌, ◌≡◌, List, length}
use Rattle.runs.specs.Machine.{Machine}
use Rattle.runs.specs.Laws.{Bytes}
use Rattle.runs.specs.TwoRunners.{log_bound, End, finished, stopped, refused, run_number, plain}
use Rattle.upd546.specs.declared.State.{State}
use Rattle.upd546.specs.declared.Sheet.{Sheet}
use Rattle.upd546.specs.TheLineSchedule.{record_count}
use Rattle.upd546.specs.TwoRunners.{chip}
use Rattle.laws.specs.Stops.{StopNumber}
use Rattle.shortest.specs.Search.{first_records, Found, shortest_answer}

-- "finishes or stops otherwise"
abbrev pub FinishesOrStopsOtherwise : ℕ → End → Type 0
FinishesOrStopsOtherwise number finished = Unit {0}
FinishesOrStopsOtherwise number (stopped k) = k ≡ number → ⊥
FinishesOrStopsOtherwise number (refused k) = ⊥

-- a finish, 22 or 23
abbrev pub NeverThree : End → Type 0
NeverThree finished = Unit {0}
NeverThree (stopped k) = StopNumber k
NeverThree (refused k) = ⊥

module _ {S : Type 0} (M : Machine S) (rom sched : List ℕ) (s : S) (n : ℕ) where
  -- every plain run with this schedule that is lent a log of 16n bytes ends so
  abbrev pub EveryTrial : List ℕ → (End → Type 0) → Type 0
  EveryTrial kept P = (log : List ℕ) → length log ≡ log_bound n → P (plain M rom kept s log n).end

  -- "find the smallest k such that the plain run with only the first k records stops with the same number as with all of them. Every
  -- smaller k finishes or stops otherwise"
  pub record IsShortest (number k : ℕ) : Type 0 where
    pub records : k ≤ record_count sched
    pub full : EveryTrial sched (λ e. e ≡ stopped number)
    pub itself : EveryTrial (first_records k sched) (λ e. e ≡ stopped number)
    pub smaller : (j : ℕ) → j < k → EveryTrial (first_records j sched) (FinishesOrStopsOtherwise number)

  -- what is answered in each case, the errors in their order; `lent` is any log of 16n bytes
  pub record AnswersInOrder (log : List ℕ) (a : Found) : Type 0 where
    -- "after the run's own refusals"
    pub refuses : (k : ℕ) → run_number M rom sched s n ≡ suc k → a ≡ record { number = suc k; records = 0 }
    -- "81 the log is shorter than that"
    pub short : run_number M rom sched s n ≡ 0 → length log < log_bound n → a ≡ record { number = 81; records = 0 }
    -- "82 the full run finishes"
    pub ends : run_number M rom sched s n ≡ 0 → log_bound n ≤ length log → (lent : List ℕ) → length lent ≡ log_bound n
        → (plain M rom sched s lent n).end ≡ finished → a ≡ record { number = 82; records = 0 }
    -- "and the answer is k with that number"
    pub stops : run_number M rom sched s n ≡ 0 → log_bound n ≤ length log → (lent : List ℕ) (number : ℕ) → length lent ≡ log_bound n
        → (plain M rom sched s lent n).end ≡ stopped number → (a.number ≡ number) × IsShortest number a.records

-- R-12, of the chip of every sheet
abbrev pub EveryAnswerIsShortest : Type 0
EveryAnswerIsShortest =
    (sheet : Sheet) (rom sched : List ℕ) (s : State) (n : ℕ) (log : List ℕ)
    → AnswersInOrder (chip sheet) rom sched s n log (shortest_answer (chip sheet) rom sched s n log)

-- With 16n bytes no trial stops with 3.
abbrev pub NoTrialStopsWithThree : Type 0
NoTrialStopsWithThree =
    (sheet : Sheet) (rom sched : List ℕ) (s : State) (n k : ℕ) → Bytes rom → Bytes sched → run_number (chip sheet) rom sched s n ≡ 0
    → EveryTrial (chip sheet) rom sched s n sched NeverThree × EveryTrial (chip sheet) rom sched s n (first_records k sched) NeverThree
