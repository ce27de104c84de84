-- What the parts of the search are given, and what the beginning comes to that trials share. Scaffolding: no claim comes to it. Assumes
-- nothing: these are definitions.
use Rattle.std.specs.Prelude.{ℕ, ◌+◌, ◌<◌, ◌≤◌, ◌≡◌, List, length}
use Rattle.runs.specs.Machine.{Machine}
use Rattle.runs.specs.TwoRunners.{log_bound, stopped, run_number}
use Rattle.upd546.specs.TheLineSchedule.{record_count, record_cycle}
use Rattle.shortest.specs.Search.{first_records, trial_end}

module _ {S : Type 0} (M : Machine S) (rom sched : List ℕ) (s : S) (n : ℕ) (log : List ℕ) where
  -- a run that isn't refused, and a log of 16n bytes for it
  pub record Ready : Type 0 where
    pub taken : run_number M rom sched s n ≡ 0
    pub room : log_bound n ≤ length log

  -- and a number of records
  pub record Tryable (k : ℕ) : Type 0 where
    pub ready : Ready
    pub some : k ≤ record_count sched

  -- and a full run that stops with this number
  pub record Stopping (number : ℕ) : Type 0 where
    pub ready : Ready
    pub full : trial_end M rom s n sched ≡ stopped number

-- So many cycles from cycle `from` on, at most `most`, are before the cycle of record k.
pub record Ahead (sched : List ℕ) (k from most d : ℕ) : Type 0 where
  pub within : d ≤ most
  pub before : (c : ℕ) → c < d → from + c < record_cycle sched k

-- From the state t with `left` cycles to go, every trial with k records or more ends as it does from s with n.
pub record KeptFrom {S : Type 0} (M : Machine S) (rom sched : List ℕ) (s : S) (n k : ℕ) (t : S) (left : ℕ) : Type 0 where
  pub taken : run_number M rom sched t left ≡ 0
  pub fewer : left ≤ n
  pub same : (j : ℕ) → k ≤ j → j ≤ record_count sched
      → trial_end M rom t left (first_records j sched) ≡ trial_end M rom s n (first_records j sched)
