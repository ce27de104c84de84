-- What two slices by actual calls come to, on one log: each for every argument, and both where nothing is refused. Assumes nothing:
-- these are definitions.
use Rattle.std.specs.Prelude.{ℕ, ◌+◌, ◌*◌, ◌≤◌, ◌≡◌, ◌↔◌, List, length, take, drop, replicate}
use Rattle.std.proofs.Math.Option.{none, some}
use Rattle.runs.specs.declared.Version.TheVariants.{Two}
use Rattle.runs.specs.Reports.{clocks_per_cycle}
use Rattle.runs.specs.Numbers.{outcome_number, end_of}
use Rattle.runs.specs.TwoRunners.{RunAnswer, Ran, finished, stopped, log_bound, unbroken, save_answer, restore_answer}
use Rattle.runs.specs.Lists.{Kind, plain_one, skipping_one, refusal_of, run_answer}
use Rattle.upd546.specs.declared.State.{State}
use Rattle.upd546.specs.declared.Sheet.{Sheet}
use Rattle.upd546.specs.TwoRunners.{chip}
use Rattle.driver.specs.Lending.{brought_to, kept_before}
use Rattle.witness.specs.declared.SliceEnd.{SliceEnd}
use Rattle.witness.specs.declared.DayEnd.{DayEnd}

abbrev pub buffer : List ℕ
buffer = replicate 82 0

-- the bytes that a save to such a buffer leaves there
abbrev pub image_in : Sheet → State → List ℕ
image_in sheet s = take 82 (save_answer (chip sheet) Two s buffer).buffer

-- A slice on a log from a place on: a run that answers a, a save of its state as version 2, a restore of the bytes.
pub record SliceOf (sheet : Sheet) (a : RunAnswer State) (log : List ℕ) (at : ℕ) (r : SliceEnd) (log' : List ℕ) : Type 0 where
  pub report : brought_to r.report (record { state = a.state }) log' ≡ kept_before at log a
  pub saved : outcome_number r.saved ≡ (save_answer (chip sheet) Two a.state buffer).number
  pub restored : outcome_number r.restored ≡ (restore_answer (chip sheet) (image_in sheet a.state)).number
  pub state : r.state ≡ (restore_answer (chip sheet) (image_in sheet a.state)).state
  pub same_length : length log' ≡ length log

abbrev pub OneSlice : Sheet → Kind → (rom sched : List ℕ) → State → (log : List ℕ) (at n : ℕ) → SliceEnd → List ℕ → Type 0
OneSlice sheet kind rom sched s log at n r log' = SliceOf sheet (run_answer (chip sheet) kind rom sched s (drop at log) n) log at r log'

-- none of its calls is refused
pub record NoneRefused (r : SliceEnd) : Type 0 where
  pub run : refusal_of (end_of r.report.end) ≡ 0
  pub save : outcome_number r.saved ≡ 0
  pub restore : outcome_number r.restored ≡ 0

-- how a day ends that ends as u
pub record EndsAsRun (first second : SliceEnd) (log' : List ℕ) (u : Ran State) : Type 0 where
  pub state : second.state ≡ u.state
  pub log : take (first.report.written + second.report.written) log' ≡ u.bytes
  pub cycles : first.report.cycles.0 + second.report.cycles.0 ≡ u.cycles
  pub begun : first.report.begun + second.report.begun ≡ u.begun
  pub clocks : first.report.clocks.0 + second.report.clocks.0 ≡ clocks_per_cycle * u.cycles
  pub finish : ((end_of first.report.end ≡ finished) × (end_of second.report.end ≡ finished)) ↔ (u.number ≡ none)
  pub first_stop : (k : ℕ) → end_of first.report.end ≡ stopped k → u.number ≡ some k
  pub second_stop : (k : ℕ) → end_of second.report.end ≡ stopped k → u.number ≡ some k

pub record TwoSlices (sheet : Sheet) (rom sched : List ℕ) (s : State) (log : List ℕ) (n m : ℕ) (r : DayEnd) (log' : List ℕ) : Type 0 where
  -- the log between the two
  pub between : List ℕ
  pub first : OneSlice sheet plain_one rom sched s log 0 n r.first between
  pub second : OneSlice sheet skipping_one rom sched r.first.state between r.first.report.written m r.second log'
  -- where nothing is refused, and there are 16n bytes of log for each run
  pub one_run : NoneRefused r.first → NoneRefused r.second → log_bound n + log_bound m ≤ length log
      → EndsAsRun r.first r.second log' (unbroken (chip sheet) rom sched (n + m) s)
