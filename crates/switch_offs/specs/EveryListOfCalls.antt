-- No switch-off and no reset loses or invents a wait: the report over lists of the board's call, for any machine. Assumes nothing:
-- these are definitions.
use Rattle.std.specs.Prelude.{ℕ, ◌+◌, ◌≤◌, ◌≡◌, List}
use Rattle.runs.specs.declared.Version.TheVariants.{Two}
use Rattle.runs.specs.Machine.{Machine}
use Rattle.runs.specs.Refusals.{cycle_limit}
use Rattle.runs.specs.TwoRunners.{unbroken}
use Rattle.runs.specs.Laws.{Panel}
use Rattle.upd546.specs.declared.Sheet.{Sheet}
use Rattle.calls.specs.Call.{BoardCall}
use Rattle.calls.specs.Lists.{calls_not_refused, OnOneImage, call_logs, calls_ask}
use Rattle.waiting.specs.WaitingTimes.{start_of_day, waiting_times}
use Rattle.waiting.specs.EveryList.{AllAccepted, carried_on}

module _ {S : Type 0} (M : Sheet → Machine S) where
  -- of calls that aren't refused: from the start of a day the log bytes that each wrote are accepted, as the board gets them, and the
  -- report that is carried on is the report of the unbroken run's log, which is accepted too
  pub record CallsReportAsOneRun (sheet : Sheet) (rom sched : List ℕ) (s : S) (cs : List BoardCall) : Type 0 where
    pub accepted : AllAccepted start_of_day (call_logs M cs)
    pub report : record { number = 0; carried = carried_on start_of_day (call_logs M cs) }
        ≡ waiting_times (unbroken (M sheet) rom sched (calls_ask cs) s).bytes start_of_day

  -- of every list of R-3, with its premises; "N keeps within the cycle limit"
  abbrev pub EveryListOfCallsReportsAsOneRun : Type 0
  EveryListOfCallsReportsAsOneRun =
      (sheet : Sheet) (rom sched : List ℕ) (s : S) (calls : List BoardCall) → Panel (M sheet) rom sched → (M sheet).state_number s ≡ 0
      → OnOneImage M sheet rom sched ((M sheet).image Two s) (calls_not_refused M calls)
      → (M sheet).at s + calls_ask (calls_not_refused M calls) ≤ cycle_limit
      → CallsReportAsOneRun sheet rom sched s (calls_not_refused M calls)
