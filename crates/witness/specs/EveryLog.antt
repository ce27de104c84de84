-- The theorems about logs and loads a second time, for every argument, with the documents' figures in place of names: one that holds
-- of fewer arguments, or assumes more, doesn't give its line. Assumes nothing: these are definitions.
use Rattle.std.specs.Prelude.{ℕ, suc, ◌+◌, ◌*◌, ◌^◌, ◌<◌, ◌≤◌, ◌≡◌, true, List, [], ◌∷◌, ◌++◌, length, take}
use Rattle.runs.specs.declared.Version.TheVariants.{Two}
use Rattle.runs.specs.Machine.{Machine}
use Rattle.runs.specs.TwoRunners.{unbroken, run_number}
use Rattle.runs.specs.Laws.{Bytes, Panel, JumpLaws, NumberLaws, Laws}
use Rattle.runs.specs.EveryRun.{EveryRunCountsWithin}
use Rattle.runs.specs.Lists.{Kind, Call, run, refusal, not_refused, Meant, asked, EveryListEndsAsOneRun}
use Rattle.upd546.specs.declared.State.{State}
use Rattle.upd546.specs.declared.Sheet.{Sheet}
use Rattle.upd546.specs.Bytes.{bytes_of}
use Rattle.upd546.specs.TheSheet.{upd546_sheet}
use Rattle.upd546.specs.StateImage.{image_of, state_number}
use Rattle.upd546.specs.TheLineSchedule.{schedule_number}
use Rattle.upd546.specs.TwoRunners.{chip, upd546}
use Rattle.laws.specs.Records.{EveryRunWritesRecords}
use Rattle.calls.specs.Call.{BoardCall}
use Rattle.calls.specs.Lists.{calls_not_refused, OnOneImage, call_logs, calls_ask}
use Rattle.waiting.specs.declared.Carried.{Carried}
use Rattle.waiting.specs.declared.LogRecord.{LogRecord}
use Rattle.waiting.specs.WaitingTimes.{carried_after, record_here, record_sound, log_record_number, carried_number, start_of_day, refused_with, answered_with, waiting_times}
use Rattle.waiting.specs.Growth.{CarriedGrown}
use Rattle.waiting.specs.EveryLog.{lamps_lit, landing_of, waits_of, FiguresWithin, Darkened}
use Rattle.waiting.specs.EveryList.{AllAccepted, carried_on, list_logs, ReportsAsOneRun, EveryListReportsAsOneRun}
use Rattle.switch_offs.specs.EveryListOfCalls.{CallsReportAsOneRun}
use Rattle.waits_text.specs.Parts.{no_parts, part_read, parts_read, joined_parts, WholeParts}
use Rattle.generator.specs.Loads.{rom_of, schedule_of}

-- R-1, of every log and all that may be carried
pub record OfEveryLog (c : Carried) (log : List ℕ) : Type 0 where
  -- `EveryRiseIsAWait`, on each of the four landings
  pub rise : (i : ℕ) → i < 4 → (waiting_times log c).number ≡ 0 → waits_of (waiting_times log c).carried i ≡ waits_of c i + lamps_lit c.lamps i log
  -- `ReadOnAsJoined`
  pub read_on : (more : List ℕ) → (waiting_times log c).number ≡ 0 → carried_number [] (waiting_times log c).carried ≡ 0
      → waiting_times more (waiting_times log c).carried ≡ waiting_times (log ++ more) c
  -- `OnlyFiguresDraw41`
  pub draws_41 : (waiting_times log c).number ≡ 0 → FiguresWithin (waiting_times log c).carried → carried_number [] (waiting_times log c).carried ≡ 0
  -- `LastRecordCounts`
  pub last : (r : List ℕ) → length r ≡ 8 → (waiting_times log c).number ≡ 0
      → waiting_times (log ++ r) c
      ≡ answered_with (log_record_number (waiting_times log c).carried.last.0 (record_here r)) (carried_after (waiting_times log c).carried (record_here r))
  -- R-8, `ResetClosesAllWaits`, `ResetHasValueZero`: a record of port 0
  pub reset : (n : ℕ) → (waiting_times log c).number ≡ 0 → (waiting_times log c).carried.last.0 ≤ n → n < 281474976710656
      → Darkened n (waiting_times log c).carried (waiting_times (log ++ (bytes_of 6 n ++ (0 ∷ 0 ∷ []))) c)
  pub reset_value : (n v : ℕ) → (waiting_times log c).number ≡ 0 → 0 < v
      → waiting_times (log ++ (bytes_of 6 n ++ (0 ∷ v ∷ []))) c ≡ refused_with 42

-- why no figure overflows: `carried_grown`, `can_read`
pub record OfEveryRecord (c : Carried) : Type 0 where
  pub grows : (base k : ℕ) (r : LogRecord) → record_sound c.last.0 r ≡ true → CarriedGrown base k c → CarriedGrown base (suc k) (carried_after c r)
  pub four : (k n : ℕ) → CarriedGrown (2 ^ 60) k c → c.last.0 ≤ n → n < 256 ^ 6 → k < 2 ^ 61 → length c.landings ≡ 4
  pub closes : (k n : ℕ) → CarriedGrown (2 ^ 60) k c → c.last.0 ≤ n → n < 256 ^ 6 → k < 2 ^ 61 → (i : ℕ) → i < 4
      → ((landing_of c i).start.0 ≤ n) × ((landing_of c i).closed < 2 ^ 63) × ((landing_of c i).cycles.0 < 2 ^ 63) × (n < 2 ^ 63)

-- `PartsReadAsOne`: of parts of any length, as many as there are
abbrev pub EveryParts : Type 0
EveryParts =
    (ps : List (List ℕ)) (end : List ℕ) → WholeParts ps → Bytes (joined_parts ps end) → length (joined_parts ps end) < 2 ^ 63
    → part_read (parts_read no_parts ps) end ≡ waiting_times (joined_parts ps end) start_of_day

-- `EveryListReportsAsOneRun`, for all cycles up to the limit. On each landing the waits of the day are then the lamps lit in the
-- unbroken run's log.
pub record OfEveryDay (sheet : Sheet) (rom sched : List ℕ) (s : State) (calls : List (Call Sheet State)) : Type 0 where
  pub accepted : AllAccepted start_of_day (list_logs chip calls)
  pub waits : (i : ℕ) → i < 4
      → waits_of (carried_on start_of_day (list_logs chip calls)) i
      ≡ lamps_lit 0 i (unbroken (chip sheet) rom sched (asked chip (not_refused chip calls)) s).bytes

abbrev pub EveryDay : Type 0
EveryDay =
    (sheet : Sheet) (rom sched : List ℕ) (s : State) (calls : List (Call Sheet State)) → Panel (chip sheet) rom sched
    → state_number sheet s ≡ 0 → Meant chip sheet rom sched s calls
    → s.cycle.0 + asked chip (not_refused chip calls) ≤ 281474976710655 → OfEveryDay sheet rom sched s calls

-- the same of any machines, one for each sheet, by what is promised of their lists, of the counts of their runs and of their log records
abbrev pub AnyDay : {A S : Type 0} → (A → Machine S) → Type 0
AnyDay {A} {S} M =
    EveryListEndsAsOneRun M → ((sheet : A) → EveryRunCountsWithin (M sheet)) → ((sheet : A) → EveryRunWritesRecords (M sheet))
    → (sheet : A) (rom sched : List ℕ) (s : S) (calls : List (Call A S)) → Panel (M sheet) rom sched → (M sheet).state_number s ≡ 0
    → Meant M sheet rom sched s calls → (M sheet).at s + asked M (not_refused M calls) ≤ 281474976710655
    → ReportsAsOneRun M sheet rom sched s calls

-- `EveryListOfCallsReportsAsOneRun`: the same of the log bytes that the board gets
pub record OfEveryCallDay (sheet : Sheet) (rom sched : List ℕ) (s : State) (cs : List BoardCall) : Type 0 where
  pub accepted : AllAccepted start_of_day (call_logs chip cs)
  pub waits : (i : ℕ) → i < 4
      → waits_of (carried_on start_of_day (call_logs chip cs)) i ≡ lamps_lit 0 i (unbroken (chip sheet) rom sched (calls_ask cs) s).bytes

abbrev pub EveryCallDay : Type 0
EveryCallDay =
    (sheet : Sheet) (rom sched : List ℕ) (s : State) (calls : List BoardCall) → Panel (chip sheet) rom sched → state_number sheet s ≡ 0
    → OnOneImage chip sheet rom sched (image_of Two s) (calls_not_refused chip calls)
    → s.cycle.0 + calls_ask (calls_not_refused chip calls) ≤ 281474976710655 → OfEveryCallDay sheet rom sched s (calls_not_refused chip calls)

-- of any machines, by their laws and what is promised of their lists
abbrev pub AnyCallDay : {S : Type 0} → (Sheet → Machine S) → Type 0
AnyCallDay {S} M =
    ((sheet : Sheet) → (M sheet).own_number ≡ 0 → Laws (M sheet)) → ((sheet : Sheet) → JumpLaws (M sheet))
    → ((sheet : Sheet) → NumberLaws (M sheet)) → EveryListReportsAsOneRun M → (sheet : Sheet) (rom sched : List ℕ) (s : S)
    (calls : List BoardCall) → Panel (M sheet) rom sched → (M sheet).state_number s ≡ 0
    → OnOneImage M sheet rom sched ((M sheet).image Two s) (calls_not_refused M calls)
    → (M sheet).at s + calls_ask (calls_not_refused M calls) ≤ 281474976710655
    → CallsReportAsOneRun M sheet rom sched s (calls_not_refused M calls)

-- R-4, of every seed; a ROM and a schedule may be of two
pub record OfEverySeed (seed seed' : ℕ) : Type 0 where
  -- `EverySchedule`, up to 4,096 records
  pub accepted : (m : ℕ) → m ≤ 4096 → schedule_number (schedule_of seed m) ≡ 0
  pub never : (m : ℕ) → m ≤ 4096 → (rom : List ℕ) (s : State) (n : ℕ)
      → (run_number upd546 rom (schedule_of seed m) s n ≡ 12 → ⊥)
      × (run_number upd546 rom (schedule_of seed m) s n ≡ 11 → ⊥)
      × (run_number upd546 rom (schedule_of seed m) s n ≡ 13 → ⊥)
      × (run_number upd546 rom (schedule_of seed m) s n ≡ 14 → ⊥)
  pub taken : (m : ℕ) → m ≤ 4096 → (kind : Kind) (rom : List ℕ) (s : State) (log : List ℕ) (n : ℕ) → length rom ≡ 2000
      → state_number upd546_sheet s ≡ 0
      → s.cycle.0 + n ≤ 281474976710655 → refusal chip (run kind rom (schedule_of seed m) s log n upd546_sheet) ≡ 0
  -- `EveryRom`
  pub rom : (sched : List ℕ) (s : State) (n : ℕ) → run_number upd546 (rom_of seed) sched s n ≡ 21 → ⊥
  -- `EveryLoad`
  pub panel : (m : ℕ) → m ≤ 4096 → Panel upd546 (rom_of seed) (schedule_of seed' m)
  -- `EveryBeginning`
  pub begins : (m : ℕ) → take (10 * m) (schedule_of seed (suc m)) ≡ schedule_of seed m

pub record LogFacts : Type 1 where
  pub logs : (c : Carried) (log : List ℕ) → OfEveryLog c log
  pub records : (c : Carried) → OfEveryRecord c
  pub parts : EveryParts
  pub days : EveryDay
  pub any_days : {A S : Type 0} (M : A → Machine S) → AnyDay M
  pub call_days : EveryCallDay
  pub any_call_days : {S : Type 0} (M : Sheet → Machine S) → AnyCallDay M
  pub seeds : (seed seed' : ℕ) → OfEverySeed seed seed'
