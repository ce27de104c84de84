-- The bars of a day's picture: one for each wait that a record closes, and one for each that is open at the end. A bar is told from what
-- the report carries before and after the record, and from nothing else. Assumes nothing: these are definitions.
use Rattle.std.specs.Prelude.{ℕ, ◌+◌, ◌-◌, ◌<◌, ◌^◌, max, ◌≡◌, cond, List, [], ◌∷◌, ◌++◌, Option, None, Some, eqb, leb, length}
use Rattle.runs.specs.Laws.{Bytes}
use Rattle.log_form.specs.Form.{log_record_length}
use Rattle.waiting.specs.declared.Landing.{Landing}
use Rattle.waiting.specs.declared.Reading.{Reading}
use Rattle.waiting.specs.WaitingTimes.{start_of_day, waiting_times}
use Rattle.waiting.specs.EveryLog.{landing_of}
use Rattle.waits_text.specs.Parts.{no_parts, part_read, parts_read, joined_parts}
use Rattle.bars.specs.declared.Bar.{Bar}

-- A BAR

-- what a record closes on a landing, whose figures were the first before it and are the second: where the wait began, and how long it was
unfoldable pub closed_bar : (was is : Landing) → List Bar
closed_bar was is =
    cond (leb is.closed was.closed) [] (record { start = was.start; length = record { 0 = is.cycles.0 - was.cycles.0 } } ∷ [])

-- the wait that is open at the end of a log, whose last cycle is given
unfoldable pub open_bar : ℕ → Landing → List Bar
open_bar last l = cond (eqb l.mark 0) [] (record { start = l.start; length = record { 0 = last - l.start.0 } } ∷ [])

-- a function's answer as bars
abbrev pub bars_of : Option Bar → List Bar
bars_of None = []
bars_of (Some b) = b ∷ []

-- THE BARS OF A LOG, which is read record by record: on landing i

abbrev pub drawn : ℕ → Reading → List (List ℕ) → List Bar
drawn i before [] = []
drawn i before (p ∷ ps) = closed_bar (landing_of before.carried i) (landing_of (part_read before p).carried i) ++ drawn i (part_read before p) ps

-- of a bar for each wait, how many cycles together, and the longest
abbrev pub together : List Bar → ℕ
together [] = 0
together (b ∷ bs) = b.length.0 + together bs

abbrev pub longest : List Bar → ℕ
longest [] = 0
longest (b ∷ bs) = max b.length.0 (longest bs)

-- THE BARS ARE THE WAITS OF THE REPORT

-- each part is one record
abbrev pub OneRecordEach : List (List ℕ) → Type 0
OneRecordEach [] = Unit {0}
OneRecordEach (p ∷ ps) = (length p ≡ log_record_length) × OneRecordEach ps

-- on a landing: bars of closed waits, and what the report tells
pub record BarsAre (bars : List Bar) (last : ℕ) (l : Landing) : Type 0 where
  pub closed : length bars ≡ l.closed
  pub waits : length (bars ++ open_bar last l) ≡ l.closed + l.mark
  pub cycles : together bars ≡ l.cycles.0
  pub longest : longest bars ≡ l.longest.0

-- an accepted log, read record by record, with an end that is shorter than a record: on each landing the bars are as many as its closed
-- waits, with the open one as its waits; their lengths together are the report's cycles, and the longest is the report's
abbrev pub BarsAreTheWaits : Type 0
BarsAreTheWaits =
    (ps : List (List ℕ)) (end : List ℕ) (i : ℕ)
    → OneRecordEach ps → length end < log_record_length → Bytes (joined_parts ps end) → length (joined_parts ps end) < 2 ^ 63
    → (waiting_times (joined_parts ps end) start_of_day).number ≡ 0
    → BarsAre (drawn i no_parts ps) (waiting_times (joined_parts ps end) start_of_day).carried.last.0 (landing_of (waiting_times (joined_parts ps end) start_of_day).carried i)

-- a log that is cut in two between records has the bars of the whole: those up to the cut, and those read on
abbrev pub CutInTwo : Type 0
CutInTwo =
    (i : ℕ) (before : Reading) (ps qs : List (List ℕ)) → drawn i before (ps ++ qs) ≡ drawn i before ps ++ drawn i (parts_read before ps) qs
