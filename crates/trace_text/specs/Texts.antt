-- The text of a call and of an input, in a buffer. Assumes nothing: these are definitions.
use Rattle.std.specs.Prelude.{◌≡◌, cond, List, ◌++◌, ℕ, ◌/◌, length, drop}
use Rattle.runs.specs.TwoRunners.{RunAnswer}
use Rattle.upd546.specs.declared.State.{State}
use Rattle.upd546.specs.Bytes.{number_at}
use Rattle.upd546.specs.Ports.{log_record_length}
use Rattle.upd546.specs.Reports.{heading, newline, records_text, refused_text, trace_log, trace_text}
use Rattle.calls.specs.EveryCall.{end_by, ran_by}
use Rattle.io.specs.Counts.{IsPrefixLen}
use Rattle.text.specs.declared.Text.{Text}
use Rattle.text.specs.Writing.{HasRoom}
use Rattle.trace_text.specs.declared.Ended.{Ended}
use Rattle.trace_text.specs.Writing.{text_length, end_line}
use Rattle.trace_text.specs.Records.{Recorded}

-- the number of a call, and the counts that stand in its report
abbrev pub ended_by : ℕ → List ℕ → Ended
ended_by k report = record { number = k; cycles = record { 0 = number_at report 0 8 }; begun = number_at report 8 8; written = number_at report 16 8 }

-- they are those of a run, and the log is the run's
pub record TellsRun (a : RunAnswer State) (ended : Ended) (log : List ℕ) : Type 0 where
  pub end : end_by ended.number ≡ a.end
  pub cycles : ended.cycles.0 ≡ a.cycles
  pub begun : ended.begun ≡ a.begun
  pub written : ended.written ≡ a.written
  pub same_log : log ≡ a.log

-- the text of a call that finished or stopped
abbrev pub ended_text : Ended → List ℕ → List ℕ
ended_text ended log = heading ++ newline ++ records_text log (ended.written / log_record_length) ++ end_line ended.cycles.0 ended.begun ended.number

-- the text of a call
abbrev pub answer_text : Ended → List ℕ → List ℕ
answer_text ended log = cond (ran_by ended.number) (ended_text ended log) (refused_text ended.number)

-- a call and a log whose text fits the buffer
pub record Reportable (ended : Ended) (log : List ℕ) (text : Text) : Type 0 where
  pub recorded : Recorded ended.written log
  pub room : length log ≡ trace_log
  pub fits : HasRoom text_length text

-- what `trace` leaves in its buffer: the text at the front, r bytes, and behind it what was there
pub record Traced (input before after : List ℕ) (r : ℕ) : Type 0 where
  pub counts : IsPrefixLen r after
  pub size : r ≡ length (trace_text input)
  pub text : after ≡ trace_text input ++ drop r before
