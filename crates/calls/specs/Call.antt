-- Request R-3, "One call for the board", over any machine: "Our boards restore, run and save each slice, three calls where one will
-- do. Merge them into one". Assumes nothing: these are definitions.
use Rattle.std.specs.Prelude.{ℕ, zero, suc, Bool, true, false, List, ◌++◌, leb, length, drop, replicate}
use Rattle.runs.specs.declared.Version.TheVariants.{Two}
use Rattle.runs.specs.Machine.{Machine}
use Rattle.runs.specs.TwoRunners.{End, finished, stopped, refused, RunAnswer, refused_run, save_answer, current_answer}
use Rattle.runs.specs.Lists.{Kind, plain_one, skipping_one, run_answer}
use Rattle.upd546.specs.declared.Sheet.{Sheet}
use Rattle.upd546.specs.Bytes.{bytes_of}

-- "called from the board's C program with numbers and byte slices: image, ROM, schedule, log, n and a runner", and "a lent report";
-- "A small sheet, given last to each call" (R-11)
pub record BoardCall : Type 0 where
  pub image : List ℕ
  pub rom : List ℕ
  pub sched : List ℕ
  pub log : List ℕ
  pub n : ℕ
  pub runner : ℕ
  pub report : List ℕ
  pub sheet : Sheet

-- What it answers: its number, and what it writes as that stands when the call returns.
pub record BoardAnswer : Type 0 where
  pub number : ℕ
  pub image : List ℕ
  pub log : List ℕ
  pub report : List ℕ

-- "a runner (0 plain, any other timer-skipping)"
abbrev pub kind_of : ℕ → Kind
kind_of zero = plain_one
kind_of (suc k) = skipping_one

-- "the first 32 bytes of a lent report"
abbrev pub report_length : ℕ
report_length = 32

-- "cycles, instructions, log bytes and steps, 8 bytes each, big-endian"
abbrev pub count_bytes : (cycles begun written steps : ℕ) → List ℕ
count_bytes cycles begun written steps = bytes_of 8 cycles ++ bytes_of 8 begun ++ bytes_of 8 written ++ bytes_of 8 steps

-- bytes in the first 32 of the report; those behind them stay
abbrev pub reported : List ℕ → List ℕ → List ℕ
reported bytes report = bytes ++ drop report_length report

-- whether the report has them
abbrev pub long_enough : BoardCall → Bool
long_enough c = leb report_length (length c.report)

module _ {S : Type 0} (M : Machine S) where
  -- "Then image refusals come first, then the run's.": the run of what a restore answers; where that is refused, a run so refused.
  -- "R-3's call takes 82 bytes only, else 31" (R-8).
  abbrev pub on_restored : ℕ → S → Kind → (rom sched log : List ℕ) → ℕ → RunAnswer S
  on_restored zero s kind rom sched log n = run_answer M kind rom sched s log n
  on_restored (suc k) s kind rom sched log n = refused_run (suc k) s log

  unfoldable pub image_run : Kind → (image rom sched log : List ℕ) → ℕ → RunAnswer S
  image_run kind image rom sched log n = on_restored (current_answer M image).number (current_answer M image).state kind rom sched log n

  -- the call's run
  abbrev pub run_of : BoardCall → RunAnswer S
  run_of c = image_run (kind_of c.runner) c.image c.rom c.sched c.log c.n

  -- "a finish or a stop rewrites it": the image as a save of the run's state leaves it, as version 2, and the counts in the report
  abbrev pub ran_call : BoardCall → ℕ → RunAnswer S → BoardAnswer
  ran_call c k a = record {
    number = k;
    image = (save_answer M Two a.state c.image).buffer;
    log = a.log;
    report = reported (count_bytes a.cycles a.begun a.written a.steps) c.report;
  }

  -- "A refusal leaves the image", and the log; "zeros on a refusal"
  abbrev pub refused_call : BoardCall → ℕ → BoardAnswer
  refused_call c k = record { number = k; image = c.image; log = c.log; report = reported (replicate report_length 0) c.report }

  -- "It answers the run's number"; 0 stands for a finish
  abbrev pub answer_at_end : BoardCall → End → RunAnswer S → BoardAnswer
  answer_at_end c finished a = ran_call c 0 a
  answer_at_end c (stopped k) a = ran_call c k a
  answer_at_end c (refused k) a = refused_call c k

  -- "A report under 32 bytes is 1, before all else, and is not written."
  abbrev pub on_report : Bool → BoardCall → End → RunAnswer S → BoardAnswer
  on_report false c e a = record { number = 1; image = c.image; log = c.log; report = c.report }
  on_report true c e a = answer_at_end c e a

  -- THE BOARD'S CALL on the machine of its sheet
  unfoldable pub call_answer : BoardCall → BoardAnswer
  call_answer c = on_report (long_enough c) c (run_of c).end (run_of c)

-- and where the machine of each sheet is M
abbrev pub board_answer : {S : Type 0} → (Sheet → Machine S) → BoardCall → BoardAnswer
board_answer M c = call_answer (M c.sheet) c
