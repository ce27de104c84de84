-- What calls one after the other leave, and a text at the front of a buffer. Assumes nothing: these are definitions.
use Rattle.std.specs.Prelude.{◌≡◌, List, ℕ, length, take, drop}
use Rattle.runs.specs.declared.Version.TheVariants.{Two}
use Rattle.runs.specs.TwoRunners.{save_answer}
use Rattle.upd546.specs.TheMachine.{fresh}
use Rattle.upd546.specs.TwoRunners.{upd546, chip}
use Rattle.calls.specs.Call.{BoardCall, BoardAnswer, board_answer}

-- a call on this image, log and report, and else as before
abbrev pub lending : (image log report : List ℕ) → BoardCall → BoardCall
lending image log report c = record {
  image = image;
  rom = c.rom;
  sched = c.sched;
  log = log;
  n = c.n;
  runner = c.runner;
  report = report;
  sheet = c.sheet;
}

-- the fresh image is saved over the call's, as version 2, with number k; then the call answers a
abbrev pub FirstCall : BoardCall → (k : ℕ) → (a : BoardAnswer) → Type 0
FirstCall c k a =
    let saved = save_answer upd546 Two fresh c.image in
    (k ≡ saved.number) × (a ≡ board_answer chip (lending saved.buffer c.log c.report c))

-- the call's number is k; then it is made again on what it has written, and answers a
abbrev pub TwoCalls : BoardCall → (k : ℕ) → (a : BoardAnswer) → Type 0
TwoCalls c k a =
    let one = board_answer chip c in
    (k ≡ one.number) × (a ≡ board_answer chip (lending one.image one.log one.report c))

-- r bytes of text stand at the front of a buffer, and behind them what was there
pub record Fronts (text before after : List ℕ) (r : ℕ) : Type 0 where
  pub size : r ≡ length text
  pub front : take r after ≡ text
  pub behind : drop r after ≡ drop r before
