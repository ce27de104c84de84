-- What the code's answers stand for. Assumes nothing: these are definitions.
use Rattle.std.specs.Prelude.{◌≡◌, false, List, [], ◌∷◌, ◌++◌, ℕ, Result, Ok, Err, MatchResult, length, take, drop}
use Rattle.upd546.specs.TheMachine.{rom_length}
use Rattle.assembly.specs.Grammar.{Line, lines_of, parsed_all}
use Rattle.assembly.specs.Assembling.{Action, Coded, State, Step, Assembled, no_mistake, start, filled, assembled_from, done_by}
use Rattle.assembly.specs.Places.{mistake_number}
use Rattle.assembly.specs.declared.Mistake.{Mistake}
use Rattle.assembler.specs.declared.Place.{Place}
use Rattle.assembler.specs.declared.Bytes.{Bytes}
use Rattle.assembler.specs.declared.Bytes.TheVariants.{One, Two}
use Rattle.assembler.specs.declared.Fault.{Fault}

-- the lines of a text in capital letters
abbrev pub lines_found : List ℕ → List Line
lines_found text = parsed_all (lines_of text)

-- the number of an answer's mistake, where there is one
abbrev pub mistake_of : {T : Type 0} → Result T Mistake → ℕ
mistake_of (Ok t) = no_mistake
mistake_of (Err m) = mistake_number m

abbrev pub bytes_of : Bytes → List ℕ
bytes_of (One first) = first ∷ []
bytes_of (Two first second) = first ∷ second ∷ []

-- a statement's bytes, or its mistake
abbrev pub CodedIs : Result Bytes Mistake → Coded → Type 0
CodedIs r d = MatchResult r (λ b. (no_mistake ≡ d.mistake) × (bytes_of b ≡ d.bytes)) (λ m. mistake_number m ≡ d.mistake)

abbrev pub state_of : Place → List ℕ → State
state_of p cells = record { at = p.at; size = p.size; begun = p.begun; cells = cells }

-- a step's mistake, and what it leaves where there is none
abbrev pub StepIs : Result Place Mistake → List ℕ → Step → Type 0
StepIs r cells d = MatchResult r (λ p. (no_mistake ≡ d.mistake) × (state_of p cells ≡ d.state)) (λ m. mistake_number m ≡ d.mistake)

-- a statement that gives no byte, whatever the lines and the ROM
abbrev pub Sets : Action → List ℕ → Place → Result Place Mistake → Type 0
Sets a operand p r = (lines : List Line) (cells : List ℕ) → StepIs r cells (done_by a lines operand (state_of p cells))

-- what is answered for cells, as the lines leave them
abbrev pub told : Result ℕ Fault → List ℕ → Assembled
told (Ok size) after = record { mistake = no_mistake; line = 0; bytes = take size (filled after) }
told (Err f) after = record { mistake = mistake_number f.mistake; line = f.line; bytes = [] }

-- the answer for a text in capital letters, over cells
abbrev pub Taken : List ℕ → List ℕ → Result ℕ Fault → List ℕ → Type 0
Taken text cells r after =
    told r after
    ≡ assembled_from (lines_found text) 1 (record { at = 0; size = rom_length; begun = false; cells = cells }) (lines_found text)

-- the definition's answer for lines
abbrev pub assembled_lines : List Line → Assembled
assembled_lines lines = assembled_from lines 1 start lines

-- the mistake's number, its line, and how many bytes there are
abbrev pub mistake_in : Result ℕ Fault → ℕ
mistake_in (Ok size) = no_mistake
mistake_in (Err f) = mistake_number f.mistake

abbrev pub line_in : Result ℕ Fault → ℕ
line_in (Ok size) = 0
line_in (Err f) = f.line

abbrev pub size_in : Result ℕ Fault → ℕ
size_in (Ok size) = size
size_in (Err f) = 0

-- WHAT THE ASSEMBLER PROMISES: the mistake and its line, or how many bytes; the bytes at the front of the ROM, and behind them what was
-- there. Where there is a mistake there are no bytes, so nothing is written.
pub record Assembles (a : Assembled) (before : List ℕ) (r : Result ℕ Fault) (after : List ℕ) : Type 0 where
  pub mistake : mistake_in r ≡ a.mistake
  pub line : line_in r ≡ a.line
  pub size : size_in r ≡ length a.bytes
  pub rom : after ≡ a.bytes ++ drop (length a.bytes) before
  pub long : length after ≡ length before
