-- Request R-9 on a bank of bytes, over any machine: an entry of 147 bytes for each panel, its image (82), wish, ROM length, schedule length
-- and log length (8 each), cycles, instructions, log bytes and steps (8 each) and number (1), big-endian. Assumes nothing: these are
-- definitions.
use Rattle.std.specs.Prelude.{ℕ, zero, suc, ◌+◌, ◌/◌, List, [], ◌∷◌, ◌++◌, length, take, drop, replicate}
use Rattle.runs.specs.Machine.{Machine}
use Rattle.upd546.specs.declared.Sheet.{Sheet}
use Rattle.upd546.specs.Bytes.{part, number_at}
use Rattle.panels.specs.declared.Needs.{Needs}
use Rattle.calls.specs.Call.{BoardCall, BoardAnswer, report_length, board_answer}

-- the image
abbrev pub image_bytes : ℕ
image_bytes = 82

-- wish, ROM length, schedule length and log length
abbrev pub needs_bytes : ℕ
needs_bytes = 32

-- cycles, instructions, log bytes and steps: the report of the board's call
abbrev pub report_at : ℕ
report_at = image_bytes + needs_bytes

-- the number
abbrev pub number_place : ℕ
number_place = report_at + report_length

-- an entry
abbrev pub entry_length : ℕ
entry_length = number_place + 1

-- n entries, one behind the other
abbrev pub entries_of : ℕ → List ℕ → List (List ℕ)
entries_of zero bytes = []
entries_of (suc n) bytes = take entry_length bytes ∷ entries_of n (drop entry_length bytes)

-- the whole entries of a bank
abbrev pub entries_in : List ℕ → List (List ℕ)
entries_in bank = entries_of (length bank / entry_length) bank

-- what an entry needs
unfoldable pub entry_needs : List ℕ → Needs
entry_needs entry = record {
  wish = record { 0 = number_at entry image_bytes 8 };
  rom = number_at entry (image_bytes + 8) 8;
  schedule = number_at entry (image_bytes + 16) 8;
  log = number_at entry (image_bytes + 24) 8;
}

-- of all entries, in order of the row
unfoldable pub needs_in : List (List ℕ) → List Needs
needs_in [] = []
needs_in (e ∷ es) = entry_needs e ∷ needs_in es

module _ {S : Type 0} (M : Sheet → Machine S) (sheet : Sheet) where
  -- "its own timer-skipping run for its grant": the board's call (R-3) on the entry's image and its parts of the buffers, with the
  -- timer-skipping runner and a report of 32 bytes
  abbrev pub own_call : (entry rom sched log : List ℕ) → ℕ → BoardCall
  own_call entry rom sched log grant = record {
    image = take image_bytes entry;
    rom = rom;
    sched = sched;
    log = log;
    n = grant;
    runner = 1;
    report = replicate report_length 0;
    sheet = sheet;
  }

  unfoldable pub own_answer : (entry rom sched log : List ℕ) → ℕ → BoardAnswer
  own_answer entry rom sched log grant = board_answer M (own_call entry rom sched log grant)

-- "A panel's state, .. counts and number after a round are those of its own .. run .., and its wish and lengths stay". A panel whose image is
-- refused has that number and counts 0 and keeps its image: so the board's call leaves them.
unfoldable pub entry_after : List ℕ → BoardAnswer → List ℕ
entry_after entry a = a.image ++ part entry image_bytes needs_bytes ++ a.report ++ a.number ∷ []
