-- Document 01: "One 256-entry table of bytes and base cycles serves decoding and skipping", which R-6 packs: "Keep bytes and base
-- cycles of two codes in one byte, 128 in all"; "A 63-entry table of register positions gives r"; and the inverse of that one. R-11:
-- the rows of a sheet.
-- Assumes nothing: these are definitions.
use Rattle.std.specs.Prelude.{ℕ, suc, ◌+◌, ◌*◌, ◌/◌, ◌%◌, ◌≡◌, cond, List, ltb, get_or}
use Rattle.upd546.specs.declared.Sheet.{Sheet}
use Rattle.upd546.specs.TheMachine.{place_in}
use Rattle.upd546.specs.Sequences.{entries}
use Rattle.upd546.specs.Instructions.{instruction}
use Rattle.upd546.specs.Timer.{period, position_of, register_after}
use Rattle.tables.specs.declared.Size.{Size}

-- bytes and base cycles of a code, by the instruction list
unfoldable pub size_of : ℕ → Size
size_of code = record { bytes = (instruction code).bytes; cycles = (instruction code).cycles }

-- how half a byte packs them
abbrev pub half_of : ℕ → ℕ
half_of code = 4 * (size_of code).bytes + (size_of code).cycles

-- the two codes of an entry stand 128 apart: code i has the low half, code i + 128 the high half
abbrev pub entry_of : ℕ → ℕ
entry_of i = half_of i + 16 * half_of (i + 128)

unfoldable pub instruction_table : List ℕ
instruction_table = entries 128 entry_of

-- the half of its entry that a code has
unfoldable pub half_for : ℕ → ℕ → ℕ
half_for code entry = cond (ltb code 128) (entry % 16) (entry / 16)

-- bytes and base cycles of a code, read from its entry in a packed table
abbrev pub size_in : List ℕ → ℕ → Size
size_in table code =
    let half = half_for code (get_or table (code % 128) 0) in
    record { bytes = half / 4; cycles = half % 4 }

-- the registers 1 to 63, each at the place of its number less 1
unfoldable pub position_table : List ℕ
position_table = entries period (λ i. position_of (suc i))

-- the registers by position, the register 1 having position 0
unfoldable pub register_table : List ℕ
register_table = entries period register_after

-- where the words of each row begin; behind the end of the RAM where the sheet doesn't have the row
unfoldable pub row_table : Sheet → List ℕ
row_table sheet = entries 8 (λ r. place_in sheet (16 * r))

-- a table is that of some sheet
pub record Rows (rows : List ℕ) : Type 0 where
  pub sheet : Sheet
  pub is : rows ≡ row_table sheet
