-- Document 02, R-11: the sheet, which says how much of the machine a chip of the family has. Assumes nothing: these are definitions.
use Rattle.std.specs.Prelude.{ℕ, Bool, cond, List, [], ◌∷◌, eqb, leb, ltb}
use Rattle.runs.specs.Refusals.{unless}
use Rattle.upd546.specs.declared.Sheet.{Sheet}
use Rattle.upd546.specs.Bytes.{bit_at}
use Rattle.upd546.specs.Sequences.{all_of}

-- "three numbers: ROM bytes (1 to 2,000), which of RAM rows 0 to 4 exist (bit i for row i, at most 31 ..), and stack levels (1 to 3)"
unfoldable pub legal : Sheet → Bool
legal sheet =
    all_of (leb 1 sheet.rom ∷ leb sheet.rom 2000 ∷ leb sheet.rows 31 ∷ leb 1 sheet.levels ∷ leb sheet.levels 3 ∷ [])

-- "71, before all else but R-3's report under 32 bytes, a sheet outside these limits"
unfoldable pub sheet_number : Sheet → ℕ
sheet_number sheet = unless (legal sheet) 71

-- "the old figures are one sheet": document 01's 2,000 bytes, rows 0 to 4, three levels
abbrev pub upd546_sheet : Sheet
upd546_sheet = record { rom = 2000; rows = 31; levels = 3 }

-- "7CF and 2,000 read as the sheet's last address and length": there is a byte at the address
abbrev pub in_rom : Sheet → ℕ → Bool
in_rom sheet a = ltb a sheet.rom

-- "(bit i for row i ..; row 7 always, 5 and 6 never)"
unfoldable pub row_exists : Sheet → ℕ → Bool
row_exists sheet r = cond (ltb r 5) (eqb (bit_at sheet.rows r) 1) (eqb r 7)
