-- Document 01, "The machine"; with document 02, R-5, R-8 and R-11. Assumes nothing: these are definitions.
use Rattle.std.specs.Prelude.{ℕ, zero, suc, ◌+◌, ◌-◌, ◌*◌, ◌/◌, ◌%◌, ◌^◌, cond, List, [], ◌∷◌, ◌++◌, eqb, length, get_or, set, take, drop, replicate}
use Rattle.upd546.specs.declared.Core.{Core}
use Rattle.upd546.specs.declared.State.{State}
use Rattle.upd546.specs.declared.Sheet.{Sheet}
use Rattle.upd546.specs.TheSheet.{row_exists}

-- "ROM: 2,000 bytes, 000 to 7CF." R-11 gives each chip a length of its own, and keeps this one for `trace` and R-4.
abbrev pub rom_length : ℕ
rom_length = 2000

abbrev pub byte_at : List ℕ → ℕ → ℕ
byte_at rom a = get_or rom a 0

-- "PC: 11 bits, field (top 3), page (2), address (6)."
abbrev pub addresses : ℕ
addresses = 2 ^ 11

-- the first address of the page that holds a: its field and page, and address 0
abbrev pub page_of : ℕ → ℕ
page_of a = a / 64 * 64

-- "Only the low 8 bits count up, so 0FF is followed by 000 and 1FF by 100, also inside a two-byte instruction."
unfoldable pub follows : ℕ → ℕ
follows a = a / 256 * 256 + (a % 256 + 1) % 256

-- the address n bytes on
unfoldable pub past : ℕ → ℕ → ℕ
past zero a = a
past (suc n) a = past n (follows a)

-- "Stack: three PCs." So many are stored; how many of them exist, the newest first, the sheet's levels say.
abbrev pub stack_depth : ℕ
stack_depth = 3

-- "A push shifts down and loses the oldest" of those that exist; what doesn't exist stays as it is.
abbrev pub pushed : (levels : ℕ) → ℕ → List ℕ → List ℕ
pushed levels a stack = take levels (a ∷ stack) ++ drop levels stack

-- "a pop shifts up and the lowest keeps its value (house)": the lowest that exists, with all behind it
abbrev pub popped : (levels : ℕ) → List ℕ → List ℕ
popped levels stack = drop 1 (take levels stack) ++ drop (levels - 1) stack

-- the PC that a pop gives
abbrev pub newest : List ℕ → ℕ
newest stack = get_or stack 0 0

-- "DP: DPH 3 bits, DPL 4 bits; M is the 4-bit RAM word at DP." A RAM address is a row and a column, as 79 is row 7, column 9.
abbrev pub dp_of : Core → ℕ
dp_of c = 16 * c.registers.dph + c.registers.dpl

-- "Rows 0 to 4 and 7 exist, 16 words each": these are stored; which of them exist, the sheet says (`row_exists`).
abbrev pub stored_rows : List ℕ
stored_rows = 0 ∷ 1 ∷ 2 ∷ 3 ∷ 4 ∷ 7 ∷ []

abbrev pub ram_length : ℕ
ram_length = 16 * length stored_rows

-- where a row stands in a list of rows; behind its end where it isn't there
abbrev pub index_in : List ℕ → ℕ → ℕ
index_in [] r = 0
index_in (x ∷ xs) r = cond (eqb x r) 0 (suc (index_in xs r))

-- the place of the word at a RAM address: the rows that are stored, one after the other
unfoldable pub place_of : ℕ → ℕ
place_of a = 16 * index_in stored_rows (a / 16) + a % 16

-- "rows 5 and 6 read 0 and lose writes": their places are behind the end. R-11: "absent rows behave like 5 and 6"
unfoldable pub place_in : Sheet → ℕ → ℕ
place_in sheet a = cond (row_exists sheet (a / 16)) (place_of a) (ram_length + a % 16)

abbrev pub word_at : Sheet → List ℕ → ℕ → ℕ
word_at sheet ram a = get_or ram (place_in sheet a) 0

abbrev pub with_word : Sheet → List ℕ → ℕ → ℕ → List ℕ
with_word sheet ram a v = set ram (place_in sheet a) v

-- "Word 79 is the flag word; Z, W, S, R, Y, X are 7A to 7F."
abbrev pub flag_word : ℕ
flag_word = 0x79

abbrev pub word_z : ℕ
word_z = 0x7A

abbrev pub word_w : ℕ
word_w = 0x7B

abbrev pub word_s : ℕ
word_s = 0x7C

abbrev pub word_r : ℕ
word_r = 0x7D

abbrev pub word_y : ℕ
word_y = 0x7E

abbrev pub word_x : ℕ
word_x = 0x7F

-- "Ports C to I: output latches"
abbrev pub latches : ℕ
latches = 7

-- "Mark: other, LDI, EI or STM, the kind of the last instruction begun."
abbrev pub mark_other : ℕ
mark_other = 0

abbrev pub mark_ldi : ℕ
mark_ldi = 1

abbrev pub mark_ei : ℕ
mark_ei = 2

abbrev pub mark_stm : ℕ
mark_stm = 3

-- Document 02, R-5: "The mark gains the value 4 for LI in image byte 16, so 34 starts at 5 there."
abbrev pub mark_li : ℕ
mark_li = 4

abbrev pub last_mark : ℕ
last_mark = mark_li

-- Document 02, R-8: "The state gains a count of consecutive cycles with RES high, at most 4."
abbrev pub reset_count : ℕ
reset_count = 4

-- "Fresh state: all zero, level high, mark other, timer stopped"
abbrev pub fresh : State
fresh = record {
  core = record {
    registers = record { acc = 0; carry = 0; saved = 0; dph = 0; dpl = 0 };
    flow = record { pc = 0; stack = replicate stack_depth 0 };
    interrupt = record { int = 0; inte = 0; level = 1 };
    timer = record { tm = 0; register = 0; counter = 0 };
    mark = mark_other;
    owed = 0;
  };
  ports = replicate latches 0;
  ram = replicate ram_length 0;
  count = 0;
  cycle = record { 0 = 0 };
}
