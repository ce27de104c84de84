-- A line of text as program `load` takes it: `rom SEED` or `schedule SEED M`, the numbers decimal. Assumes nothing: these are definitions.
use Rattle.std.specs.Prelude.{ℕ, suc, ◌+◌, ◌*◌, ◌%◌, ◌^◌, Bool, true, false, cond, ◌&&◌, ◌||◌, List, [], ◌∷◌, Option, Some, None, eqb, leb, ltb, length, get_or, drop}
use Rattle.upd546.specs.Bytes.{number_of, number_at}
use Rattle.upd546.specs.Sequences.{all_of}
use Rattle.load_line.specs.declared.Command.{Command}
use Rattle.load_line.specs.declared.Command.TheVariants.{Rom, Schedule}
use Rattle.load_line.specs.declared.Numeral.{Numeral}

-- A text is the list of its ASCII codes.

abbrev pub space_code : ℕ
space_code = 32

abbrev pub line_end : ℕ
line_end = 10

-- NUMBERS

-- "decimal": the codes 48 to 57, whose low halves are the digits 0 to 9
unfoldable pub is_digit : ℕ → Bool
is_digit b = leb 48 b && leb b 57

-- so many digits are read of a number; what they are fits 64 bits
abbrev pub most_digits : ℕ
most_digits = 18

-- a digit that is read, behind so many others
unfoldable pub is_read : (digits b : ℕ) → Bool
is_read digits b = is_digit b && ltb digits most_digits

-- the number at the front of a text, behind digits that are n
unfoldable pub numeral_from : (n digits : ℕ) → List ℕ → Numeral
numeral_from n digits [] = record { value = n; digits = digits }
numeral_from n digits (b ∷ bs) =
    elim (is_read digits b) [ true ↦ numeral_from (10 * n + b % 16) (suc digits) bs | false ↦ record { value = n; digits = digits } ]

-- the number at a place of a line; no digits where there is none
abbrev pub numeral_at : List ℕ → ℕ → Numeral
numeral_at line at = numeral_from 0 0 (drop at line)

-- "a 32-bit s"
abbrev pub seed_limit : ℕ
seed_limit = 2 ^ 32

-- WORDS

-- a line begins with a word and a space: the word is told by the number that its letters are, big-endian
unfoldable pub begins_with : List ℕ → (word letters : ℕ) → Bool
begins_with line word letters =
    all_of (ltb letters (length line) ∷ eqb (number_at line 0 letters) word ∷ eqb (get_or line letters 0) space_code ∷ [])

-- `rom`
abbrev pub rom_word : ℕ
rom_word = number_of (114 ∷ 111 ∷ 109 ∷ [])

-- `schedule`
abbrev pub schedule_word : ℕ
schedule_word = number_of (115 ∷ 99 ∷ 104 ∷ 101 ∷ 100 ∷ 117 ∷ 108 ∷ 101 ∷ [])

-- the line ends at a place; one line end may stand there
unfoldable pub ends_at : List ℕ → ℕ → Bool
ends_at line at = leb (length line) at || (eqb (at + 1) (length line) && eqb (get_or line at 0) line_end)

-- COMMANDS

-- a number of 32 bits is there
abbrev pub is_seed : Numeral → Bool
is_seed n = ltb 0 n.digits && ltb n.value seed_limit

-- behind `rom `, with the number that stands there
abbrev pub rom_by : List ℕ → (seed : Numeral) → Option Command
rom_by line seed = cond (is_seed seed && ends_at line (4 + seed.digits)) (Some (Rom seed.value)) None

unfoldable pub rom_asked : List ℕ → Option Command
rom_asked line = rom_by line (numeral_at line 4)

-- behind `schedule `, with the number that stands there, and the one behind a byte more
abbrev pub schedule_by : List ℕ → (seed m : Numeral) → Option Command
schedule_by line seed m =
    let at = 9 + seed.digits in
    cond
    (is_seed seed && (eqb (get_or line at 0) space_code && (ltb 0 m.digits && ends_at line (at + 1 + m.digits))))
    (Some (Schedule seed.value m.value))
    None

unfoldable pub schedule_asked : List ℕ → Option Command
schedule_asked line = let seed = numeral_at line 9 in schedule_by line seed (numeral_at line (9 + seed.digits + 1))

-- WHAT A LINE ASKS FOR
unfoldable pub command_of : List ℕ → Option Command
command_of line = cond (begins_with line rom_word 3) (rom_asked line) (cond (begins_with line schedule_word 8) (schedule_asked line) None)
