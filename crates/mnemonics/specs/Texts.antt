-- Quoted text as the list of its ASCII codes, and numbers of a fixed number of hexadecimal digits. Assumes nothing: these are definitions.
use Rattle.std.specs.Prelude.{ℕ, ◌/◌, ◌%◌, List, [], ◌∷◌}
use Prim.Native.Char.{code}
use Prim.Native.String.{String, len, char_at}
use Rattle.upd546.specs.Sequences.{entries}
use Rattle.upd546.specs.Reports.{hex_digit}

abbrev pub ascii : String → List ℕ
ascii s = entries (len s) (λ i. code (char_at s i))

-- one, two and three digits: the low 4, 8 and 12 bits of v
abbrev pub hex1 : ℕ → List ℕ
hex1 v = hex_digit (v % 16) ∷ []

abbrev pub hex2 : ℕ → List ℕ
hex2 v = hex_digit (v / 16 % 16) ∷ hex1 v

abbrev pub hex3 : ℕ → List ℕ
hex3 v = hex_digit (v / 256 % 16) ∷ hex2 v
