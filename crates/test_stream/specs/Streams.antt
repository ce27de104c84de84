-- Numbers in bytes, what stands in a buffer before a call, and digests. Assumes nothing: these are definitions.
use Rattle.std.specs.Prelude.{ℕ, ◌+◌, ◌*◌, ◌%◌, List, [], ◌∷◌, slice_index}
use Rattle.upd546.specs.Bytes.{number_of}
use Rattle.upd546.specs.Sequences.{entries}
use Rattle.upd546.specs.declared.Sheet.{Sheet}

-- the number that n bytes from a place on are, big-endian; past their end bytes read 0
abbrev pub number_in : List ℕ → ℕ → ℕ → ℕ
number_in bytes at n = number_of (entries n (λ i. slice_index bytes (at + i)))

-- the sheet that bytes are: ROM bytes, rows and levels, 8 each
abbrev pub sheet_in : List ℕ → Sheet
sheet_in bytes = record { rom = number_in bytes 0 8; rows = number_in bytes 8 8; levels = number_in bytes 16 8 }

-- the byte that stands at a place of a buffer before a call
abbrev pub pattern_at : ℕ → ℕ
pattern_at i = (7 * i + 13) % 256

-- the digest of some bytes, of which those before have the digest h
abbrev pub digest_from : ℕ → List ℕ → ℕ
digest_from h [] = h
digest_from h (x ∷ xs) = digest_from ((h * 257 + x + 1) % 1000000007) xs
