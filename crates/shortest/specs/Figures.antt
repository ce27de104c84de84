-- R-12 with figures: panels of three bytes of ROM that look at bit 0 of port A. Assumes nothing: these are definitions.
use Rattle.std.specs.Prelude.{ℕ, ◌*◌, ◌≡◌, List, [], ◌∷◌, ◌++◌, replicate}
use Rattle.upd546.specs.declared.Sheet.{Sheet}
use Rattle.upd546.specs.TheMachine.{fresh}
use Rattle.upd546.specs.TwoRunners.{chip}
use Rattle.shortest.specs.Search.{shortest_answer}

-- three bytes of ROM, row 7 alone, one level
abbrev pub small : Sheet
small = record { rom = 3; rows = 0; levels = 1 }

-- a record: port A has this value from this cycle on, INT is high
abbrev pub line_a : ℕ → ℕ → List ℕ
line_a cycle a = 0 ∷ 0 ∷ 0 ∷ 0 ∷ 0 ∷ cycle ∷ (16 * a) ∷ 0 ∷ 1 ∷ 0 ∷ []

-- TPA 0, no instruction, JCP 000: it halts with 23 where A is 0, and goes round where it is 1
abbrev pub halts_at_zero : List ℕ
halts_at_zero = 0x54 ∷ 0x1C ∷ 0xC0 ∷ []

-- TPA 0, JCP 000, no instruction: the other way round
abbrev pub halts_at_one : List ℕ
halts_at_one = 0x54 ∷ 0xC0 ∷ 0x1C ∷ []

pub record Shown : Type 0 where
  -- k records may stop it, k + 1 not, and k + 2 again: it halts with no record, goes round with the first, and halts with both
  pub not_monotone : shortest_answer (chip small) halts_at_zero (line_a 0 1 ++ line_a 10 0) fresh 20 (replicate 320 0) ≡ record { number = 23; records = 0 }
  -- the second record is the one that matters
  pub second : shortest_answer (chip small) halts_at_one (line_a 4 0 ++ line_a 9 1 ++ line_a 25 0) fresh 30 (replicate 480 0) ≡ record { number = 23; records = 2 }
  -- on a log of one byte less than 16n
  pub short : shortest_answer (chip small) halts_at_one (line_a 4 0 ++ line_a 9 1 ++ line_a 25 0) fresh 30 (replicate 479 0) ≡ record { number = 81; records = 0 }
  -- the full run halts in cycle 12
  pub ends : shortest_answer (chip small) halts_at_one (line_a 4 0 ++ line_a 9 1 ++ line_a 25 0) fresh 12 (replicate 480 0) ≡ record { number = 82; records = 0 }
  -- the run's own refusals come before a short log
  pub refuses : shortest_answer (chip small) halts_at_one (line_a 4 0 ++ line_a 4 1) fresh 30 [] ≡ record { number = 14; records = 0 }
