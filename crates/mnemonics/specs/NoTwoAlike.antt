-- What is claimed of the table: its rule, and that its kinds and the instruction list's bytes agree. Assumes nothing: these are definitions.
use Rattle.std.specs.Prelude.{◌≡◌, cond, ℕ, ◌<◌}
use Rattle.upd546.specs.Instructions.{instruction}
use Rattle.mnemonics.specs.Mnemonics.{kind_of, long_for, instruction_text}

-- all 256 codes, no two with the same text
abbrev pub NoTwoAlike : Type 0
NoTwoAlike = (a b : ℕ) → a < 256 → b < 256 → instruction_text 0 a 0 ≡ instruction_text 0 b 0 → a ≡ b

-- a second byte belongs to a code where the instruction list says two bytes
abbrev pub BytesAgree : Type 0
BytesAgree = (code : ℕ) → code < 256 → cond (long_for (kind_of code)) 2 1 ≡ (instruction code).bytes
