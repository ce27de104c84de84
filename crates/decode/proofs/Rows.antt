-- Rows of equal codes, and the instruction of a code by its row. Assumes nothing.
use mathlib.Core.Path.{◌≡◌, ◌∙◌, sym, ap}
use mathlib.Core.List.{List, ◌++◌}
use Prim.Native.Nat.{ℕ, ◌+◌, ◌-◌, ◌/◌, ◌%◌, ◌<◌, ◌≤◌}
use native.Mathlib.Omega.{arith}
use lib.ListN.{get_or, replicate, get_or-replicate, get_or-append, get_or-eq_default}
use lib.Seq.{get_or-append-add}
use Rattle.upd546.specs.Instructions as chip
use Rattle.upd546.specs.Instructions.{Instruction, codes, instruction}

-- two halves of equal codes
pub low_half : (a b : Instruction) (low : ℕ) → low < 8 → a ≡ get_or (replicate 8 a ++ replicate 8 b) low chip.none
low_half a b low h = sym (get_or-append (replicate 8 a) (replicate 8 b) chip.none low h ∙ get_or-replicate 8 low a chip.none h)

pub high_half : (a b : Instruction) (low : ℕ) → 8 ≤ low → low < 16 → b ≡ get_or (replicate 8 a ++ replicate 8 b) low chip.none
high_half a b low h g =
    let e : low ≡ 8 + (low - 8) = omega arith in
    let k : low - 8 < 8 = omega arith in
    sym (ap (λ (n : ℕ). get_or (replicate 8 a ++ replicate 8 b) n chip.none) e ∙ get_or-append-add (replicate 8 a) (replicate 8 b) (low - 8) chip.none ∙ get_or-replicate 8 (low - 8) b chip.none k)

-- a row of one instruction
pub one_row : (a : Instruction) (code : ℕ) → a ≡ get_or (replicate 16 a) (code % 16) chip.none
one_row a code = sym (get_or-replicate 16 (code % 16) a chip.none (omega arith))

-- past the last row it is a JCP
pub past_rows : (code : ℕ) → 12 ≤ code / 16 → chip.jcp ≡ instruction code
unfolding instruction
past_rows code h = rw (get_or-eq_default codes (replicate 16 chip.jcp) h) (one_row chip.jcp code)
