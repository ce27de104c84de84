-- What the tables hold at each entry, from one computed check over all of them. Assumes nothing.
use mathlib.Core.Path.{◌≡◌}
use mathlib.Core.Bool.{Bool, ◌&&◌}
use Prim.Native.Nat.{ℕ, suc, ◌-◌, ◌<◌}
use native.Mathlib.Omega.{arith}
use lib.Dec.{T, eqb, eqb→eq}
use lib.ListN.{get_or}
use Rattle.upd546.specs.Instructions.{instruction}
use Rattle.upd546.specs.Timer.{period, position_of, register_after}
use Rattle.upd546.proofs.Computed.{both_left, both_right, every_from, every_at, get_d_entries}
use Rattle.tables.specs.Tables.{size_of, size_in, half_for, instruction_table, position_table, register_table}

-- what the packed table says of a code is what the instruction list says of it
abbrev bytes_read : ℕ → Bool
bytes_read code = eqb (size_in instruction_table code).bytes (size_of code).bytes

abbrev cycles_read : ℕ → Bool
cycles_read code = eqb (size_in instruction_table code).cycles (size_of code).cycles

-- the table's rule: one check over all 256 codes
every_code : T (every_from (λ code. bytes_read code && cycles_read code) 0 256)
unfolding instruction_table half_for size_of instruction
every_code = tt

pub size_at : (code : ℕ) → code < 256 → size_in instruction_table code ≡ size_of code
size_at code h =
    let t = every_at (λ c. bytes_read c && cycles_read c) 256 every_code code h in
    let b : (size_in instruction_table code).bytes ≡ (size_of code).bytes = eqb→eq _ _ (both_left (bytes_read code) (cycles_read code) t) in
    let k : (size_in instruction_table code).cycles ≡ (size_of code).cycles = eqb→eq _ _ (both_right (bytes_read code) (cycles_read code) t) in
    rw (b, k)

pub position_at : (r : ℕ) → 0 < r → r < 64 → get_or position_table (r - 1) 0 ≡ position_of r
unfolding position_table
position_at r p h =
    let k : r - 1 < period = omega arith in
    let e : suc (r - 1) ≡ r = omega arith in
    rw (get_d_entries period (λ i. position_of (suc i)) (r - 1) 0 k, e)

pub register_at : (p : ℕ) → p < period → get_or register_table p 0 ≡ register_after p
unfolding register_table
register_at p h = get_d_entries period register_after p 0 h
