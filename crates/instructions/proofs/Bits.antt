-- Bits of a word of 4 bits: a power of two fits, and taking a bit out doesn't go below 0. By computed checks. Assumes nothing.
use mathlib.Core.Path.{◌≡◌}
use Prim.Native.Nat.{ℕ, zero, suc, ◌+◌, ◌*◌, ◌/◌, ◌%◌, ◌^◌, ◌<◌, ◌≤◌}
use native.Mathlib.Nat.{zero-mul, one-mul}
use native.Mathlib.Omega.{arith}
use lib.Dec.{T, eqb, leb, eqb→eq, leb→le}
use Rattle.upd546.specs.Bytes.{bit_at}
use Rattle.upd546.proofs.Computed.{every_at}

pub power_whole : (b : ℕ) → b < 4 → (1 * 2 ^ b) % 256 ≡ 2 ^ b
power_whole b h = eqb→eq _ _ (every_at (λ k. eqb ((1 * 2 ^ k) % 256) (2 ^ k)) 4 tt b h)

pub power_small : (b : ℕ) → b < 4 → 2 ^ b ≤ 8
power_small b h = leb→le _ _ (every_at (λ k. leb (2 ^ k) 8) 4 tt b h)

pub bit_within : (x b : ℕ) → x < 16 → b < 4 → bit_at x b * 2 ^ b ≤ x
bit_within x b hx hb =
    let n = 4 * x + b in
    let t : T (leb (bit_at (n / 4) (n % 4) * 2 ^ (n % 4)) (n / 4)) = every_at (λ k. leb (bit_at (k / 4) (k % 4) * 2 ^ (k % 4)) (k / 4)) 64 tt n (omega arith) in
    let e₁ : n / 4 ≡ x = omega arith in
    let e₂ : n % 4 ≡ b = omega arith in
    leb→le _ _ (rw (e₁, e₂) at t)

-- a flag times a number
pub flag_times : (v p : ℕ) → v < 2 → p ≤ 8 → v * p ≤ 8
flag_times zero p h q = rw (zero-mul p) (omega arith)
flag_times (suc zero) p h q = rw (one-mul p) q
flag_times (suc (suc v)) p h q = absurd (omega arith)
