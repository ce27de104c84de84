-- The default arm of a `match` on a number below k + 1 whose other keys are 0, 1, .., k - 1: the number is k. Assumes nothing.
use mathlib.Core.Path.{◌≡◌}
use Prim.Native.Nat.{ℕ, zero, suc, ◌≤◌, ◌<◌, zero-le}
use native.Mathlib.Omega.{arith}

-- what the default arm knows of the number
abbrev pub Rest : ℕ → ℕ → Type 0
Rest n zero = Unit
Rest n (suc k) = Rest n k × (n ≡ k → ⊥)

pub past : (k n : ℕ) → Rest n k → k ≤ n
past zero n r = zero-le
past (suc k) n r =
    let h : k ≤ n = past k n r.0 in
    let g : n ≡ k → ⊥ = r.1 in
    omega arith

pub last_key : (k n : ℕ) → Rest n k → n < suc k → n ≡ k
last_key k n r h = omega (arith, past k n r)
