-- The fewest digits that hold a number are its decimal text. Assumes nothing.
use mathlib.Core.Path.{◌≡◌, refl}
use mathlib.Core.Bool.{Bool, true, false}
use mathlib.Core.List.{[], ◌∷◌}
use Prim.Native.Nat.{ℕ, zero, suc, ◌+◌, ◌-◌, ◌*◌, ◌/◌, ◌%◌, ◌^◌, ◌<◌, ◌≤◌}
use native.Mathlib.Nat.{pow-suc}
use native.Mathlib.Omega.{arith}
use lib.Dec.{leb}
use lib.Pow.{pow-add}
use lib.ListN.{length, length-append}
use borrow.Author.Tests.{leb-true, leb-false, lt-ltb, le-ltb}
use Rattle.io.specs.Digits.{hex_digit_ascii, IsDigitCount}
use Rattle.io.specs.Digits as io
use Rattle.upd546.specs.Reports.{digits, decimal}

-- a digit below 10
glyph_ten : (d : ℕ) → d < 10 → hex_digit_ascii d ≡ 48 + d
glyph_ten d h = rw (lt-ltb d 10 h)

power_pos : (j : ℕ) → 0 < 10 ^ j
power_pos zero = omega arith
power_pos (suc j) = omega (arith, power_pos j, pow-suc 10 j)

digits_same : (fuel k n : ℕ) → suc k ≤ fuel → n < 10 ^ suc k → (0 < k → 10 ^ k ≤ n) → io.last_digits 10 (suc k) n ≡ digits fuel n
unfolding digits
digits_same zero k n f h g = absurd (omega arith)
digits_same (suc fuel) zero n f h g =
    let small : n < 10 = omega (arith, pow-suc 10 0) in
    let rest : n % 10 ≡ n = omega arith in
    rw (rest, lt-ltb n 10 small, digits)
digits_same (suc fuel) (suc k) n f h g =
    let some : 10 ^ suc k ≤ n = g (omega arith) in
    let large : 10 ≤ n = omega (arith, some, pow-suc 10 k, power_pos k) in
    let last : n % 10 < 10 = omega arith in
    let here : n / 10 < 10 ^ suc k = omega (arith, h, pow-suc 10 (suc k)) in
    let front = digits_same fuel k (n / 10) (omega arith) here (λ p. omega (arith, some, pow-suc 10 k)) in
    rw (glyph_ten (n % 10) last, front, le-ltb n 10 large, digits)

digits_length : (k n : ℕ) → length (io.last_digits 10 k n) ≡ k
digits_length zero n = refl
digits_length (suc k) n = omega (arith, length-append (io.last_digits 10 k (n / 10)) (hex_digit_ascii (n % 10) ∷ []), digits_length k (n / 10))

-- a number of 64 bits has at most 20 digits
few : (k n : ℕ) → n < 2 ^ 64 → IsDigitCount 10 1 n k → k ≤ 20
few k n f h = go (leb k 20) refl
  where
    go : (t : Bool) → leb k 20 ≡ t → k ≤ 20
    go true e = leb-true k 20 e
    go false e =
        let many : 20 < k = leb-false k 20 e in
        let up : 20 + (k - 21) ≡ k - 1 = omega arith in
        let most : 10 ^ 20 * 10 ^ (k - 21) ≤ n = rw (← pow-add 10 20 (k - 21), up) (h.2 (omega arith)) in
        absurd (omega (arith, power_pos (k - 21)))

-- the digits that `io::decimal` writes are the decimal text
pub decimal-same : (k n : ℕ) → n < 2 ^ 64 → IsDigitCount 10 1 n k → io.last_digits 10 k n ≡ decimal n
decimal-same zero n f h = absurd (omega arith)
decimal-same (suc k) n f h =
    let less : suc k - 1 ≡ k = omega arith in
    digits_same 20 k n (few (suc k) n f h) h.1 (λ p. rw less at (h.2 (omega arith)))

pub decimal-short : (k n : ℕ) → n < 2 ^ 64 → IsDigitCount 10 1 n k → length (io.last_digits 10 k n) ≤ 20
decimal-short k n f h = omega (arith, digits_length k n, few k n f h)
