-- A number read digit by digit, and a command by its tests. Assumes nothing.
use mathlib.Core.Path.{◌≡◌, ◌∙◌, sym, ap}
use mathlib.Core.Bool.{Bool, true, false}
use mathlib.Core.List.{List}
use Prim.Native.Nat.{ℕ, suc, ◌+◌, ◌*◌, ◌%◌, ◌^◌, ◌<◌, ◌≤◌}
use native.Mathlib.Nat.{pow-suc, pow-le-pow_right}
use native.Mathlib.Numerals.{add-one}
use native.Mathlib.Omega.{arith}
use lib.Dec.{ltb}
use lib.ListN.{length, get_or, drop, drop_of_length-le}
use lib.Seq.{drop-cons}
use borrow.Author.Tests.{ltb-true}
use Rattle.laws.proofs.Lists.{and_right}
use Rattle.load_line.specs.declared.Numeral.{Numeral}
use Rattle.load_line.specs.Commands.{is_digit, most_digits, is_read, numeral_from}

-- A NUMBER

abbrev read : ℕ → ℕ → Numeral
read n digits = record { value = n; digits = digits }

-- by whether the byte at a place is read
by_byte : (line : List ℕ) (n digits i : ℕ) {t : Bool} → i < length line → is_read digits (get_or line i 0) ≡ t
    → numeral_from n digits (drop i line) ≡ elim t [ true ↦ numeral_from (10 * n + get_or line i 0 % 16) (suc digits) (drop (suc i) line) | false ↦ read n digits ]
unfolding numeral_from
by_byte line n digits i h e =
    ap (numeral_from n digits) (drop-cons line i 0 h)
    ∙ ap (λ (t : Bool). elim t [ true ↦ numeral_from (10 * n + get_or line i 0 % 16) (suc digits) (drop (suc i) line) | false ↦ read n digits ]) e

pub one_digit : (line : List ℕ) (n digits i : ℕ) → i < length line → is_read digits (get_or line i 0) ≡ true
    → numeral_from (10 * n + get_or line i 0 % 16) (digits + 1) (drop (i + 1) line) ≡ numeral_from n digits (drop i line)
one_digit line n digits i h e = rw (add-one digits, add-one i) (sym (by_byte line n digits i h e))

-- a byte that isn't read, and the end of the line
pub no_digit : (line : List ℕ) (n digits i : ℕ) → i < length line → is_read digits (get_or line i 0) ≡ false → read n digits ≡ numeral_from n digits (drop i line)
no_digit line n digits i h e = sym (by_byte line n digits i h e)

pub line_done : (line : List ℕ) (n digits i : ℕ) → length line ≤ i → read n digits ≡ numeral_from n digits (drop i line)
unfolding numeral_from
line_done line n digits i h = rw (drop_of_length-le line h)

-- a digit that is read is one of 18
pub one_of_18 : (digits b : ℕ) → is_read digits b ≡ true → digits < most_digits
unfolding is_read
one_of_18 digits b e = ltb-true digits most_digits (and_right (is_digit b) (ltb digits most_digits) e)

-- so many digits keep below twice the power of ten
pub digits_below : (digits n d : ℕ) → n + 2 ≤ 2 * 10 ^ digits → d < 16 → 10 * n + d + 2 ≤ 2 * 10 ^ (digits + 1)
digits_below digits n d h k = rw (add-one digits, pow-suc 10 digits) (omega arith)

pub digits_fit : (digits n : ℕ) → n + 2 ≤ 2 * 10 ^ digits → digits < most_digits → n < 200000000000000000
digits_fit digits n h k =
    let some : 0 < 10 = omega arith in
    let less : digits ≤ 17 = omega arith in
    let most : 10 ^ digits ≤ 10 ^ 17 = pow-le-pow_right some less in
    omega (arith, most)
