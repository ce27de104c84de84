-- Hexadecimal digits, read as they are written. Assumes nothing.
use mathlib.Core.Path.{◌≡◌, ◌∙◌, refl, sym, ap}
use mathlib.Core.Bool.{Bool, true, false, cond, ◌&&◌}
use mathlib.Core.List.{List, [], ◌∷◌, ◌++◌}
use Prim.Native.Nat.{ℕ, zero, suc, ◌+◌, ◌*◌, ◌/◌, ◌%◌, ◌<◌, ◌≤◌}
use native.Mathlib.Omega.{arith}
use lib.Dec.{T, eqb, leb, ltb, eqb→eq}
use borrow.Author.Tests.{lt-ltb, le-leb}
use Rattle.upd546.specs.Reports.{hex_digit}
use Rattle.upd546.proofs.Computed.{every_at}
use Rattle.mnemonics.specs.Texts.{hex1, hex2, hex3}
use Rattle.assembly.specs.Assembling.{Value, good, wrong, digit_of, grown, number_from, limited, number_up_to}
use Rattle.every_listing.proofs.Parts.{in_word, clean, joined}

digit_of_lem : (d : ℕ) → d < 16 → digit_of (hex_digit d) ≡ d
digit_of_lem d h = eqb→eq (digit_of (hex_digit d)) d (every_at (λ k. eqb (digit_of (hex_digit k)) k) 16 tt d h)

pub digit_clean : (d : ℕ) → T (in_word (hex_digit (d % 16)))
digit_clean d = every_at (λ k. in_word (hex_digit k)) 16 tt (d % 16) (omega arith)

number_next : (n c : ℕ) (t : List ℕ) → ltb (digit_of c) 16 ≡ true → number_from n (c ∷ t) ≡ number_from (grown n (digit_of c)) t
unfolding number_from
number_next n c t e = rw (e, number_from)

-- one digit more
number_digit : (n d : ℕ) (t : List ℕ) → n < 4096 → d < 16 → number_from n (hex_digit d ∷ t) ≡ number_from (16 * n + d) t
number_digit n d t hn hd =
    number_next n (hex_digit d) t (ap (λ (k : ℕ). ltb k 16) (digit_of_lem d hd) ∙ lt-ltb d 16 hd)
    ∙ ap (λ (k : ℕ). number_from (grown n k) t) (digit_of_lem d hd)
    ∙ ap (λ (b : Bool). number_from (cond b (16 * n + d) 65535) t) (lt-ltb n 4096 hn)

number_none : (n : ℕ) → number_from n [] ≡ good n
unfolding number_from
number_none n = refl

pub one_digit : (v : ℕ) → v < 16 → number_from 0 (hex1 v) ≡ good v
one_digit v h =
    let e : 16 * 0 + v % 16 ≡ v = omega arith in
    number_digit 0 (v % 16) [] (omega arith) (omega arith) ∙ number_none (16 * 0 + v % 16) ∙ ap good e

pub two_digits : (v : ℕ) → v < 256 → number_from 0 (hex2 v) ≡ good v
two_digits v h =
    let e : 16 * (16 * 0 + v / 16 % 16) + v % 16 ≡ v = omega arith in
    number_digit 0 (v / 16 % 16) (hex1 v) (omega arith) (omega arith)
    ∙ number_digit (16 * 0 + v / 16 % 16) (v % 16) [] (omega arith) (omega arith)
    ∙ number_none (16 * (16 * 0 + v / 16 % 16) + v % 16)
    ∙ ap good e

pub three_digits : (v : ℕ) → v < 4096 → number_from 0 (hex3 v) ≡ good v
three_digits v h =
    let e : 16 * (16 * (16 * 0 + v / 256 % 16) + v / 16 % 16) + v % 16 ≡ v = omega arith in
    number_digit 0 (v / 256 % 16) (hex2 v) (omega arith) (omega arith)
    ∙ number_digit (16 * 0 + v / 256 % 16) (v / 16 % 16) (hex1 v) (omega arith) (omega arith)
    ∙ number_digit (16 * (16 * 0 + v / 256 % 16) + v / 16 % 16) (v % 16) [] (omega arith) (omega arith)
    ∙ number_none (16 * (16 * (16 * 0 + v / 256 % 16) + v / 16 % 16) + v % 16)
    ∙ ap good e

-- up to a limit
pub within : (limit c v : ℕ) (t : List ℕ) → number_from 0 (c ∷ t) ≡ good v → v ≤ limit → number_up_to limit (c ∷ t) ≡ good v
unfolding number_up_to
within limit c v t e h = ap (limited limit) e ∙ ap (λ (b : Bool). cond b (good v) (wrong 6)) (le-leb v limit h)

pub hex1_clean : (v : ℕ) → T (clean (hex1 v))
hex1_clean v = joined (in_word (hex_digit (v % 16))) true (digit_clean v) tt

pub hex2_clean : (v : ℕ) → T (clean (hex2 v))
hex2_clean v = joined (in_word (hex_digit (v / 16 % 16))) (clean (hex1 v)) (digit_clean (v / 16)) (hex1_clean v)

pub hex3_clean : (v : ℕ) → T (clean (hex3 v))
hex3_clean v = joined (in_word (hex_digit (v / 256 % 16))) (clean (hex2 v)) (digit_clean (v / 256)) (hex2_clean v)
