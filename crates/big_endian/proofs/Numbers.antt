-- The number that bytes are, one byte more at a time. Assumes nothing.
use mathlib.Core.Path.{◌≡◌, ◌∙◌, refl, ap}
use mathlib.Core.List.{List, [], ◌∷◌, ◌++◌, append_assoc}
use Prim.Native.Nat.{ℕ, suc, ◌+◌, ◌-◌, ◌*◌, ◌/◌, ◌%◌, ◌^◌, ◌<◌, ◌≤◌}
use native.Mathlib.Nat.{pow-suc, pow-le-pow_right, div-div-eq-div-mul}
use native.Mathlib.Numerals.{add-one}
use native.Mathlib.Omega.{arith}
use lib.ListN.{length, get_or, set, take, drop, length-drop}
use lib.Seq.{take-suc, get_or-drop}
use Rattle.std.proofs.Common.{length-take-le}
use Rattle.std.proofs.Math.Seq.{set-append_seam}
use Rattle.upd546.specs.Bytes.{number_from, part, number_at, bytes_of}

from_snoc : (n : ℕ) (l : List ℕ) (b : ℕ) → number_from n (l ++ (b ∷ [])) ≡ number_from n l * 256 + b
from_snoc n [] b = refl
from_snoc n (x ∷ l) b = from_snoc (n * 256 + x) l b

part_snoc : (l : List ℕ) (at i : ℕ) → at + i < length l → part l at (suc i) ≡ part l at i ++ (get_or l (at + i) 0 ∷ [])
part_snoc l at i h =
    take-suc (drop at l) i 0 (omega (arith, length-drop at l)) ∙ ap (λ (b : ℕ). part l at i ++ (b ∷ [])) (get_or-drop at l i 0)

-- one byte more
pub number_next : (l : List ℕ) (at i : ℕ) {x : ℕ} → x ≡ number_at l at i → at + i < length l → 256 * x + get_or l (at + i) 0 ≡ number_at l at (i + 1)
number_next l at i e h = rw (add-one i, part_snoc l at i h, from_snoc 0 (part l at i) (get_or l (at + i) 0), e) (omega arith)

-- a number of i bytes keeps below 256 ^ i
pub number_below : (i x b : ℕ) → x < 256 ^ i → b < 256 → 256 * x + b < 256 ^ (i + 1)
number_below i x b h k = rw (add-one i, pow-suc 256 i) (omega arith)

-- a number of seven bytes and one byte more fit 64 bits
pub number_fits : (i x : ℕ) → x < 256 ^ i → i < 8 → x < 72057594037927936
number_fits i x h k =
    let some : 0 < 256 = omega arith in
    let seven : i ≤ 7 = omega arith in
    let most : 256 ^ i ≤ 256 ^ 7 = pow-le-pow_right some seven in
    omega (arith, most)

-- what is left of a number without one byte more
pub rest_next : (n k : ℕ) {rest : ℕ} → rest ≡ n / 256 ^ k → rest / 256 ≡ n / 256 ^ (k + 1)
rest_next n k e = rw (e, add-one k, pow-suc 256 k, div-div-eq-div-mul n (256 ^ k) 256)

-- one byte more, before those that are put
pub put_next : (N k n : ℕ) (old : List ℕ) {bytes : List ℕ} {rest : ℕ} → k < N → N ≤ length old → rest ≡ n / 256 ^ k
    → bytes ≡ take (N - k) old ++ bytes_of k n ++ drop N old
    → set bytes (N - 1 - k) (rest % 256) ≡ take (N - (k + 1)) old ++ bytes_of (k + 1) n ++ drop N old
put_next N k n old h f r e =
    let m = N - 1 - k in
    let one_more : N - k ≡ suc m = omega arith in
    let one_less : N - (k + 1) ≡ m = omega arith in
    let here : length (take m old) ≡ m = length-take-le m old (omega arith) in
    let at_seam = rw here at (set-append_seam (take m old) (get_or old m 0) (bytes_of k n ++ drop N old) (n / 256 ^ k % 256)) in
    rw (e, r, one_more, one_less, add-one k, take-suc old m 0 (omega arith)) (simp append_assoc at_seam)
