-- Names, compared as the numbers that their bytes are. Assumes nothing.
use mathlib.Core.Path.{◌≡◌, ◌∙◌, refl, sym, ap, ap₂}
use mathlib.Core.Bool.{Bool, true, false}
use mathlib.Core.List.{List, [], ◌∷◌}
use Prim.Native.Nat.{ℕ, zero, suc, ◌+◌, ◌*◌, ◌<◌}
use native.Mathlib.Omega.{arith}
use lib.Dec.{eqb}
use lib.ListN.{length, take, drop, replicate}
use lib.Seq.{get_or-drop}
use borrow.Author.Tests.{eq-eqb, ne_eqb}
use Rattle.runs.specs.Laws.{Bytes}
use Rattle.upd546.specs.Bytes.{number_from, number_of, part}
use Rattle.upd546.specs.Sequences.{same_numbers}
use Rattle.laws.proofs.Images.{same_eq}
use Rattle.store.specs.Entries.{name_length, zero_name}

pub same_self : (l : List ℕ) → same_numbers l l ≡ true
same_self [] = refl
same_self (x ∷ l) = rw (eq-eqb x x refl) (same_self l)

-- the bytes of a part are bytes
take-bytes : (n : ℕ) (l : List ℕ) → Bytes l → Bytes (take n l)
take-bytes zero l b i = omega arith
take-bytes (suc n) [] b i = omega arith
take-bytes (suc n) (x ∷ l) b zero = b 0
take-bytes (suc n) (x ∷ l) b (suc i) = take-bytes n l (λ k. b (suc k)) i

pub part_bytes : (l : List ℕ) (at n : ℕ) → Bytes l → Bytes (part l at n)
part_bytes l at n b = take-bytes n (drop at l) (λ i. rw (get_or-drop at l i 0) (b (at + i)))

-- as many bytes that are the same number are the same, and so is what stands before them
same_number : (m n : ℕ) (a b : List ℕ) → Bytes a → Bytes b → length a ≡ length b → number_from m a ≡ number_from n b → (m ≡ n) × (a ≡ b)
same_number m n [] [] p q h e = (e, refl)
same_number m n [] (y ∷ b) p q h e = absurd (omega arith)
same_number m n (x ∷ a) [] p q h e = absurd (omega arith)
same_number m n (x ∷ a) (y ∷ b) p q h e =
    let r = same_number (m * 256 + x) (n * 256 + y) a b (λ i. p (suc i)) (λ i. q (suc i)) (omega arith) e in
    let small : x < 256 = p 0 in
    let small' : y < 256 = q 0 in
    let head : x ≡ y = omega (arith, r.0) in
    (omega (arith, r.0), ap₂ (λ (z : ℕ) (l : List ℕ). z ∷ l) head r.1)

pub compared : (a b : List ℕ) → Bytes a → Bytes b → length a ≡ length b → same_numbers a b ≡ eqb (number_of a) (number_of b)
compared a b p q h = go (same_numbers a b) refl
  where
    go : (t : Bool) → same_numbers a b ≡ t → t ≡ eqb (number_of a) (number_of b)
    go true e = sym (eq-eqb (number_of a) (number_of b) (ap number_of (same_eq a b e)))
    go false e =
        sym
        (ne_eqb (number_of a) (number_of b)
        (λ (z : number_of a ≡ number_of b).
        let alike : same_numbers a b ≡ true = ap (same_numbers a) (sym (same_number 0 0 a b p q h z).1) ∙ same_self a in
        let no : ◌≡◌ {A = ℕ} 0 1 = cc in
        omega arith))

zero_bytes : (n : ℕ) → Bytes (replicate n 0)
zero_bytes zero i = omega arith
zero_bytes (suc n) zero = omega arith
zero_bytes (suc n) (suc i) = zero_bytes n i

-- eight bytes are a zero name where they are 0
pub zero_compared : (name : List ℕ) → Bytes name → length name ≡ name_length → zero_name name ≡ eqb (number_of name) 0
zero_compared name b h = compared name (replicate name_length 0) b (zero_bytes name_length) h
