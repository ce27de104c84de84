-- A list that is filled from its front, entry by entry. Assumes nothing.
use Rattle.std.proofs.Common.{◌≡◌, ℕ, zero, suc, ◌+◌, ◌<◌, List, [], ◌∷◌, ◌++◌, length, get_or, drop, set, sym, refl, ap, ◌∙◌, add-one, drop-cons}
use lib.Seq.{set_at, append_snoc}
use Rattle.upd546.specs.Sequences.{entries}

entries-snoc : (n : ℕ) (f : ℕ → ℕ) → entries (suc n) f ≡ entries n f ++ (f n ∷ [])
entries-snoc zero f = refl
entries-snoc (suc n) f = ap (λ (l : List ℕ). f 0 ∷ l) (entries-snoc n (λ i. f (suc i)))

length-entries : (n : ℕ) (f : ℕ → ℕ) → length (entries n f) ≡ n
length-entries zero f = refl
length-entries (suc n) f = ap suc (length-entries n (λ i. f (suc i)))

-- one entry more
pub filled_more : (f : ℕ → ℕ) (l : List ℕ) (i x : ℕ) → i < length l → x ≡ f i → set (entries i f ++ drop i l) i x ≡ entries (i + 1) f ++ drop (i + 1) l
filled_more f l i x h e =
    let rest = drop (suc i) l in
    let front : set (entries i f ++ drop i l) i x ≡ entries i f ++ x ∷ rest = rw (drop-cons l i 0 h) (set_at (entries i f) (get_or l i 0) rest x i (length-entries i f)) in
    let back : entries (suc i) f ++ rest ≡ entries i f ++ f i ∷ rest = ap (λ (a : List ℕ). a ++ rest) (entries-snoc i f) ∙ append_snoc (entries i f) (f i) rest in
    rw (add-one i) (front ∙ ap (λ (y : ℕ). entries i f ++ y ∷ rest) e ∙ sym back)
