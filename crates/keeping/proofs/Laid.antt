-- The bytes of entries in a store: what the store is read as, and what a store of one more leaves. Assumes nothing.
use mathlib.Core.Path.{◌≡◌, ◌∙◌, refl, sym, ap, ap₂}
use mathlib.Core.Bool.{Bool, true, false, cond}
use mathlib.Core.List.{List, [], ◌∷◌, ◌++◌, append-nil, append_assoc}
use Prim.Native.Nat.{ℕ, zero, suc, ◌+◌, ◌-◌, ◌*◌, ◌/◌, ◌%◌, ◌≤◌, ◌<◌}
use native.Mathlib.Nat.{zero-add, suc-add, sub-zero, suc-sub-suc, mul-zero, mul-add, mul-div_cancel_left, mul-mod_right}
use native.Mathlib.Omega.{arith}
use lib.ListN.{length, take, drop, replicate, length-append, length-replicate}
use lib.Seq.{take_at, drop_at, take-append-add, drop-append-add}
use Rattle.runs.specs.Lists.{Each}
use Rattle.upd546.specs.Bytes.{part}
use Rattle.upd546.specs.Sequences.{all_below, same_numbers}
use Rattle.store.specs.Entries.{name_length, zero_name, Entry, entry_bytes, used_of, place_of, entry_length, entries_of, capacity, kept, tail_of, with_entry}
use Rattle.store.proofs.Names.{same_self}
use Rattle.keeping.specs.Lists.{put_in, joined, laid_out}

-- ZEROS
abbrev zeros : ℕ → List ℕ
zeros n = replicate n 0

take-zeros : (k n : ℕ) → k ≤ n → take k (zeros n) ≡ zeros k
take-zeros zero n h = refl
take-zeros (suc k) zero h = absurd (omega arith)
take-zeros (suc k) (suc n) h = ap (λ (l : List ℕ). 0 ∷ l) (take-zeros k n (omega arith))

drop-zeros : (k n : ℕ) → drop k (zeros n) ≡ zeros (n - k)
drop-zeros zero n = rw (sub-zero n)
drop-zeros (suc k) zero =
    let none : 0 - suc k ≡ 0 = omega arith in
    rw none
drop-zeros (suc k) (suc n) = drop-zeros k n ∙ ap zeros (sym (suc-sub-suc n k))

below_zeros : (n : ℕ) → all_below 1 (zeros n) ≡ true
below_zeros zero = refl
below_zeros (suc n) = below_zeros n

-- an entry of these lengths
pub record Sized (long : ℕ) (e : Entry) : Type 0 where
  pub eight : length e.name ≡ name_length
  pub whole : length e.image ≡ long

module _ (long : ℕ) where
  length-entry : (e : Entry) → Sized long e → length (entry_bytes e) ≡ entry_length long
  length-entry e z = omega (arith, length-append e.name e.image, z.eight, z.whole)

  length-joined : (es : List Entry) → Each (Sized long) es → length (joined es) ≡ entry_length long * length es
  length-joined [] z = sym (mul-zero (entry_length long))
  length-joined (e ∷ es) z =
      let one = length-entry e z.0 in
      let rest = length-joined es z.1 in
      length-append (entry_bytes e) (joined es) ∙ omega (arith, one, rest)

  -- READ BACK

  -- an entry at the front is read as it is
  read_entry : (e : Entry) (l : List ℕ) → Sized long e
      → record { name = take name_length (entry_bytes e ++ l); image = part (entry_bytes e ++ l) name_length long } ≡ e
  read_entry e l z =
      let front : take name_length (entry_bytes e ++ l) ≡ e.name
      = rw (append_assoc e.name e.image l) (take_at e.name (e.image ++ l) name_length z.eight) in
      let behind : part (entry_bytes e ++ l) name_length long ≡ e.image
      = rw (append_assoc e.name e.image l, drop_at e.name (e.image ++ l) name_length z.eight) (take_at e.image l long z.whole) in
      λ i. record { name = front i; image = behind i }

  read_joined : (es : List Entry) (m : ℕ) (l : List ℕ) → Each (Sized long) es → entries_of long (length es + m) (joined es ++ l) ≡ es ++ entries_of long m l
  read_joined [] m l z = rw (zero-add m)
  read_joined (e ∷ es) m l z =
      let rest : drop (entry_length long) (entry_bytes e ++ (joined es ++ l)) ≡ joined es ++ l
      = drop_at (entry_bytes e) (joined es ++ l) (entry_length long) (length-entry e z.0) in
      rw (suc-add (length es) m, append_assoc (entry_bytes e) (joined es) l)
      (ap₂ (λ (x : Entry) (xs : List Entry). x ∷ xs) (read_entry e (joined es ++ l) z.0)
      (ap (entries_of long (length es + m)) rest ∙ read_joined es m l z.1))

  used_zeros : (m : ℕ) → used_of (entries_of long m (zeros (entry_length long * m))) ≡ []
  used_zeros zero = refl
  used_zeros (suc m) =
      let first : zero_name (take name_length (zeros (entry_length long * suc m))) ≡ true
      = ap zero_name (take-zeros name_length (entry_length long * suc m) (omega arith)) ∙ same_self (zeros name_length) in
      rw first

used_append : (es us : List Entry) → Each (λ e. zero_name e.name ≡ false) es → used_of (es ++ us) ≡ es ++ used_of us
used_append [] us z = refl
used_append (e ∷ es) us z = rw z.0 (ap (λ (l : List Entry). e ∷ l) (used_append es us z.1))

module _ (long places : ℕ) (es : List Entry) (sized : Each (Sized long) es) (few : length es ≤ places) where
  all_places : length es + (places - length es) ≡ places
  all_places = omega arith

  length-laid : length (laid_out long places es) ≡ entry_length long * places
  length-laid =
      length-append (joined es) (zeros (entry_length long * (places - length es)))
      ∙ ap₂ ◌+◌ (length-joined long es sized) (length-replicate (entry_length long * (places - length es)) 0)
      ∙ sym (mul-add (entry_length long) (length es) (places - length es))
      ∙ ap (λ (n : ℕ). entry_length long * n) all_places

  pub capacity-laid : capacity long (laid_out long places es) ≡ places
  capacity-laid = ap (λ (n : ℕ). n / entry_length long) length-laid ∙ mul-div_cancel_left places (omega arith)

  pub whole_laid : length (laid_out long places es) % entry_length long ≡ 0
  whole_laid = ap (λ (n : ℕ). n % entry_length long) length-laid ∙ mul-mod_right (entry_length long) places

  pub kept_laid : Each (λ e. zero_name e.name ≡ false) es → kept long (laid_out long places es) ≡ es
  unfolding kept
  kept_laid named =
      let tail = zeros (entry_length long * (places - length es)) in
      ap (λ (n : ℕ). used_of (entries_of long n (laid_out long places es))) (capacity-laid ∙ sym all_places)
      ∙ ap used_of (read_joined long es (places - length es) tail sized)
      ∙ used_append es (entries_of long (places - length es) tail) named
      ∙ ap (λ (us : List Entry). es ++ us) (used_zeros long (places - length es))
      ∙ append-nil es

  pub tail_laid : kept long (laid_out long places es) ≡ es → all_below 1 (tail_of long (laid_out long places es)) ≡ true
  tail_laid all =
      let tail = zeros (entry_length long * (places - length es)) in
      ap (λ (us : List Entry). all_below 1 (drop (entry_length long * length us) (laid_out long places es))) all
      ∙ ap (all_below 1) (drop_at (joined es) tail (entry_length long * length es) (length-joined long es sized))
      ∙ below_zeros (entry_length long * (places - length es))

-- ONE ENTRY MORE, OR ANOTHER
laid_cons : (long places : ℕ) (x : Entry) (es : List Entry) → laid_out long (suc places) (x ∷ es) ≡ entry_bytes x ++ laid_out long places es
laid_cons long places x es =
    rw (suc-sub-suc places (length es)) (append_assoc (entry_bytes x) (joined es) (zeros (entry_length long * (places - length es))))

module _ (long : ℕ) (e : Entry) where
  -- at the first place, and behind an entry
  entry_first : (l : List ℕ) → with_entry long 0 e l ≡ entry_bytes e ++ drop (entry_length long) l
  entry_first l = rw (mul-zero (entry_length long), zero-add (entry_length long))

  entry_behind : (x : Entry) (l : List ℕ) (i : ℕ) → Sized long x → with_entry long (suc i) e (entry_bytes x ++ l) ≡ entry_bytes x ++ with_entry long i e l
  entry_behind x l i z =
      let size = length-entry long x z in
      let before : entry_length long * suc i ≡ length (entry_bytes x) + entry_length long * i = omega (arith, size) in
      let after : entry_length long * suc i + entry_length long ≡ length (entry_bytes x) + (entry_length long * i + entry_length long) = omega (arith, size) in
      let here = take (entry_length long * i) l in
      let there = drop (entry_length long * i + entry_length long) l in
      ap₂ (λ (a b : ℕ). take a (entry_bytes x ++ l) ++ entry_bytes e ++ drop b (entry_bytes x ++ l)) before after
      ∙ ap₂ (λ (a b : List ℕ). a ++ entry_bytes e ++ b) (take-append-add (entry_bytes x) l (entry_length long * i))
      (drop-append-add (entry_bytes x) l (entry_length long * i + entry_length long))
      ∙ ap (λ (a : List ℕ). a ++ there) (append_assoc (entry_bytes x) here (entry_bytes e))
      ∙ append_assoc (entry_bytes x) (here ++ entry_bytes e) there

  pub laid_put : (es : List Entry) (places : ℕ) → Each (Sized long) es → place_of e.name es < places → length es ≤ places
      → with_entry long (place_of e.name es) e (laid_out long places es) ≡ laid_out long places (put_in e es)
  laid_put es zero z h few = absurd (omega arith)
  laid_put [] (suc q) z h few =
      let all : suc q - 0 ≡ suc q = omega arith in
      let rest : suc q - 1 ≡ q = omega arith in
      let fewer : entry_length long * suc q - entry_length long ≡ entry_length long * q = omega arith in
      rw (all, rest)
      (entry_first (zeros (entry_length long * suc q))
      ∙ ap₂ ◌++◌ (sym (append-nil (entry_bytes e)))
      (drop-zeros (entry_length long) (entry_length long * suc q) ∙ ap zeros fewer))
  laid_put (x ∷ es) (suc q) z h few = go (same_numbers e.name x.name) h (laid_put es q z.1)
    where
      go : (t : Bool) → cond t 0 (suc (place_of e.name es)) < suc q
          → (place_of e.name es < q → length es ≤ q → with_entry long (place_of e.name es) e (laid_out long q es) ≡ laid_out long q (put_in e es))
          → with_entry long (cond t 0 (suc (place_of e.name es))) e (laid_out long (suc q) (x ∷ es))
          ≡ laid_out long (suc q) (cond t (e ∷ es) (x ∷ put_in e es))
      go true h ih =
          ap (with_entry long 0 e) (laid_cons long q x es)
          ∙ entry_first (entry_bytes x ++ laid_out long q es)
          ∙ ap (λ (l : List ℕ). entry_bytes e ++ l) (drop_at (entry_bytes x) (laid_out long q es) (entry_length long) (length-entry long x z.0))
          ∙ sym (laid_cons long q e es)
      go false h ih =
          ap (with_entry long (suc (place_of e.name es)) e) (laid_cons long q x es)
          ∙ entry_behind x (laid_out long q es) (place_of e.name es) z.0
          ∙ ap (λ (l : List ℕ). entry_bytes x ++ l) (ih (omega arith) (omega arith))
          ∙ sym (laid_cons long q x (put_in e es))
