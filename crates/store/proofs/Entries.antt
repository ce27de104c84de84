-- Entries of a store, one behind the other, and what the walks over them pass. Assumes nothing.
use mathlib.Core.Path.{◌≡◌, ◌∙◌, refl, sym, ap, subst}
use mathlib.Core.Bool.{Bool, true, false, cond, not, ◌&&◌}
use mathlib.Core.List.{List, [], ◌∷◌, ◌++◌}
use Prim.Native.Nat.{ℕ, zero, suc, ◌+◌, ◌<◌, ◌≤◌}
use native.Mathlib.Numerals.{add-one}
use native.Mathlib.Omega.{arith}
use lib.Dec.{ltb}
use lib.ListN.{length, get_or, take, drop, length-append}
use lib.Seq.{drop-cons}
use Rattle.std.specs.Simd.{first_chunks}
use Rattle.std.proofs.lemmas.List.{take-take, drop-take, drop_all}
use borrow.Author.Tests.{lt-ltb, le-ltb}
use Rattle.runs.specs.Machine.{Machine}
use Rattle.upd546.specs.Sequences.{same_numbers}
use Rattle.laws.proofs.Tails.{put_more}
use Rattle.store.specs.Entries.{name_length, zero_name, Entry, entry_bytes, entry_in, entries_in, used_of, place_of, distinct, entry_length, entries_of, capacity, kept}
use Rattle.store.specs.Entries.{accepted, all_accepted}

pub used_most : (es : List Entry) → length (used_of es) ≤ length es
used_most [] = omega arith
used_most (e ∷ es) = go (zero_name e.name) (used_most es)
  where
    go : (z : Bool) → length (used_of es) ≤ length es → length (cond z [] (e ∷ used_of es)) ≤ suc (length es)
    go true h = omega arith
    go false h = omega arith

pub place_most : (name : List ℕ) (es : List Entry) → place_of name es ≤ length es
place_most name [] = omega arith
place_most name (e ∷ es) = go (same_numbers name e.name) (place_most name es)
  where
    go : (z : Bool) → place_of name es ≤ length es → cond z 0 (suc (place_of name es)) ≤ suc (length es)
    go true h = omega arith
    go false h = omega arith

module _ (long : ℕ) where
  pub length-entries : (n : ℕ) (bytes : List ℕ) → length (entries_of long n bytes) ≡ n
  length-entries zero bytes = refl
  length-entries (suc n) bytes = ap suc (length-entries n (drop (entry_length long) bytes))

  pub kept_most : (store : List ℕ) → length (kept long store) ≤ capacity long store
  unfolding kept
  kept_most store = omega (arith, used_most (entries_of long (capacity long store) store), length-entries (capacity long store) store)

  -- entries apart, as chunks of a store, are those that the store is cut into
  pub entries_apart : (k : ℕ) (bytes : List ℕ) → entries_in (first_chunks (entry_length long) k bytes) ≡ entries_of long k bytes
  entries_apart zero bytes = refl
  entries_apart (suc k) bytes =
      let name : take name_length (take (entry_length long) bytes) ≡ take name_length bytes = take-take name_length (entry_length long) bytes (omega arith) in
      rw (name, drop-take name_length long bytes, entries_apart k (drop (entry_length long) bytes))

-- ENTRIES APART

pub length-entries_in : (cs : List (List ℕ)) → length (entries_in cs) ≡ length cs
length-entries_in [] = refl
length-entries_in (c ∷ cs) = ap suc (length-entries_in cs)

-- as many of them as are used
pub used_take : (cs : List (List ℕ)) → entries_in (take (length (used_of (entries_in cs))) cs) ≡ used_of (entries_in cs)
used_take [] = refl
used_take (c ∷ cs) = go (zero_name (take name_length c)) (used_take cs)
  where
    go : (z : Bool) → entries_in (take (length (used_of (entries_in cs))) cs) ≡ used_of (entries_in cs)
        → entries_in (take (length (cond z [] (entry_in c ∷ used_of (entries_in cs)))) (c ∷ cs)) ≡ cond z [] (entry_in c ∷ used_of (entries_in cs))
    go true h = refl
    go false h = ap (λ (es : List Entry). entry_in c ∷ es) h

-- those from i on
abbrev pub from : ℕ → List (List ℕ) → List Entry
from i cs = entries_in (drop i cs)

module _ (cs : List (List ℕ)) (i : ℕ) where
  pub from_none : length cs ≤ i → from i cs ≡ []
  from_none h = rw (drop_all i cs h)

  -- AT THE ENTRY i
  module _ (c : List ℕ) (more : i < length cs) (here : c ≡ get_or cs i []) where
    from_cons : from i cs ≡ entry_in c ∷ from (i + 1) cs
    from_cons = rw (drop-cons cs i [] more, here, add-one i)

    -- its image is taken
    pub accepted_next : {S : Type 0} (M : Machine S) → accepted M (drop name_length c) ≡ true → all_accepted M (from (i + 1) cs) ≡ all_accepted M (from i cs)
    accepted_next M e = sym (ap (all_accepted M) from_cons ∙ rw e)

    pub accepted_not : {S : Type 0} (M : Machine S) → accepted M (drop name_length c) ≡ false → false ≡ all_accepted M (from i cs)
    accepted_not M e = sym (ap (all_accepted M) from_cons ∙ rw e)

    -- its name is zero, or isn't
    pub used_end : zero_name (take name_length c) ≡ true → length (used_of (from i cs)) ≡ 0
    used_end e = ap (λ (es : List Entry). length (used_of es)) from_cons ∙ rw e

    pub used_next : zero_name (take name_length c) ≡ false → length (used_of (from i cs)) ≡ suc (length (used_of (from (i + 1) cs)))
    used_next e = ap (λ (es : List Entry). length (used_of es)) from_cons ∙ rw e

    -- it has the name, or hasn't
    pub place_here : (name : List ℕ) → same_numbers name (take name_length c) ≡ true → place_of name (from i cs) ≡ 0
    place_here name e = ap (place_of name) from_cons ∙ rw e

    pub place_next : (name : List ℕ) → same_numbers name (take name_length c) ≡ false → place_of name (from i cs) ≡ suc (place_of name (from (i + 1) cs))
    place_next name e = ap (place_of name) from_cons ∙ rw e

    -- its name stands further on, or doesn't
    module _ (later : List (List ℕ)) (rest : later ≡ drop (i + 1) cs) (r : ℕ) (found : r ≡ place_of (take name_length c) (entries_in later)) where
      differs : distinct (from i cs) ≡ (not (ltb r (length later)) && distinct (from (i + 1) cs))
      differs =
          ap distinct from_cons
          ∙ rw (← rest, ← found, length-entries_in later)

      pub twice : r < length later → false ≡ distinct (from i cs)
      twice h = sym (differs ∙ rw (lt-ltb r (length later) h))

      pub once : length later ≤ r → distinct (from (i + 1) cs) ≡ distinct (from i cs)
      once h = sym (differs ∙ rw (le-ltb r (length later) h))

-- a name put at a place, and an image behind it
pub entry_put : (long : ℕ) (store : List ℕ) (e : Entry) (at : ℕ) → at ≤ length store → length e.name ≡ name_length → length e.image ≡ long
    → {b b' : List ℕ} → b ≡ take at store ++ e.name ++ drop (at + length e.name) store
    → b' ≡ take (at + name_length) b ++ e.image ++ drop (at + name_length + length e.image) b
    → b' ≡ take at store ++ entry_bytes e ++ drop (at + entry_length long) store
entry_put long store e at h eight l {b} {b'} p q =
    let behind : b' ≡ take (at + length e.name) b ++ e.image ++ drop (at + length e.name + length e.image) b
    = subst (λ (k : ℕ). b' ≡ take (at + k) b ++ e.image ++ drop (at + k + length e.image) b) (sym eight) q in
    let all : at + length (entry_bytes e) ≡ at + entry_length long = omega (arith, length-append e.name e.image) in
    put_more store e.name e.image at h p behind ∙ ap (λ (k : ℕ). take at store ++ entry_bytes e ++ drop k store) all
