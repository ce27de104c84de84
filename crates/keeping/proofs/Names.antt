-- Entries by their names: what a store makes of them, and a list of calls. Assumes nothing.
use mathlib.Core.Path.{◌≡◌, ◌∙◌, refl, sym, ap, ap₂, subst}
use mathlib.Core.Bool.{Bool, true, false, cond, not, ◌&&◌, ◌||◌}
use mathlib.Core.List.{List, [], ◌∷◌}
use mathlib.Core.Option.{Option, none, some}
use Prim.Native.Nat.{ℕ, suc, ◌-◌, ◌≤◌, ◌<◌}
use native.Mathlib.Omega.{arith}
use lib.Dec.{ltb, leb-suc-suc}
use lib.ListN.{length}
use borrow.Author.Tests.{lt-ltb, not-true}
use Rattle.upd546.specs.Sequences.{same_numbers}
use Rattle.laws.proofs.Lists.{and_left, and_right}
use Rattle.laws.proofs.Images.{same_eq}
use Rattle.store.specs.Entries.{Entry, place_of, known, distinct}
use Rattle.store.proofs.Names.{same_self}
use Rattle.keeping.specs.Lists.{Call, keep, recall, last_stored, add_name, first_stored, order_of, is_stored, put_in, entries_after}

-- NAMES THAT ARE THE SAME

-- one name isn't the same as two that differ
apart : (n a b : List ℕ) → same_numbers n a ≡ true → same_numbers n b ≡ true → same_numbers a b ≡ false → ⊥
apart n a b p q r =
    let alike : same_numbers a b ≡ true = ap (λ (l : List ℕ). same_numbers l b) (sym (same_eq n a p)) ∙ q in
    let no : ◌≡◌ {A = ℕ} 0 1 = cc in
    omega arith

-- the same as one of two that don't differ is the same as the other
with : (n a b : List ℕ) → same_numbers a b ≡ true → same_numbers n b ≡ same_numbers n a
with n a b p = ap (same_numbers n) (sym (same_eq a b p))

turned : (a b : List ℕ) → same_numbers a b ≡ false → same_numbers b a ≡ false
turned a b p = go (same_numbers b a) refl
  where
    go : (t : Bool) → same_numbers b a ≡ t → t ≡ false
    go false e = refl
    go true e = absurd (apart b a b e (same_self b) p)

-- WHAT STANDS UNDER A NAME
abbrev pub lookup : List ℕ → List Entry → Option (List ℕ)
lookup name [] = none
lookup name (e ∷ es) = cond (same_numbers name e.name) (some e.image) (lookup name es)

abbrev held : Option (List ℕ) → Bool
held none = false
held (some image) = true

known_cons : (name : List ℕ) (e : Entry) (es : List Entry) → known name (e ∷ es) ≡ (same_numbers name e.name || known name es)
known_cons name e es = go (same_numbers name e.name)
  where
    go : (t : Bool) → ltb (cond t 0 (suc (place_of name es))) (suc (length es)) ≡ (t || known name es)
    go true = lt-ltb 0 (suc (length es)) (omega arith)
    go false = leb-suc-suc (suc (place_of name es)) (length es)

pub known_held : (name : List ℕ) (es : List Entry) → known name es ≡ held (lookup name es)
known_held name [] = refl
known_held name (e ∷ es) = known_cons name e es ∙ go (same_numbers name e.name) (known_held name es)
  where
    go : (t : Bool) → known name es ≡ held (lookup name es) → (t || known name es) ≡ held (cond t (some e.image) (lookup name es))
    go true h = refl
    go false h = h

-- A STORE
module _ (e : Entry) where
  pub lookup_put : (name : List ℕ) (es : List Entry)
      → lookup name (put_in e es) ≡ cond (same_numbers name e.name) (some e.image) (lookup name es)
  lookup_put name [] = refl
  lookup_put name (x ∷ es) =
      go (same_numbers e.name x.name) (same_numbers name e.name) (same_numbers name x.name) refl refl refl (lookup_put name es)
    where
      go : (b a d : Bool) → same_numbers e.name x.name ≡ b → same_numbers name e.name ≡ a → same_numbers name x.name ≡ d
          → lookup name (put_in e es) ≡ cond (same_numbers name e.name) (some e.image) (lookup name es)
          → lookup name (cond b (e ∷ es) (x ∷ put_in e es)) ≡ cond a (some e.image) (cond d (some x.image) (lookup name es))
      go true true d p q r ih = rw q
      go true false false p q r ih = rw q
      go true false true p q r ih =
          let no : true ≡ false = sym r ∙ with name e.name x.name p ∙ q in
          cc
      go false true true p q r ih = absurd (apart name e.name x.name q r p)
      go false true false p q r ih = rw r (ih ∙ rw q)
      go false false true p q r ih = rw r
      go false false false p q r ih = rw r (ih ∙ rw q)

  known_put : (name : List ℕ) (es : List Entry) → known name (put_in e es) ≡ (same_numbers name e.name || known name es)
  known_put name es = known_held name (put_in e es) ∙ ap held (lookup_put name es) ∙ go (same_numbers name e.name)
    where
      go : (t : Bool) → held (cond t (some e.image) (lookup name es)) ≡ (t || known name es)
      go true = refl
      go false = sym (known_held name es)

  pub distinct-put : (es : List Entry) → distinct es ≡ true → distinct (put_in e es) ≡ true
  distinct-put [] h = refl
  distinct-put (x ∷ es) h =
      go (same_numbers e.name x.name) refl (distinct-put es (and_right (not (known x.name es)) (distinct es) h))
    where
      new : known x.name es ≡ false
      new = not-true (known x.name es) (and_left (not (known x.name es)) (distinct es) h)

      go : (t : Bool) → same_numbers e.name x.name ≡ t → distinct (put_in e es) ≡ true → distinct (cond t (e ∷ es) (x ∷ put_in e es)) ≡ true
      go true p ih = subst (λ (n : List ℕ). (not (known n es) && distinct es) ≡ true) (sym (same_eq e.name x.name p)) h
      go false p ih =
          let other : known x.name (put_in e es) ≡ false
          = known_put x.name es ∙ ap₂ (λ (s t : Bool). s || t) (turned e.name x.name p) new in
          rw other ih

  -- it takes no place more than there are
  pub put_most : (es : List Entry) (places : ℕ) → place_of e.name es < places → length es ≤ places → length (put_in e es) ≤ places
  put_most [] places h few = omega arith
  put_most (x ∷ es) places h few = go (same_numbers e.name x.name) h (put_most es (places - 1))
    where
      go : (t : Bool) → cond t 0 (suc (place_of e.name es)) < places
          → (place_of e.name es < places - 1 → length es ≤ places - 1 → length (put_in e es) ≤ places - 1)
          → length (cond t (e ∷ es) (x ∷ put_in e es)) ≤ places
      go true h ih = few
      go false h ih =
          let inner : length (put_in e es) ≤ places - 1 = ih (omega arith) (omega arith) in
          omega (arith, inner)

-- THE NAMES ALONE
abbrev pub names : List Entry → List (List ℕ)
names [] = []
names (e ∷ es) = e.name ∷ names es

pub length-names : (es : List Entry) → length (names es) ≡ length es
length-names [] = refl
length-names (e ∷ es) = ap suc (length-names es)

pub place_order : (name : List ℕ) (es : List Entry) → place_of name es ≡ order_of name (names es)
place_order name [] = refl
place_order name (e ∷ es) = ap (λ (k : ℕ). cond (same_numbers name e.name) 0 (suc k)) (place_order name es)

pub known_stored : (name : List ℕ) (es : List Entry) → known name es ≡ is_stored name (names es)
known_stored name es = ap₂ ltb (place_order name es) (sym (length-names es))

names_put : (e : Entry) (es : List Entry) → names (put_in e es) ≡ add_name e.name (names es)
names_put e [] = refl
names_put e (x ∷ es) = go (same_numbers e.name x.name) refl (names_put e es)
  where
    go : (t : Bool) → same_numbers e.name x.name ≡ t → names (put_in e es) ≡ add_name e.name (names es)
        → names (cond t (e ∷ es) (x ∷ put_in e es)) ≡ cond t (x.name ∷ names es) (x.name ∷ add_name e.name (names es))
    go true p ih = ap (λ (n : List ℕ). n ∷ names es) (same_eq e.name x.name p)
    go false p ih = ap (λ (ns : List (List ℕ)). x.name ∷ ns) ih

-- A LIST OF CALLS
module _ {Sheet : Type 0} where
  pub last_lookup : (name : List ℕ) (es : List Entry) (cs : List (Call Sheet)) → last_stored name (lookup name es) cs ≡ lookup name (entries_after es cs)
  last_lookup name es [] = refl
  last_lookup name es (keep store n image sheet ∷ cs) =
      let e : Entry = record { name = n; image = image } in
      ap (λ (o : Option (List ℕ)). last_stored name o cs) (sym (lookup_put e name es)) ∙ last_lookup name (put_in e es) cs
  last_lookup name es (recall store n sheet ∷ cs) = last_lookup name es cs

  pub first_names : (es : List Entry) (cs : List (Call Sheet)) → first_stored (names es) cs ≡ names (entries_after es cs)
  first_names es [] = refl
  first_names es (keep store n image sheet ∷ cs) =
      let e : Entry = record { name = n; image = image } in
      ap (λ (ns : List (List ℕ)). first_stored ns cs) (sym (names_put e es)) ∙ first_names (put_in e es) cs
  first_names es (recall store n sheet ∷ cs) = first_names es cs
