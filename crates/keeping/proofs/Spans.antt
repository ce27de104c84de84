-- The entries of a store from one place on and before another, and that the used ones are the first. Assumes nothing.
use mathlib.Core.Path.{◌≡◌, ◌∙◌, refl, sym, ap}
use mathlib.Core.Bool.{Bool, true, false, cond}
use mathlib.Core.List.{List, [], ◌∷◌}
use Prim.Native.Nat.{ℕ, zero, suc, ◌+◌, ◌-◌, ◌*◌, ◌<◌}
use native.Mathlib.Nat.{mul-zero, sub-zero}
use native.Mathlib.Omega.{arith}
use lib.ListN.{length, drop}
use lib.Seq.{drop-drop}
use Rattle.upd546.specs.Bytes.{part}
use Rattle.store.specs.Entries.{name_length, zero_name, Entry, used_of, entry_length, entries_of, capacity, kept, image_at}
use Rattle.store.proofs.Entries.{length-entries}

module _ (long : ℕ) where
  -- the used ones are the first
  used_first : (n : ℕ) (bytes : List ℕ) → used_of (entries_of long n bytes) ≡ entries_of long (length (used_of (entries_of long n bytes))) bytes
  used_first zero bytes = refl
  used_first (suc n) bytes = go (zero_name e.name) (used_first n (drop (entry_length long) bytes))
    where
      e : Entry
      e = record { name = part bytes 0 name_length; image = part bytes name_length long }

      rest : List Entry
      rest = used_of (entries_of long n (drop (entry_length long) bytes))

      go : (z : Bool) → rest ≡ entries_of long (length rest) (drop (entry_length long) bytes)
          → cond z [] (e ∷ rest) ≡ entries_of long (length (cond z [] (e ∷ rest))) bytes
      go true h = refl
      go false h = ap (λ (es : List Entry). e ∷ es) h

  kept_first : (store : List ℕ) → kept long store ≡ entries_of long (length (kept long store)) store
  unfolding kept
  kept_first store = used_first (capacity long store) store

module _ (long : ℕ) (store : List ℕ) where
  -- the entries from i on and before `to`
  abbrev pub span : ℕ → ℕ → List Entry
  span i to = entries_of long (to - i) (drop (entry_length long * i) store)

  abbrev pub entry_at : ℕ → Entry
  entry_at i = record { name = part store (entry_length long * i) name_length; image = part store (image_at long i) long }

  pub span_all : (to : ℕ) → span 0 to ≡ entries_of long to store
  span_all to = rw (sub-zero to, mul-zero (entry_length long))

  pub span_cons : (i to : ℕ) → i < to → span i to ≡ entry_at i ∷ span (i + 1) to
  span_cons i to h =
      let more : to - i ≡ suc (to - (i + 1)) = omega arith in
      let next : entry_length long * i + entry_length long ≡ entry_length long * (i + 1) = omega arith in
      rw (
        more,
        drop-drop name_length (entry_length long * i) store,
        drop-drop (entry_length long) (entry_length long * i) store,
        next,
      )

  pub length-span : (i to : ℕ) → length (span i to) ≡ to - i
  length-span i to = length-entries long (to - i) (drop (entry_length long * i) store)

  -- the used entries, of which there are so many
  module _ (used : ℕ) (all : used ≡ length (kept long store)) where
    pub kept_entries : entries_of long used store ≡ kept long store
    kept_entries = ap (λ (n : ℕ). entries_of long n store) all ∙ sym (kept_first long store)
