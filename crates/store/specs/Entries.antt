-- Request R-7, "States to come back to", over any machine: what a store is. "A lent store keeps images under names of exactly eight
-- bytes, in the order first stored, each entry name then image." Assumes nothing: these are definitions.
use Rattle.std.specs.Prelude.{ℕ, zero, suc, ◌+◌, ◌*◌, ◌/◌, ◌%◌, Bool, true, cond, not, ◌&&◌, List, [], ◌∷◌, ◌++◌, eqb, ltb, length, take, drop, replicate}
use Rattle.runs.specs.declared.Version.TheVariants.{Two}
use Rattle.runs.specs.Machine.{Machine}
use Rattle.runs.specs.TwoRunners.{current_number}
use Rattle.upd546.specs.Bytes.{part}
use Rattle.upd546.specs.StateImage.{image_length}
use Rattle.upd546.specs.Sequences.{all_of, all_below, same_numbers}

-- "names of exactly eight bytes"
abbrev pub name_length : ℕ
name_length = 8

-- "a zero name": all eight bytes are zero
abbrev pub zero_name : List ℕ → Bool
zero_name name = same_numbers name (replicate name_length 0)

-- "the name isn't eight bytes or is zero" is what refuses one: "a zero name, never legal"
abbrev pub legal_name : List ℕ → Bool
legal_name name = eqb (length name) name_length && not (zero_name name)

-- "each entry name then image"
pub record Entry : Type 0 where
  pub name : List ℕ
  pub image : List ℕ

abbrev pub entry_bytes : Entry → List ℕ
entry_bytes e = e.name ++ e.image

-- the entry that these bytes are: a name, and an image behind it
abbrev pub entry_in : List ℕ → Entry
entry_in bytes = record { name = take name_length bytes; image = drop name_length bytes }

abbrev pub entries_in : List (List ℕ) → List Entry
entries_in [] = []
entries_in (c ∷ cs) = entry_in c ∷ entries_in cs

-- "a zero name .. begins the unused tail": the entries before the first one
abbrev pub used_of : List Entry → List Entry
used_of [] = []
used_of (e ∷ es) = cond (zero_name e.name) [] (e ∷ used_of es)

-- how many entries stand before the first of this name; all of them where none has it
abbrev pub place_of : List ℕ → List Entry → ℕ
place_of name [] = 0
place_of name (e ∷ es) = cond (same_numbers name e.name) 0 (suc (place_of name es))

-- "a known name"
abbrev pub known : List ℕ → List Entry → Bool
known name es = ltb (place_of name es) (length es)

-- no "name twice"
abbrev pub distinct : List Entry → Bool
distinct [] = true
distinct (e ∷ es) = not (known e.name es) && distinct es

-- where an image is so long
module _ (long : ℕ) where
  -- the length of an entry: a name's and an image's
  abbrev pub entry_length : ℕ
  entry_length = name_length + long

  -- n entries, one behind the other
  abbrev pub entries_of : ℕ → List ℕ → List Entry
  entries_of zero bytes = []
  entries_of (suc n) bytes =
      record { name = take name_length bytes; image = part bytes name_length long } ∷ entries_of n (drop entry_length bytes)

  -- how many entries a store has, used or not
  abbrev pub capacity : List ℕ → ℕ
  capacity store = length store / entry_length

  -- the used ones
  unfoldable pub kept : List ℕ → List Entry
  kept store = used_of (entries_of (capacity store) store)

  -- "the unused tail"
  abbrev pub tail_of : List ℕ → List ℕ
  tail_of store = drop (entry_length * length (kept store)) store

  -- where the image of an entry begins: behind its name
  abbrev pub image_at : ℕ → ℕ
  image_at place = entry_length * place + name_length

  -- the store with this entry at a place
  abbrev pub with_entry : ℕ → Entry → List ℕ → List ℕ
  with_entry place e store = take (entry_length * place) store ++ entry_bytes e ++ drop (entry_length * place + entry_length) store

module _ {S : Type 0} (M : Machine S) where
  -- "R-7's entries hold version 2" (R-8)
  abbrev pub kept_in : List ℕ → List Entry
  kept_in store = kept (M.image_length Two) store

  -- an image isn't "malformed, as a restore judges it", version 2 being due
  abbrev pub accepted : List ℕ → Bool
  accepted image = eqb (current_number M image) 0

  abbrev pub all_accepted : List Entry → Bool
  all_accepted [] = true
  all_accepted (e ∷ es) = accepted e.image && all_accepted es

  -- "The lent length is a multiple of the entry's; a zero name .. begins the unused tail, which is all zero."
  -- "51 the store (a name twice included) or an image is malformed"
  unfoldable pub well_formed : List ℕ → Bool
  well_formed store =
      all_of
      (eqb (length store % entry_length (M.image_length Two)) 0
      ∷ all_below 1 (tail_of (M.image_length Two) store)
      ∷ distinct (kept_in store)
      ∷ all_accepted (kept_in store)
      ∷ [])

-- the length of the chip's images, whatever its sheet
abbrev pub chip_image : ℕ
chip_image = image_length Two
