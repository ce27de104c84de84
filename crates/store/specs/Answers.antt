-- Request R-7, over any machine: what storing and recalling answer and leave. "A small sheet, given last to each call that takes states
-- or images, a store .. too" (R-11), is the machine. Assumes nothing: these are definitions.
use Rattle.std.specs.Prelude.{ℕ, zero, suc, ◌+◌, ◌≡◌, ◌||◌, List, [], ◌∷◌, ◌↔◌, Result, Ok, Err, ltb, length}
use Rattle.std.specs.Borrow.{Bor}
use Rattle.runs.specs.declared.Version.TheVariants.{Two}
use Rattle.runs.specs.declared.Refusal.{Refusal}
use Rattle.runs.specs.Machine.{Machine}
use Rattle.runs.specs.Refusals.{first_of, unless}
use Rattle.runs.specs.Numbers.{refusal_number}
use Rattle.upd546.specs.Bytes.{part}
use Rattle.store.specs.Entries.{legal_name, place_of, known, capacity, with_entry, image_at, kept_in, accepted, well_formed}

-- What storing answers: 0 or its refusal's number, and the store as it stands when the call returns.
pub record StoreAnswer : Type 0 where
  pub number : ℕ
  pub store : List ℕ

-- What recalling answers: 0 or its refusal's number, and a part of the store.
pub record RecallAnswer : Type 0 where
  pub number : ℕ
  pub part : List ℕ

module _ {S : Type 0} (M : Machine S) where
  -- the entry of a name in a store: where it stands, or, of a new name, the first unused one
  abbrev pub place_in : (store name : List ℕ) → ℕ
  place_in store name = place_of name (kept_in M store)

  -- What refuses either call before all else: 71 (R-11); then "51 the store (a name twice included) .. is malformed, .. or the name isn't
  -- eight bytes or is zero".
  unfoldable pub judged_number : (store name : List ℕ) → ℕ
  judged_number store name = first_of (M.own_number ∷ unless (well_formed M store) 51 ∷ unless (legal_name name) 51 ∷ [])

  -- "in this order 51 .. an image is malformed, as a restore judges it, ..; 53 no unused entry for a new name"
  unfoldable pub store_number : (store name image : List ℕ) → ℕ
  store_number store name image =
      first_of
      (judged_number store name
      ∷ unless (accepted M image) 51
      ∷ unless (known name (kept_in M store) || ltb (length (kept_in M store)) (capacity (M.image_length Two) store)) 53
      ∷ [])

  -- "A refused store changes nothing."
  abbrev pub stored : ℕ → (store name image : List ℕ) → StoreAnswer
  stored zero store name image = record { number = 0; store = with_entry (M.image_length Two) (place_in store name) (record { name = name; image = image }) store }
  stored (suc k) store name image = record { number = suc k; store = store }

  -- STORING: "Storing under a known name replaces that entry alone."
  unfoldable pub store_answer : (store name image : List ℕ) → StoreAnswer
  store_answer store name image = stored (store_number store name image) store name image

  -- "52 no such name to recall"
  unfoldable pub recall_number : (store name : List ℕ) → ℕ
  recall_number store name = first_of (judged_number store name ∷ unless (known name (kept_in M store)) 52 ∷ [])

  -- "the part of the store that holds the .. image .. (an empty part when refused)"
  abbrev pub recalled : ℕ → (store name : List ℕ) → RecallAnswer
  recalled zero store name = record { number = 0; part = part store (image_at (M.image_length Two) (place_in store name)) (M.image_length Two) }
  recalled (suc k) store name = record { number = suc k; part = [] }

  -- RECALLING
  unfoldable pub recall_answer : (store name : List ℕ) → RecallAnswer
  recall_answer store name = recalled (recall_number store name) store name

  -- What is handed back; that it is empty exactly where the recall is refused; and that it is "the part of the store" itself, no copy: it
  -- begins at the store's own byte where the image does.
  pub record HandsBack (store : Bor (List ℕ)) (name : List ℕ) (back : Bor (List ℕ)) : Type 0 where
    pub same : back.now ≡ (recall_answer store.now name).part
    pub empty : (back.now ≡ []) ↔ (recall_number store.now name ≡ 0 → ⊥)
    pub place : recall_number store.now name ≡ 0
        → back.ref_ptr ≡ (store.ref_ptr.0, store.ref_ptr.1 + image_at (M.image_length Two) (place_in store.now name))

-- what a search for an entry finds: its place where the number is 0, else why not
abbrev pub Finds : Result ℕ Refusal → (number place : ℕ) → Type 0
Finds (Ok i) number place = (number ≡ 0) × (place ≡ i)
Finds (Err why) number place = number ≡ refusal_number why
