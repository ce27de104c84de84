-- Well-formed or not, and what either call answers, case by case. Assumes nothing.
use mathlib.Core.Path.{◌≡◌, ◌∙◌, refl, sym, ap}
use mathlib.Core.Bool.{Bool, true, false, not, ◌||◌, and-true}
use mathlib.Core.List.{List, []}
use Prim.Native.Nat.{ℕ, zero, suc, ◌+◌, ◌*◌, ◌%◌, ◌<◌, ◌≤◌}
use native.Mathlib.Nat.{mul-le-mul_left, mul-div-le}
use native.Mathlib.Omega.{arith}
use lib.Dec.{eqb, ltb}
use lib.ListN.{length}
use borrow.Author.Tests.{eq-eqb, ne_eqb, eqb-true, lt-ltb, le-ltb, ltb-true, ltb-false, not-true}
use Rattle.std.specs.Prelude.{Result, Ok, Err}
use Rattle.std.specs.Result.{is_ok}
use Rattle.runs.specs.declared.Refusal.{Refusal}
use Rattle.runs.specs.Numbers.{refusal_number, outcome_number}
use Rattle.runs.specs.declared.Version.TheVariants.{Two}
use Rattle.runs.specs.Machine.{Machine}
use Rattle.runs.specs.Refusals.{first_of}
use Rattle.runs.specs.TwoRunners.{current_number}
use Rattle.runs.proofs.Refusals.{first_at, passes, refusal-some}
use Rattle.upd546.specs.Bytes.{part}
use Rattle.upd546.specs.Sequences.{all_of, all_below}
use Rattle.laws.proofs.Lists.{and_left, and_right}
use Rattle.laws.proofs.Parts.{length_part}
use Rattle.store.specs.Entries.{name_length, zero_name, legal_name, known, distinct, entry_length, capacity, tail_of, image_at, with_entry}
use Rattle.store.specs.Entries.{kept_in, accepted, all_accepted, well_formed}
use Rattle.store.specs.Answers.{place_in, judged_number, store_number, stored, store_answer, recall_number, recalled, recall_answer}
use Rattle.store.proofs.Entries.{place_most, kept_most}

module _ {S : Type 0} (M : Machine S) (store : List ℕ) where
  -- WELL-FORMED OR NOT, test by test
  pub odd_length : (length store % entry_length (M.image_length Two) ≡ 0 → ⊥) → false ≡ well_formed M store
  unfolding well_formed all_of
  odd_length h = rw (ne_eqb (length store % entry_length (M.image_length Two)) 0 h)

  module _ (whole : length store % entry_length (M.image_length Two) ≡ 0) where
    pub tail_used : all_below 1 (tail_of (M.image_length Two) store) ≡ false → false ≡ well_formed M store
    unfolding well_formed all_of
    tail_used h = rw (eq-eqb (length store % entry_length (M.image_length Two)) 0 whole, h)

    module _ (tail : all_below 1 (tail_of (M.image_length Two) store) ≡ true) where
      pub name_twice : distinct (kept_in M store) ≡ false → false ≡ well_formed M store
      unfolding well_formed all_of
      name_twice h = rw (eq-eqb (length store % entry_length (M.image_length Two)) 0 whole, tail, h)

      pub by_images : distinct (kept_in M store) ≡ true → all_accepted M (kept_in M store) ≡ well_formed M store
      unfolding well_formed all_of
      by_images h = rw (eq-eqb (length store % entry_length (M.image_length Two)) 0 whole, tail, h, and-true)

  -- WHAT REFUSES EITHER CALL
  module _ (name : List ℕ) where
    pub judged_own : (k : ℕ) → k ≡ M.own_number → (k ≡ 0 → ⊥) → k ≡ judged_number M store name
    unfolding judged_number first_of
    judged_own zero e h = absurd (h refl)
    judged_own (suc k) e h = rw (← e)

    module _ (legal : M.own_number ≡ 0) where
      pub judged_store : well_formed M store ≡ false → 51 ≡ judged_number M store name
      unfolding judged_number first_of
      judged_store h = rw (h, legal)

      pub judged_name : well_formed M store ≡ true → legal_name name ≡ false → 51 ≡ judged_number M store name
      unfolding judged_number first_of
      judged_name h g = rw (h, g, legal)

      pub judged_none : well_formed M store ≡ true → legal_name name ≡ true → 0 ≡ judged_number M store name
      unfolding judged_number first_of
      judged_none h g = rw (h, g, legal)

    -- WHAT REFUSES A RECALL
    pub recall_judged : (k : ℕ) → judged_number M store name ≡ k → (k ≡ 0 → ⊥) → recall_number M store name ≡ k
    unfolding recall_number first_of
    recall_judged zero e h = absurd (h refl)
    recall_judged (suc k) e h = rw e

    module _ (judged : judged_number M store name ≡ 0) where
      pub recall_unknown : place_in M store name ≡ length (kept_in M store) → recall_number M store name ≡ 52
      unfolding recall_number first_of
      recall_unknown e = rw (judged, le-ltb (place_in M store name) (length (kept_in M store)) (omega arith))

      pub recall_known : (place_in M store name ≡ length (kept_in M store) → ⊥) → recall_number M store name ≡ 0
      unfolding recall_number first_of
      recall_known h =
          let place = place_most name (kept_in M store) in
          rw (judged, lt-ltb (place_in M store name) (length (kept_in M store)) (omega (arith, place, h)))

    -- a recall that isn't refused finds its entry among the used ones
    pub recall_place : recall_number M store name ≡ 0 → place_in M store name < length (kept_in M store)
    unfolding recall_number
    recall_place e = ltb-true _ _ (passes (known name (kept_in M store)) 52 refl (first_at _ e 1))

    -- WHAT REFUSES A STORE
    module _ (image : List ℕ) where
      pub store_judged : (k : ℕ) → judged_number M store name ≡ k → (k ≡ 0 → ⊥) → store_number M store name image ≡ k
      unfolding store_number first_of
      store_judged zero e h = absurd (h refl)
      store_judged (suc k) e h = rw e

      module _ (judged : judged_number M store name ≡ 0) where
        pub store_image : accepted M image ≡ false → store_number M store name image ≡ 51
        unfolding store_number first_of
        store_image e = rw (judged, e)

        module _ (taken : accepted M image ≡ true) where
          -- there is an entry for the name where its place is below the capacity
          room : Bool
          room = known name (kept_in M store) || ltb (length (kept_in M store)) (capacity (M.image_length Two) store)

          no_room : place_in M store name ≡ capacity (M.image_length Two) store → room ≡ false
          unfolding room
          no_room e =
              let place = place_most name (kept_in M store) in
              let most = kept_most (M.image_length Two) store in
              rw (
                le-ltb (place_in M store name) (length (kept_in M store)) (omega (arith, e, place, most)),
                le-ltb (length (kept_in M store)) (capacity (M.image_length Two) store) (omega (arith, e, place, most)),
              )

          some_room : (place_in M store name ≡ capacity (M.image_length Two) store → ⊥) → room ≡ true
          unfolding room
          some_room h = go (known name (kept_in M store)) refl
            where
              go : (t : Bool) → known name (kept_in M store) ≡ t → (t || ltb (length (kept_in M store)) (capacity (M.image_length Two) store)) ≡ true
              go true e = refl
              go false e =
                  let place = place_most name (kept_in M store) in
                  let most = kept_most (M.image_length Two) store in
                  let above = ltb-false (place_in M store name) (length (kept_in M store)) e in
                  lt-ltb (length (kept_in M store)) (capacity (M.image_length Two) store) (omega (arith, h, place, most, above))

          pub store_full : place_in M store name ≡ capacity (M.image_length Two) store → store_number M store name image ≡ 53
          unfolding store_number first_of room
          store_full e = rw (judged, taken, no_room e)

          pub store_room : (place_in M store name ≡ capacity (M.image_length Two) store → ⊥) → store_number M store name image ≡ 0
          unfolding store_number first_of room
          store_room h = rw (judged, taken, some_room h)

-- what has no number is done
pub done_number : (r : Result (Unit {0}) Refusal) → is_ok r ≡ eqb (outcome_number r) 0
done_number (Ok u) = refl
done_number (Err why) = sym (ne_eqb (refusal_number why) 0 (refusal-some why))

-- A STORE THAT ISN'T REFUSED

-- what is known of the store, the name and the image
pub record Judged {S : Type 0} (M : Machine S) (store name : List ℕ) : Type 0 where
  pub legal : M.own_number ≡ 0
  pub form : well_formed M store ≡ true
  pub eight : length name ≡ name_length
  pub not_zero : zero_name name ≡ false

pub judged_fit : {S : Type 0} (M : Machine S) (store name : List ℕ) → judged_number M store name ≡ 0 → Judged M store name
unfolding judged_number
judged_fit M store name e =
    let named : legal_name name ≡ true = passes (legal_name name) 51 refl (first_at _ e 2) in
    record {
      legal = first_at _ e 0;
      form = passes (well_formed M store) 51 refl (first_at _ e 1);
      eight = eqb-true (length name) name_length (and_left (eqb (length name) name_length) (not (zero_name name)) named);
      not_zero = not-true (zero_name name) (and_right (eqb (length name) name_length) (not (zero_name name)) named);
    }

pub record Storable {S : Type 0} (M : Machine S) (store name image : List ℕ) : Type 0 where
  pub judged : judged_number M store name ≡ 0
  pub taken : current_number M image ≡ 0
  pub room : place_in M store name < capacity (M.image_length Two) store

pub store_fit : {S : Type 0} (M : Machine S) (store name image : List ℕ) → store_number M store name image ≡ 0 → Storable M store name image
unfolding store_number
store_fit M store name image e = record {
  judged = first_at _ e 0;
  taken = eqb-true (current_number M image) 0 (passes (accepted M image) 51 refl (first_at _ e 1));
  room = go (known name (kept_in M store)) refl (passes _ 53 refl (first_at _ e 2));
}
  where
    go : (t : Bool) → known name (kept_in M store) ≡ t → (t || ltb (length (kept_in M store)) (capacity (M.image_length Two) store)) ≡ true
        → place_in M store name < capacity (M.image_length Two) store
    go true e f =
        let most = kept_most (M.image_length Two) store in
        omega (arith, most, ltb-true (place_in M store name) (length (kept_in M store)) e)
    go false e f =
        let place = place_most name (kept_in M store) in
        omega (arith, place, ltb-true (length (kept_in M store)) (capacity (M.image_length Two) store) f)

-- an entry below the capacity lies within the store
pub entry_within : (long : ℕ) (store : List ℕ) (i : ℕ) → i < capacity long store → entry_length long * i + entry_length long ≤ length store
entry_within long store i h = omega (arith, mul-le-mul_left (entry_length long) h, mul-div-le (length store) (entry_length long))

-- THE ANSWERS
module _ {S : Type 0} (M : Machine S) (store name : List ℕ) where
  pub stored_refused : (image : List ℕ) (k : ℕ) → (k ≡ 0 → ⊥) → store_number M store name image ≡ k → record { number = k; store = store } ≡ store_answer M store name image
  unfolding store_answer
  stored_refused image zero h e = absurd (h refl)
  stored_refused image (suc k) h e = ap (λ (j : ℕ). stored M j store name image) (sym e)

  pub stored_done : (image : List ℕ) → store_number M store name image ≡ 0
      → record { number = 0; store = with_entry (M.image_length Two) (place_in M store name) (record { name = name; image = image }) store } ≡ store_answer M store name image
  unfolding store_answer
  stored_done image e = ap (λ (j : ℕ). stored M j store name image) (sym e)

  pub recalled-refused : (k : ℕ) → (k ≡ 0 → ⊥) → recall_number M store name ≡ k → [] ≡ (recall_answer M store name).part
  unfolding recall_answer
  recalled-refused zero h e = absurd (h refl)
  recalled-refused (suc k) h e = ap (λ (j : ℕ). (recalled M j store name).part) (sym e)

  pub recalled-done : recall_number M store name ≡ 0
      → part store (image_at (M.image_length Two) (place_in M store name)) (M.image_length Two) ≡ (recall_answer M store name).part
  unfolding recall_answer
  recalled-done e = ap (λ (j : ℕ). (recalled M j store name).part) (sym e)

  -- a part that is handed back has an image's length
  pub recalled-length : recall_number M store name ≡ 0 → length (recall_answer M store name).part ≡ M.image_length Two
  recalled-length e =
      let place : place_in M store name < capacity (M.image_length Two) store
      = omega (arith, recall_place M store name e, kept_most (M.image_length Two) store) in
      let within = entry_within (M.image_length Two) store (place_in M store name) place in
      sym (ap length (recalled-done e))
      ∙ length_part store (image_at (M.image_length Two) (place_in M store name)) (M.image_length Two) (omega (arith, within))
