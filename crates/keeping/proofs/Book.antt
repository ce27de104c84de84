-- A store that holds these entries and nothing else: how it is read, and what each call makes of it. Assumes nothing.
use mathlib.Core.Path.{◌≡◌, ◌∙◌, refl, sym, ap, ap₂, subst}
use mathlib.Core.Bool.{Bool, true, false, cond, ◌||◌}
use mathlib.Core.List.{List, [], ◌∷◌}
use mathlib.Core.Option.{some}
use Prim.Native.Nat.{ℕ, zero, suc, ◌+◌, ◌-◌, ◌*◌, ◌≤◌, ◌<◌}
use native.Mathlib.Nat.{sub-zero, zero-add}
use native.Mathlib.Omega.{arith}
use lib.Dec.{ltb}
use lib.ListN.{length, replicate}
use borrow.Author.Tests.{eq-eqb}
use Rattle.runs.specs.declared.Version.TheVariants.{Two}
use Rattle.runs.specs.Machine.{Machine}
use Rattle.runs.specs.Refusals.{unless}
use Rattle.runs.specs.TwoRunners.{current_number}
use Rattle.runs.specs.Lists.{Each}
use Rattle.runs.proofs.Refusals.{first_past, last_one}
use Rattle.runs.proofs.Calls.{current_fit}
use Rattle.upd546.specs.Bytes.{part}
use Rattle.upd546.specs.Sequences.{same_numbers}
use Rattle.store.specs.Entries.{name_length, zero_name, legal_name, Entry, place_of, known, distinct, entry_length, capacity, kept, image_at, with_entry}
use Rattle.store.specs.Entries.{kept_in, accepted, all_accepted, well_formed}
use Rattle.store.specs.Answers.{StoreAnswer, judged_number, store_number, store_answer, recall_number}
use Rattle.keeping.proofs.Spans.{span, span_cons, span_all, length-span, kept_entries}
use Rattle.store.proofs.Answers.{by_images, judged_none, judged_fit, store_fit, stored_done}
use Rattle.keeping.specs.Lists.{is_stored, put_in, laid_out}
use Rattle.keeping.proofs.Names.{lookup, distinct-put, put_most, names, length-names, known_stored}
use Rattle.keeping.proofs.Laid.{Sized, capacity-laid, whole_laid, kept_laid, tail_laid, laid_put}

module _ {S : Type 0} (M : Machine S) where
  -- an entry that a well-formed store may hold
  pub record Sound (e : Entry) : Type 0 where
    pub eight : length e.name ≡ name_length
    pub named : zero_name e.name ≡ false
    pub taken : current_number M e.image ≡ 0

  sized : (es : List Entry) → Each Sound es → Each (Sized (M.image_length Two)) es
  sized [] z = tt
  sized (e ∷ es) z = (record { eight = z.0.eight; whole = (current_fit M e.image z.0.taken).long }, sized es z.1)

  named : (es : List Entry) → Each Sound es → Each (λ e. zero_name e.name ≡ false) es
  named [] z = tt
  named (e ∷ es) z = (z.0.named, named es z.1)

  all_taken : (es : List Entry) → Each Sound es → all_accepted M es ≡ true
  all_taken [] z = refl
  all_taken (e ∷ es) z = rw (eq-eqb (current_number M e.image) 0 z.0.taken) (all_taken es z.1)

  sound_put : (e : Entry) (es : List Entry) → Sound e → Each Sound es → Each Sound (put_in e es)
  sound_put e [] s z = (s, tt)
  sound_put e (x ∷ es) s z = go (same_numbers e.name x.name) (sound_put e es s z.1)
    where
      go : (t : Bool) → Each Sound (put_in e es) → Each Sound (cond t (e ∷ es) (x ∷ put_in e es))
      go true ih = (s, z.1)
      go false ih = (z.0, ih)

  -- what stands under a name is taken
  pub lookup_taken : (name : List ℕ) (es : List Entry) → Each Sound es → (image : List ℕ) → lookup name es ≡ some image → current_number M image ≡ 0
  lookup_taken name [] z image e = cc
  lookup_taken name (x ∷ es) z image e = go (same_numbers name x.name) e (lookup_taken name es z.1 image)
    where
      go : (t : Bool) → cond t (some x.image) (lookup name es) ≡ some image → (lookup name es ≡ some image → current_number M image ≡ 0)
          → current_number M image ≡ 0
      go true p ih =
          let same : x.image ≡ image = cc in
          subst (λ (l : List ℕ). current_number M l ≡ 0) same z.0.taken
      go false p ih = ih p

  -- THE STORE HOLDS THESE ENTRIES
  pub record Holds (places : ℕ) (store : List ℕ) (es : List Entry) : Type 0 where
    pub same : store ≡ laid_out (M.image_length Two) places es
    pub sound : Each Sound es
    pub apart : distinct es ≡ true
    pub few : length es ≤ places

  pub holds_none : (places : ℕ) → Holds places (replicate (entry_length (M.image_length Two) * places) 0) []
  holds_none places = record {
    same = ap (λ (k : ℕ). replicate (entry_length (M.image_length Two) * k) 0) (sym (sub-zero places));
    sound = tt;
    apart = refl;
    few = omega arith;
  }

  module _ (places : ℕ) (store : List ℕ) (es : List Entry) (h : Holds places store es) where
    pub holds_kept : kept_in M store ≡ es
    holds_kept =
        ap (kept (M.image_length Two)) h.same
        ∙ kept_laid (M.image_length Two) places es (sized es h.sound) h.few (named es h.sound)

    pub holds_capacity : capacity (M.image_length Two) store ≡ places
    holds_capacity =
        ap (capacity (M.image_length Two)) h.same ∙ capacity-laid (M.image_length Two) places es (sized es h.sound) h.few

    holds_form : well_formed M store ≡ true
    holds_form =
        let laid = laid_out (M.image_length Two) places es in
        let all = kept_laid (M.image_length Two) places es (sized es h.sound) h.few (named es h.sound) in
        ap (well_formed M) h.same
        ∙ sym
        (by_images M laid (whole_laid (M.image_length Two) places es (sized es h.sound) h.few)
        (tail_laid (M.image_length Two) places es (sized es h.sound) h.few all) (ap distinct all ∙ h.apart))
        ∙ ap (all_accepted M) all
        ∙ all_taken es h.sound

    holds_judged : (name : List ℕ) → M.own_number ≡ 0 → legal_name name ≡ true → judged_number M store name ≡ 0
    holds_judged name legal e = sym (judged_none M store name legal holds_form e)

    -- WHAT NEXT CALLS ARE REFUSED BY
    pub next_recall : (name : List ℕ) → M.own_number ≡ 0 → legal_name name ≡ true → recall_number M store name ≡ unless (is_stored name (names es)) 52
    unfolding recall_number
    next_recall name legal e =
        first_past (judged_number M store name) _ (holds_judged name legal e)
        ∙ last_one _
        ∙ ap (λ (t : Bool). unless t 52) (ap (known name) holds_kept ∙ known_stored name es)

    pub next_store : (name image : List ℕ) → M.own_number ≡ 0 → legal_name name ≡ true → accepted M image ≡ true
        → store_number M store name image ≡ unless (is_stored name (names es) || ltb (length (names es)) places) 53
    unfolding store_number
    next_store name image legal e taken =
        let room : ltb (length (kept_in M store)) (capacity (M.image_length Two) store) ≡ ltb (length (names es)) places
        = ap₂ ltb (ap length holds_kept ∙ sym (length-names es)) holds_capacity in
        first_past (judged_number M store name) _ (holds_judged name legal e)
        ∙ first_past (unless (accepted M image) 51) _ (ap (λ (t : Bool). unless t 51) taken)
        ∙ last_one _
        ∙ ap₂ (λ (t u : Bool). unless (t || u) 53) (ap (known name) holds_kept ∙ known_stored name es) room

    -- A STORE
    pub holds_put : (name image : List ℕ) → store_number M store name image ≡ 0
        → Holds places (store_answer M store name image).store (put_in (record { name = name; image = image }) es)
    holds_put name image z =
        let e : Entry = record { name = name; image = image } in
        let fit = store_fit M store name image z in
        let judged = judged_fit M store name fit.judged in
        let place : place_of name (kept_in M store) ≡ place_of name es = ap (place_of name) holds_kept in
        let room : place_of name es < places = omega (arith, fit.room, place, holds_capacity) in
        record {
          same =
              sym (ap (λ (a : StoreAnswer). a.store) (stored_done M store name image z))
              ∙ ap₂ (λ (i : ℕ) (l : List ℕ). with_entry (M.image_length Two) i e l) place h.same
              ∙ laid_put (M.image_length Two) e es places (sized es h.sound) room h.few;
          sound = sound_put e es (record { eight = judged.eight; named = judged.not_zero; taken = fit.taken }) h.sound;
          apart = distinct-put e es h.apart;
          few = put_most e es places room h.few;
        }

-- WHAT A RECALL HANDS BACK stands under its name
module _ (long : ℕ) (store : List ℕ) (name : List ℕ) where
  found_in : (n i to : ℕ) → to - i ≡ n → place_of name (span long store i to) < length (span long store i to)
      → lookup name (span long store i to) ≡ some (part store (image_at long (i + place_of name (span long store i to))) long)
  found_in zero i to e h = absurd (omega (arith, length-span long store i to, h))
  found_in (suc n) i to e h =
      subst
      (λ (es : List Entry). place_of name es < length es → lookup name es ≡ some (part store (image_at long (i + place_of name es)) long))
      (sym (span_cons long store i to (omega arith))) (go (same_numbers name (part store (entry_length long * i) name_length)) (found_in n (i + 1) to (omega arith))) h
    where
      rest : List Entry
      rest = span long store (i + 1) to

      go : (t : Bool) → (place_of name rest < length rest → lookup name rest ≡ some (part store (image_at long (i + 1 + place_of name rest)) long))
          → cond t 0 (suc (place_of name rest)) < suc (length rest)
          → cond t (some (part store (image_at long i) long)) (lookup name rest) ≡ some (part store (image_at long (i + cond t 0 (suc (place_of name rest)))) long)
      go true ih h =
          let here : i ≡ i + 0 = omega arith in
          ap (λ (k : ℕ). some (part store (image_at long k) long)) here
      go false ih h =
          let there : i + 1 + place_of name rest ≡ i + suc (place_of name rest) = omega arith in
          ih (omega arith) ∙ ap (λ (k : ℕ). some (part store (image_at long k) long)) there

  pub found_kept : place_of name (kept long store) < length (kept long store)
      → lookup name (kept long store) ≡ some (part store (image_at long (place_of name (kept long store))) long)
  found_kept =
      let used = length (kept long store) in
      let all : span long store 0 used ≡ kept long store = span_all long store used ∙ kept_entries long store used refl in
      subst
      (λ (es : List Entry). place_of name es < length es → lookup name es ≡ some (part store (image_at long (place_of name es)) long)) all
      (λ h. found_in used 0 used (omega arith) h ∙ ap (λ (k : ℕ). some (part store (image_at long k) long)) (zero-add _))
