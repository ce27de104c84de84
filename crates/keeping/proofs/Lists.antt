-- EVERY LIST of stores and recalls keeps the last image under each name, in the order first stored. Assumes nothing.
use mathlib.Core.Path.{◌≡◌, ◌∙◌, refl, sym, ap, ap₂, subst}
use mathlib.Core.Bool.{Bool, true, false, ◌||◌}
use mathlib.Core.List.{List, [], ◌∷◌, ◌++◌, map}
use mathlib.Core.Option.{none, some}
use Prim.Native.Nat.{ℕ, zero, suc, ◌+◌, ◌*◌, ◌≤◌, ◌<◌}
use native.Mathlib.Nat.{mul-le-mul_left}
use native.Mathlib.Omega.{arith}
use lib.Dec.{ltb}
use lib.ListN.{length, take, drop, length-append}
use borrow.Author.Tests.{ltb-true, ltb-false}
use Rattle.runs.specs.Machine.{Machine}
use Rattle.runs.specs.Refusals.{first_of, unless}
use Rattle.runs.specs.TwoRunners.{RestoreAnswer}
use Rattle.runs.specs.Laws.{ImageLaws}
use Rattle.runs.specs.Lists.{Each, run_answer, WrittenBy}
use Rattle.runs.proofs.Refusals.{first_is}
use Rattle.runs.proofs.Calls.{current_fit, restore-number, fit_restore, restore_same}
use Rattle.upd546.specs.Bytes.{part}
use Rattle.store.specs.Entries.{Entry, entry_bytes, place_of, entry_length, legal_name, well_formed}
use Rattle.store.specs.Answers.{StoreAnswer, place_in, judged_number, store_number, stored, store_answer, recall_number, recalled, recall_answer}
use Rattle.store.proofs.Answers.{judged_fit, store_fit, store_judged, store_image, stored_done, recall_place, recalled-done, entry_within}
use Rattle.keeping.specs.Lists.{Request, keep_under, recall_of, made_on, on_one_store, EveryListOnOneStoreIsMeant}
use Rattle.keeping.specs.Lists.{Call, keep, recall, sheet_of, lent_to, unless_refused, last_stored, first_stored, order_of, is_stored, put_in, entries_after}
use Rattle.keeping.specs.Lists.{refusal, document_number, leaves, not_refused, last, AllLent, image_length, empty_store, Meant, HandsBackTheLast, KeepsTheOthers, ChangesNothing, KeepsTheLast}
use Rattle.keeping.specs.Lists.{EveryListKeepsTheLast, SheetRefusesFirst, MalformedRefusesBeforeRoom}
use Rattle.keeping.proofs.Names.{lookup, names, place_order, last_lookup, first_names}
use Rattle.keeping.proofs.Book.{Holds, holds_none, holds_kept, holds_put, lookup_taken, next_recall, next_store, found_kept}
use Rattle.keeping.proofs.Replaced.{replaced_at, replaced_before, replaced_behind}

-- ONE CALL, on a store that holds these entries
module _ {S : Type 0} (M : Machine S) where
  pub stored_number : (store name image : List ℕ) → (store_answer M store name image).number ≡ store_number M store name image
  unfolding store_answer
  stored_number store name image = go (store_number M store name image)
    where
      go : (k : ℕ) → (stored M k store name image).number ≡ k
      go zero = refl
      go (suc k) = refl

  pub recalled-number : (store name : List ℕ) → (recall_answer M store name).number ≡ recall_number M store name
  unfolding recall_answer
  recalled-number store name = go (recall_number M store name)
    where
      go : (k : ℕ) → (recalled M k store name).number ≡ k
      go zero = refl
      go (suc k) = refl

-- the bytes of another entry stay
stays : (size : ℕ) (store x : List ℕ) (place i : ℕ) → size * place + size ≤ length store → length x ≡ size → (i ≡ place → ⊥)
    → part (take (size * place) store ++ x ++ drop (size * place + length x) store) (size * i) size ≡ part store (size * i) size
stays size store x place i within e other = go (ltb i place) refl
  where
    fits : size * place + length x ≤ length store
    fits = omega (arith, within, e)

    go : (t : Bool) → ltb i place ≡ t
        → part (take (size * place) store ++ x ++ drop (size * place + length x) store) (size * i) size ≡ part store (size * i) size
    go true p =
        let below : size * suc i ≤ size * place = mul-le-mul_left size (ltb-true i place p) in
        replaced_before store x (size * place) fits (size * i) size (omega (arith, below))
    go false p =
        let far : place < i = omega (arith, ltb-false i place p, other) in
        let above : size * suc place ≤ size * i = mul-le-mul_left size far in
        replaced_behind store x (size * place) fits (size * i) size (omega (arith, above, e))

-- the calls whose numbers are 0
abbrev pub sieve : {Sheet : Type 0} → List ℕ → List (Call Sheet) → List (Call Sheet)
sieve [] cs = []
sieve (k ∷ ks) [] = []
sieve (k ∷ ks) (c ∷ cs) = unless_refused k c (sieve ks cs)

-- LISTS THAT ARE JOINED
module _ {Sheet : Type 0} (P : Call Sheet → Type 0) where
  each_before : (before : List (Call Sheet)) (c : Call Sheet) (after : List (Call Sheet)) → Each P (before ++ c ∷ after) → Each P before
  each_before [] c after z = tt
  each_before (b ∷ before) c after z = (z.0, each_before before c after z.1)

  each_at : (before : List (Call Sheet)) (c : Call Sheet) (after : List (Call Sheet)) → Each P (before ++ c ∷ after) → P c
  each_at [] c after z = z.0
  each_at (b ∷ before) c after z = each_at before c after z.1

module _ {Sheet S : Type 0} (M : Sheet → Machine S) where
  lent_before : (held : List ℕ) (before : List (Call Sheet)) (c : Call Sheet) (after : List (Call Sheet)) → AllLent M held (before ++ c ∷ after)
      → AllLent M held before
  lent_before held [] c after z = tt
  lent_before held (b ∷ before) c after z = (z.0, lent_before (leaves M b) before c after z.1)

  lent_at : (held : List ℕ) (before : List (Call Sheet)) (c : Call Sheet) (after : List (Call Sheet)) → AllLent M held (before ++ c ∷ after)
      → lent_to c ≡ last M held before
  lent_at held [] c after z = z.0
  lent_at held (b ∷ before) c after z = lent_at (leaves M b) before c after z.1

  -- REFUSALS
  by_number : (c : Call Sheet) → refusal M c ≡ document_number M c
  by_number (keep store name image sheet) = stored_number (M sheet) store name image
  by_number (recall store name sheet) = recalled-number (M sheet) store name

  changes_nothing : (c : Call Sheet) (k : ℕ) → document_number M c ≡ k → ChangesNothing M k c
  unfolding store_answer recall_answer
  changes_nothing c zero e = tt
  changes_nothing (keep store name image sheet) (suc k) e = ap (λ (j : ℕ). stored (M sheet) j store name image) e
  changes_nothing (recall store name sheet) (suc k) e = ap (λ (j : ℕ). recalled (M sheet) j store name) e

  each_call : {P : Call Sheet → Type 0} → ((c : Call Sheet) → P c) → (cs : List (Call Sheet)) → Each P cs
  each_call f [] = tt
  each_call f (c ∷ cs) = (f c, each_call f cs)

  none_refused : (cs : List (Call Sheet)) → Each (λ c. refusal M c ≡ 0) (not_refused M cs)
  none_refused [] = tt
  none_refused (c ∷ cs) = go (refusal M c) refl (none_refused cs)
    where
      go : (k : ℕ) → refusal M c ≡ k → Each (λ c. refusal M c ≡ 0) (not_refused M cs) → Each (λ c. refusal M c ≡ 0) (unless_refused k c (not_refused M cs))
      go zero e ih = (e, ih)
      go (suc k) e ih = ih

  -- by the numbers of the calls alone
  pub sieved : (cs : List (Call Sheet)) (ks : List ℕ) → map (refusal M) cs ≡ ks → not_refused M cs ≡ sieve ks cs
  sieved cs ks e = go cs ∙ ap (λ (l : List ℕ). sieve l cs) e
    where
      go : (cs : List (Call Sheet)) → not_refused M cs ≡ sieve (map (refusal M) cs) cs
      go [] = refl
      go (c ∷ cs) = ap (unless_refused (refusal M c) c) (go cs)

  -- a refused call leaves its store
  leaves_alone : (c : Call Sheet) (k : ℕ) → refusal M c ≡ suc k → leaves M c ≡ lent_to c
  leaves_alone (keep store name image sheet) k e =
      ap (λ (a : StoreAnswer). a.store)
      (changes_nothing (keep store name image sheet) (suc k) (sym (by_number (keep store name image sheet)) ∙ e))
  leaves_alone (recall store name sheet) k e = refl

  made_lent : (held : List ℕ) (r : Request Sheet) → lent_to (made_on held r) ≡ held
  made_lent held (keep_under name image sheet) = refl
  made_lent held (recall_of name sheet) = refl

  one_store : (held : List ℕ) (rs : List (Request Sheet)) → AllLent M held (not_refused M (on_one_store M held rs))
  one_store held [] = tt
  one_store held (r ∷ rs) = go (refusal M (made_on held r)) refl (one_store (leaves M (made_on held r)) rs)
    where
      go : (k : ℕ) → refusal M (made_on held r) ≡ k
          → AllLent M (leaves M (made_on held r)) (not_refused M (on_one_store M (leaves M (made_on held r)) rs))
          → AllLent M held (unless_refused k (made_on held r) (not_refused M (on_one_store M (leaves M (made_on held r)) rs)))
      go zero e ih = (made_lent held r, ih)
      go (suc k) e ih =
          subst (λ (l : List ℕ). AllLent M l (not_refused M (on_one_store M (leaves M (made_on held r)) rs)))
          (leaves_alone (made_on held r) k e ∙ made_lent held r) ih

  pub on_one_store_lem : EveryListOnOneStoreIsMeant M
  on_one_store_lem sheet places rs one = record { one_sheet = one; given = one_store (empty_store M sheet places) rs }

  pub sheet_refuses_first : SheetRefusesFirst M
  unfolding store_number recall_number judged_number
  sheet_refuses_first (keep store name image sheet) k e =
      by_number (keep store name image sheet) ∙ first_is _ k _ (first_is (M sheet).own_number k _ e)
  sheet_refuses_first (recall store name sheet) k e =
      by_number (recall store name sheet) ∙ first_is _ k _ (first_is (M sheet).own_number k _ e)

  pub malformed_refuses_before_room : MalformedRefusesBeforeRoom M
  unfolding judged_number first_of
  malformed_refuses_before_room store name image sheet legal e =
      by_number (keep store name image sheet)
      ∙ go (well_formed (M sheet) store) (legal_name name) refl refl
    where
      go : (f n : Bool) → well_formed (M sheet) store ≡ f → legal_name name ≡ n → store_number (M sheet) store name image ≡ 51
      go false n p q = store_judged (M sheet) store name image 51 (rw (p, legal)) (λ (z : ◌≡◌ {A = ℕ} 51 0). omega arith)
      go true false p q = store_judged (M sheet) store name image 51 (rw (p, q, legal)) (λ (z : ◌≡◌ {A = ℕ} 51 0). omega arith)
      go true true p q = store_image (M sheet) store name image (rw (p, q, legal)) e

  -- THE STORE BEHIND CALLS
  module _ (sheet : Sheet) (places : ℕ) where
    put_behind : (es : List Entry) (store name image held : List ℕ) (sheet' : Sheet) → sheet' ≡ sheet → store ≡ held
        → (store_answer (M sheet') store name image).number ≡ 0 → Holds (M sheet) places held es
        → Holds (M sheet) places (store_answer (M sheet') store name image).store (put_in (record { name = name; image = image }) es)
    put_behind es store name image held sheet' e s z h =
        subst
        (λ (t : Sheet).
        (store_answer (M t) store name image).number ≡ 0
        → Holds (M sheet) places (store_answer (M t) store name image).store (put_in (record { name = name; image = image }) es))
        (sym e)
        (λ n.
        holds_put (M sheet) places store es (subst (λ (l : List ℕ). Holds (M sheet) places l es) (sym s) h) name image
        (sym (stored_number (M sheet) store name image) ∙ n))
        z

    holds_after : (held : List ℕ) (es : List Entry) (cs : List (Call Sheet)) → Each (λ c. sheet_of c ≡ sheet) cs → Each (λ c. refusal M c ≡ 0) cs
        → AllLent M held cs
        → Holds (M sheet) places held es
        → Holds (M sheet) places (last M held cs) (entries_after es cs)
    holds_after held es [] one fine lent h = h
    holds_after held es (keep store name image sheet' ∷ cs) one fine lent h =
        holds_after _ _ cs one.1 fine.1 lent.1 (put_behind es store name image held sheet' one.0 lent.0 fine.0 h)
    holds_after held es (recall store name sheet' ∷ cs) one fine lent h =
        holds_after store es cs one.1 fine.1 lent.1 (subst (λ (l : List ℕ). Holds (M sheet) places l es) (sym lent.0) h)

    -- a call behind others: what it is lent
    record Behind (before : List (Call Sheet)) (c : Call Sheet) : Type 0 where
      same_sheet : sheet_of c ≡ sheet
      fine : refusal M c ≡ 0
      holds : Holds (M sheet) places (lent_to c) (entries_after [] before)

    behind : (calls before after : List (Call Sheet)) (c : Call Sheet) → Meant M sheet places calls → not_refused M calls ≡ before ++ c ∷ after
        → Behind before c
    behind calls before after c m e =
        let one = subst (Each (λ c. sheet_of c ≡ sheet)) e m.one_sheet in
        let fine = subst (Each (λ c. refusal M c ≡ 0)) e (none_refused calls) in
        let lent = subst (AllLent M (empty_store M sheet places)) e m.given in
        let held = holds_after (empty_store M sheet places) [] before (each_before _ before c after one) (each_before _ before c after fine)
        (lent_before (empty_store M sheet places) before c after lent) (holds_none (M sheet) places) in
        record {
          same_sheet = each_at _ before c after one;
          fine = each_at _ before c after fine;
          holds = subst (λ (l : List ℕ). Holds (M sheet) places l (entries_after [] before)) (sym (lent_at (empty_store M sheet places) before c after lent)) held;
        }

    -- the place that the name has in the order first stored
    ordered : (before : List (Call Sheet)) (store name : List ℕ) → Holds (M sheet) places store (entries_after [] before)
        → place_in (M sheet) store name ≡ order_of name (first_stored [] before)
    ordered before store name h =
        ap (place_of name) (holds_kept (M sheet) places store (entries_after [] before) h)
        ∙ place_order name (entries_after [] before)
        ∙ ap (order_of name) (sym (first_names [] before))

    -- A RECALL
    module _ (images : (M sheet).own_number ≡ 0 → ImageLaws (M sheet)) where
      hands_back : (before : List (Call Sheet)) (store name : List ℕ) → Holds (M sheet) places store (entries_after [] before)
          → recall_number (M sheet) store name ≡ 0 → HandsBackTheLast M sheet before store name
      hands_back before store name h z =
          let es : List Entry = entries_after [] before in
          let back : List ℕ = (recall_answer (M sheet) store name).part in
          let found : lookup name es ≡ some back
          = ap (lookup name) (sym (holds_kept (M sheet) places store es h))
          ∙ found_kept (image_length M sheet) store name (recall_place (M sheet) store name z)
          ∙ ap some (recalled-done (M sheet) store name z) in
          let taken = current_fit (M sheet) back (lookup_taken (M sheet) name es h.sound back found) in
          let image : last_stored name none before ≡ some back = last_lookup name [] before ∙ found in
          record {
            image = image;
            place = ordered before store name h;
            restores = restore-number (M sheet) back ∙ fit_restore (M sheet) back taken.legal taken.accepted;
            runs = λ s kept e w kind rom sched log n.
                let same : kept ≡ back = cc in
                ap (λ (r : RestoreAnswer S). run_answer (M sheet) kind rom sched r.state log n)
                (restore_same (M sheet) (images taken.legal) taken.legal s back (subst (WrittenBy (M sheet) s) same w));
          }

    -- A STORE
    keeps_others : (before : List (Call Sheet)) (store name image : List ℕ) → Holds (M sheet) places store (entries_after [] before)
        → store_number (M sheet) store name image ≡ 0 → KeepsTheOthers M sheet before store name image
    keeps_others before store name image h z =
        let long : ℕ = image_length M sheet in
        let e : Entry = record { name = name; image = image } in
        let place : ℕ = place_in (M sheet) store name in
        let fit = store_fit (M sheet) store name image z in
        let within = entry_within long store place fit.room in
        let size : length (entry_bytes e) ≡ entry_length long
        = length-append name image ∙ ap₂ ◌+◌ (judged_fit (M sheet) store name fit.judged).eight (current_fit (M sheet) image fit.taken).long in
        let order = ordered before store name h in
        let at : ℕ = entry_length long * place in
        let left : (store_answer (M sheet) store name image).store ≡ take at store ++ entry_bytes e ++ drop (at + length (entry_bytes e)) store
        = sym (ap (λ (a : StoreAnswer). a.store) (stored_done (M sheet) store name image z))
        ∙ ap (λ (k : ℕ). take at store ++ entry_bytes e ++ drop (at + k) store) (sym size) in
        record {
          entry =
              ap (λ (l : List ℕ). part l (entry_length long * order_of name (first_stored [] before)) (entry_length long)) left
              ∙ ap₂ (λ (i k : ℕ). part (take at store ++ entry_bytes e ++ drop (at + length (entry_bytes e)) store) (entry_length long * i) k) (sym order) (sym size)
              ∙ replaced_at store (entry_bytes e) at (omega (arith, within, size));
          others = λ i other.
              ap (λ (l : List ℕ). part l (entry_length long * i) (entry_length long)) left
              ∙ stays (entry_length long) store (entry_bytes e) place i within size (λ (same : i ≡ place). other (same ∙ order));
        }

    keeps_the_last : ((M sheet).own_number ≡ 0 → ImageLaws (M sheet)) → (calls : List (Call Sheet)) → Meant M sheet places calls
        → KeepsTheLast M sheet places calls
    keeps_the_last images calls m = record {
      recalls = λ before after store name sheet' e.
          let b = behind calls before after (recall store name sheet') m e in
          hands_back images before store name b.holds
          (sym (recalled-number (M sheet) store name) ∙ ap (λ (t : Sheet). (recall_answer (M t) store name).number) (sym b.same_sheet) ∙ b.fine);
      stores = λ before after store name image sheet' e.
          let b = behind calls before after (keep store name image sheet') m e in
          keeps_others before store name image b.holds
          (sym (stored_number (M sheet) store name image) ∙ ap (λ (t : Sheet). (store_answer (M t) store name image).number) (sym b.same_sheet) ∙ b.fine);
      store = end.same;
      unchanged = each_call (λ c. changes_nothing c (refusal M c) (sym (by_number c))) calls;
      refusals = each_call by_number calls;
      goes_on = λ legal. record {
        next_recall = λ name e.
            next_recall (M sheet) places _ (entries_after [] (not_refused M calls)) end name legal e
            ∙ ap (λ (ns : List (List ℕ)). unless (is_stored name ns) 52) order;
        next_store = λ name image e f.
            next_store (M sheet) places _ (entries_after [] (not_refused M calls)) end name image legal e f
            ∙ ap (λ (ns : List (List ℕ)). unless (is_stored name ns || ltb (length ns) places) 53) order;
      };
    }
      where
        end : Holds (M sheet) places (last M (empty_store M sheet places) (not_refused M calls)) (entries_after [] (not_refused M calls))
        end =
            holds_after (empty_store M sheet places) [] (not_refused M calls) m.one_sheet (none_refused calls) m.given (holds_none (M sheet) places)

        order : names (entries_after [] (not_refused M calls)) ≡ first_stored [] (not_refused M calls)
        order = sym (first_names [] (not_refused M calls))

  pub lists_keep : ((sheet : Sheet) → (M sheet).own_number ≡ 0 → ImageLaws (M sheet)) → EveryListKeepsTheLast M
  lists_keep images sheet places calls m = keeps_the_last sheet places (images sheet) calls m
