-- The items of a ROM, one after the other. Assumes nothing.
use mathlib.Core.Path.{◌≡◌, ◌∙◌, refl, ap}
use mathlib.Core.Bool.{Bool, true, false, cond, ◌&&◌, ◌||◌}
use mathlib.Core.List.{List, [], ◌∷◌}
use Prim.Native.Nat.{ℕ, suc, ◌+◌, ◌<◌, ◌≤◌}
use native.Mathlib.Numerals.{add-one}
use native.Mathlib.Omega.{arith}
use lib.Dec.{eqb}
use lib.ListN.{length, get_or, drop, drop_of_length-le}
use lib.Seq.{drop-cons, drop-drop}
use Rattle.std.specs.List.{list_any}
use Rattle.mnemonics.specs.Mnemonics.{leads_for, long_for}
use Rattle.listing.specs.Listing.{Item, item_at, items_from, led_to, begins, target}

-- those behind an item: its second byte is passed over
passed : (b : Bool) (at : ℕ) (rest : List ℕ) → items_from b (suc at) rest ≡ items_from false (at + cond b 2 1) (drop (cond b 1 0) rest)
unfolding items_from
passed false at rest = rw (add-one at)
passed true at [] = refl
passed true at (s ∷ rest) = let e : suc (suc at) ≡ at + 2 = omega arith in rw e

opened : (at c : ℕ) (rest : List ℕ) → items_from false at (c ∷ rest) ≡ item_at at c rest ∷ items_from (long_for (item_at at c rest).kind) (suc at) rest
unfolding items_from
opened at c rest = refl

module _ (rom : List ℕ) where
  -- those from an address on
  abbrev pub from : ℕ → List Item
  from at = items_from false at (drop at rom)

  abbrev pub item : ℕ → Item
  item at = item_at at (get_or rom at 0) (drop (at + 1) rom)

  abbrev pub step : Item → ℕ
  step i = cond (long_for i.kind) 2 1

  pub next_item : (at : ℕ) → at < length rom → from at ≡ item at ∷ from (at + step (item at))
  next_item at h =
      rw (add-one at)
      (ap (items_from false at) (drop-cons rom at 0 h)
      ∙ opened at (get_or rom at 0) (drop (suc at) rom)
      ∙ ap (λ (is : List Item). i ∷ is) (passed (long_for i.kind) at (drop (suc at) rom) ∙ ap (items_from false (at + step i)) (shifted (long_for i.kind))))
    where
      i : Item
      i = item_at at (get_or rom at 0) (drop (suc at) rom)

      shifted : (b : Bool) → drop (cond b 1 0) (drop (suc at) rom) ≡ drop (at + cond b 2 1) rom
      shifted false = let e : suc at ≡ at + 1 = omega arith in ap (λ (k : ℕ). drop k rom) e
      shifted true = let e : suc at + 1 ≡ at + 2 = omega arith in drop-drop 1 (suc at) rom ∙ ap (λ (k : ℕ). drop k rom) e

  pub no_items : (at : ℕ) → length rom ≤ at → from at ≡ []
  unfolding items_from
  no_items at h = rw (drop_of_length-le rom {i = at} h)

-- WHAT IS ASKED OF ALL ITEMS

pub led_is : (is : List Item) (a : ℕ) → list_any (λ (i : Item). leads_for i.kind && eqb (target i) a) is ≡ led_to is a
unfolding led_to
led_is [] a = refl
led_is (i ∷ is) a = ap (λ (b : Bool). (leads_for i.kind && eqb (target i) a) || b) (led_is is a)

pub begins_is : (is : List Item) (a : ℕ) → list_any (λ (i : Item). eqb i.at a) is ≡ begins is a
unfolding begins
begins_is [] a = refl
begins_is (i ∷ is) a = ap (λ (b : Bool). eqb i.at a || b) (begins_is is a)

-- there are no more items than bytes
pub few_items : (over : Bool) (at : ℕ) (rest : List ℕ) → length (items_from over at rest) ≤ length rest
unfolding items_from
few_items over at [] = omega arith
few_items true at (c ∷ rest) = omega (arith, few_items false (suc at) rest)
few_items false at (c ∷ rest) = omega (arith, few_items (long_for (item_at at c rest).kind) (suc at) rest)
