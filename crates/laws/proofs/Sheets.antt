-- What a legal sheet says; that a store leaves the words of absent rows as they are; that zeros are zeros of whatever is absent. Assumes
-- nothing.
use mathlib.Core.Path.{◌≡◌, ◌∙◌, refl, sym, ap, subst}
use mathlib.Core.Bool.{Bool, true, false, true≢false, cond, ◌&&◌, ◌||◌}
use mathlib.Core.List.{List, [], ◌∷◌}
use Prim.Native.Nat.{ℕ, zero, suc, ◌+◌, ◌-◌, ◌*◌, ◌/◌, ◌%◌, ◌<◌, ◌≤◌}
use native.Mathlib.Omega.{arith}
use lib.Dec.{eqb, ltb}
use lib.ListN.{length, get_or, set, take, drop}
use lib.Seq.{take-set-le, drop-set-lt, drop-set-add}
use borrow.Author.Tests.{eqb-true, leb-true, ltb-true, ltb-false}
use Rattle.runs.proofs.Refusals.{passes}
use Rattle.upd546.specs.declared.Sheet.{Sheet}
use Rattle.upd546.specs.TheSheet.{legal, sheet_number, row_exists}
use Rattle.upd546.specs.TheMachine.{rom_length, stack_depth, stored_rows, ram_length, index_in, place_of, place_in, with_word}
use Rattle.upd546.specs.Bytes.{part}
use Rattle.upd546.specs.Sequences.{all_below}
use Rattle.upd546.specs.StateImage.{levels_zero, rows_zero}
use Rattle.laws.specs.Writes.{All, none, ◌▹◌}
use Rattle.laws.proofs.Lists.{and_left, and_right, all_at}

-- A LEGAL SHEET

pub record Legal (sheet : Sheet) : Type 0 where
  pub rom_some : 1 ≤ sheet.rom
  pub rom_most : sheet.rom ≤ rom_length
  pub rows : sheet.rows ≤ 31
  pub level_some : 1 ≤ sheet.levels
  pub level_most : sheet.levels ≤ stack_depth

pub legal_sheet : (sheet : Sheet) → sheet_number sheet ≡ 0 → Legal sheet
unfolding sheet_number legal
legal_sheet sheet e =
    let t = all_at _ (passes (legal sheet) 71 refl e) in
    record {
      rom_some = leb-true _ _ (t 0);
      rom_most = leb-true _ _ (t 1);
      rows = leb-true _ _ (t 2);
      level_some = leb-true _ _ (t 3);
      level_most = leb-true _ _ (t 4);
    }

-- A STORE

-- the words of a part before and behind which it is
part_before : (l : List ℕ) (at n p v : ℕ) → p < at → part (set l p v) at n ≡ part l at n
part_before l at n p v h = ap (take n) (drop-set-lt at l p v h)

part_behind : (l : List ℕ) (at n p v : ℕ) → at + n ≤ p → part (set l p v) at n ≡ part l at n
part_behind l at n p v h =
    let e : at + (p - at) ≡ p = omega arith in
    let d : drop at (set l p v) ≡ set (drop at l) (p - at) v
    = subst (λ (k : ℕ). drop at (set l k v) ≡ set (drop at l) (p - at) v) e (drop-set-add at l (p - at) v) in
    ap (take n) d ∙ take-set-le n (drop at l) (p - at) v (omega arith)

-- what stands in a list of rows at a row's index is that row
index_at : (xs : List ℕ) (q k : ℕ) → index_in xs q ≡ k → k < length xs → get_or xs k 0 ≡ q
index_at [] q k e h = absurd (omega arith)
index_at (x ∷ xs) q k e h = go (eqb x q) refl k e h (index_at xs q)
  where
    go : (b : Bool) → eqb x q ≡ b → (k : ℕ) → cond b 0 (suc (index_in xs q)) ≡ k → k < length (x ∷ xs)
        → ((j : ℕ) → index_in xs q ≡ j → j < length xs → get_or xs j 0 ≡ q) → get_or (x ∷ xs) k 0 ≡ q
    go true f zero e h ih = eqb-true x q f
    go true f (suc k) e h ih = absurd (omega (arith, e))
    go false f zero e h ih = absurd (omega (arith, e))
    go false f (suc k) e h ih = ih k (omega (arith, e)) (omega arith)

module _ (sheet : Sheet) (ram : List ℕ) (a v : ℕ) where
  -- the words of a row that doesn't exist, one of rows 0 to 4
  row_apart : (r : ℕ) → r < 5 → get_or stored_rows r 0 ≡ r → row_exists sheet r ≡ false
      → part (with_word sheet ram a v) (16 * r) 16 ≡ part ram (16 * r) 16
  unfolding place_in place_of
  row_apart r h g absent = go (row_exists sheet (a / 16)) refl
    where
      other : (i : ℕ) → index_in stored_rows (a / 16) ≡ i → row_exists sheet (a / 16) ≡ true → i ≡ r → ⊥
      other i f q e =
          let same : r ≡ a / 16 = sym g ∙ index_at stored_rows (a / 16) r (f ∙ e) (omega arith) in
          true≢false (sym q ∙ ap (row_exists sheet) (sym same) ∙ absent)

      apart : (i : ℕ) (b : Bool) → ltb i r ≡ b → (i ≡ r → ⊥) → part (set ram (16 * i + a % 16) v) (16 * r) 16 ≡ part ram (16 * r) 16
      apart i true q n = let l = ltb-true i r q in part_before ram (16 * r) 16 (16 * i + a % 16) v (omega arith)
      apart i false q n = let l = ltb-false i r q in part_behind ram (16 * r) 16 (16 * i + a % 16) v (omega arith)

      go : (b : Bool) → row_exists sheet (a / 16) ≡ b
          → part (set ram (cond b (16 * index_in stored_rows (a / 16) + a % 16) (ram_length + a % 16)) v) (16 * r) 16 ≡ part ram (16 * r) 16
      go true q = let i = index_in stored_rows (a / 16) in apart i (ltb i r) refl (other i refl q)
      go false q = part_behind ram (16 * r) 16 (ram_length + a % 16) v (omega arith)

  and_both : (x y : Bool) → x ≡ true → y ≡ true → (x && y) ≡ true
  and_both x y e f = rw (e, f)

  rows_same : (ram' : List ℕ) (rs : List ℕ)
      → All (λ r. row_exists sheet r ≡ false → part ram' (place_of (16 * r)) 16 ≡ part ram (place_of (16 * r)) 16) rs
      → rows_zero sheet rs ram ≡ true → rows_zero sheet rs ram' ≡ true
  rows_same ram' [] none e = refl
  rows_same ram' (r ∷ rs) (p ▹ ps) e =
      let here = row_exists sheet r || all_below 1 (part ram (place_of (16 * r)) 16) in
      and_both (row_exists sheet r || all_below 1 (part ram' (place_of (16 * r)) 16)) (rows_zero sheet rs ram')
      (go (row_exists sheet r) refl (and_left here (rows_zero sheet rs ram) e))
      (rows_same ram' rs ps (and_right here (rows_zero sheet rs ram) e))
    where
      go : (b : Bool) → row_exists sheet r ≡ b → (row_exists sheet r || all_below 1 (part ram (place_of (16 * r)) 16)) ≡ true
          → (row_exists sheet r || all_below 1 (part ram' (place_of (16 * r)) 16)) ≡ true
      go true q h = rw q refl
      go false q h = rw (p q) h

  -- THE LAW: where they are zero, they stay so
  pub rows_keep : rows_zero sheet stored_rows ram ≡ true → rows_zero sheet stored_rows (with_word sheet ram a v) ≡ true
  unfolding place_of row_exists
  rows_keep =
      rows_same (with_word sheet ram a v) stored_rows
      (row_apart 0 (omega arith) refl
      ▹ row_apart 1 (omega arith) refl
      ▹ row_apart 2 (omega arith) refl
      ▹ row_apart 3 (omega arith) refl
      ▹ row_apart 4 (omega arith) refl
      ▹ (λ e. absurd (true≢false e))
      ▹ none)

-- ZEROS

drop-zeros : (n : ℕ) (l : List ℕ) → all_below 1 l ≡ true → all_below 1 (drop n l) ≡ true
drop-zeros zero l e = e
drop-zeros (suc n) [] e = refl
drop-zeros (suc n) (x ∷ xs) e = drop-zeros n xs (and_right (ltb x 1) (all_below 1 xs) e)

take-zeros : (n : ℕ) (l : List ℕ) → all_below 1 l ≡ true → all_below 1 (take n l) ≡ true
take-zeros zero l e = refl
take-zeros (suc n) [] e = refl
take-zeros (suc n) (x ∷ xs) e = rw (and_left (ltb x 1) (all_below 1 xs) e) (take-zeros n xs (and_right (ltb x 1) (all_below 1 xs) e))

or_true : (b : Bool) → (b || true) ≡ true
or_true true = refl
or_true false = refl

pub zero_levels : (sheet : Sheet) (stack : List ℕ) → all_below 1 stack ≡ true → levels_zero sheet stack ≡ true
zero_levels sheet stack e = drop-zeros sheet.levels stack e

pub zero_rows : (sheet : Sheet) (rs ram : List ℕ) → all_below 1 ram ≡ true → rows_zero sheet rs ram ≡ true
zero_rows sheet [] ram e = refl
zero_rows sheet (r ∷ rs) ram e =
    let words : all_below 1 (part ram (place_of (16 * r)) 16) ≡ true = take-zeros 16 (drop (place_of (16 * r)) ram) (drop-zeros (place_of (16 * r)) ram e) in
    rw (words, or_true (row_exists sheet r)) (zero_rows sheet rs ram e)
