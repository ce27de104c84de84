-- The places of a sheet's rows: what an entry of the table is, and the word at a column of a row. Assumes nothing.
use mathlib.Core.Path.{◌≡◌, ◌∙◌, refl, sym, ap}
use mathlib.Core.Bool.{Bool, true, false, cond}
use mathlib.Core.List.{List}
use Prim.Native.Nat.{ℕ, ◌+◌, ◌*◌, ◌/◌, ◌%◌, ◌<◌, ◌≤◌}
use native.Mathlib.Omega.{arith}
use lib.Dec.{eqb, leb, eqb→eq, leb→le}
use lib.ListN.{get_or}
use borrow.Author.Tests.{lt-ltb, eq-eqb, ne_eqb}
use Rattle.upd546.specs.declared.Sheet.{Sheet}
use Rattle.upd546.specs.TheSheet.{row_exists}
use Rattle.upd546.specs.TheMachine.{stored_rows, ram_length, index_in, place_of, place_in}
use Rattle.upd546.specs.Bytes.{bit_at}
use Rattle.upd546.proofs.Computed.{every_at, get_d_entries}
use Rattle.tables.specs.Tables.{row_table, Rows}

module _ (sheet : Sheet) where
  -- the word at a column of a row
  pub row_column : (r l : ℕ) → l < 16 → place_in sheet (16 * r + l) ≡ place_in sheet (16 * r) + l
  unfolding place_in place_of
  row_column r l h =
      let e₁ : (16 * r + l) / 16 ≡ r = omega arith in
      let e₂ : (16 * r + l) % 16 ≡ l = omega arith in
      let e₃ : (16 * r) / 16 ≡ r = omega arith in
      let e₄ : (16 * r) % 16 ≡ 0 = omega arith in
      rw (e₁, e₂, e₃, e₄) (go (row_exists sheet r))
    where
      go : (b : Bool) → cond b (16 * index_in stored_rows r + l) (ram_length + l) ≡ cond b (16 * index_in stored_rows r + 0) (ram_length + 0) + l
      go true = omega arith
      go false = omega arith

  pub row_entry : (r : ℕ) → r < 8 → get_or (row_table sheet) r 0 ≡ place_in sheet (16 * r)
  unfolding row_table
  row_entry r h = get_d_entries 8 (λ k. place_in sheet (16 * k)) r 0 h

  row_within : (r : ℕ) → r < 8 → place_in sheet (16 * r) ≤ 96
  unfolding place_in place_of
  row_within r h =
      let e₃ : (16 * r) / 16 ≡ r = omega arith in
      let e₄ : (16 * r) % 16 ≡ 0 = omega arith in
      rw (e₃, e₄) (go (row_exists sheet r))
    where
      go : (b : Bool) → cond b (16 * index_in stored_rows r + 0) (ram_length + 0) ≤ 96
      go true = leb→le _ _ (every_at (λ k. leb (16 * index_in stored_rows k + 0) 96) 8 tt r h)
      go false = omega arith

  pub row_low : (i : ℕ) → i < 5 → bit_at sheet.rows i ≡ 1 → 16 * i ≡ place_in sheet (16 * i)
  unfolding place_in place_of row_exists
  row_low i h e =
      let e₃ : (16 * i) / 16 ≡ i = omega arith in
      let e₄ : (16 * i) % 16 ≡ 0 = omega arith in
      rw (e₃, e₄, lt-ltb i 5 h, eq-eqb (bit_at sheet.rows i) 1 e)
      (eqb→eq _ _ (every_at (λ k. eqb (16 * k) (16 * index_in stored_rows k + 0)) 5 tt i h))

  pub row_absent : (i : ℕ) → i < 5 → (bit_at sheet.rows i ≡ 1 → ⊥) → 96 ≡ place_in sheet (16 * i)
  unfolding place_in place_of row_exists
  row_absent i h n =
      let e₃ : (16 * i) / 16 ≡ i = omega arith in
      let e₄ : (16 * i) % 16 ≡ 0 = omega arith in
      rw (e₃, e₄, lt-ltb i 5 h, ne_eqb (bit_at sheet.rows i) 1 n)

-- an entry of such a table leaves room for a column
pub entry_within : (rows : List ℕ) → Rows rows → (r : ℕ) → r < 8 → get_or rows r 0 ≤ 96
entry_within rows t r h =
    let e = ap (λ (l : List ℕ). get_or l r 0) t.is ∙ row_entry t.sheet r h in
    rw e (row_within t.sheet r h)
