-- Row by row. Assumes nothing.
use mathlib.Core.Path.{◌≡◌, refl}
use mathlib.Core.List.{[], ◌∷◌}
use Prim.Native.Nat.{ℕ, ◌*◌}
use Rattle.upd546.specs.declared.Sheet.{Sheet}
use Rattle.upd546.specs.TheSheet.{row_exists}
use Rattle.upd546.specs.TheMachine.{place_of, place_in}
use Rattle.tables.specs.Tables.{row_table}
use Rattle.tables.proofs.row_table.Goals as goal

-- rows 5 and 6, and row 7, of every sheet
fixed : (sheet : Sheet) → (96 ≡ place_in sheet (16 * 5)) × (96 ≡ place_in sheet (16 * 6)) × (80 ≡ place_in sheet (16 * 7))
unfolding place_in place_of row_exists
fixed sheet = (refl, refl, refl)

table_of : (sheet : Sheet) (a b c d e : ℕ) → a ≡ place_in sheet (16 * 0) → b ≡ place_in sheet (16 * 1) → c ≡ place_in sheet (16 * 2) → d ≡ place_in sheet (16 * 3)
    → e ≡ place_in sheet (16 * 4) → (a ∷ b ∷ c ∷ d ∷ e ∷ 96 ∷ 96 ∷ 80 ∷ []) ≡ row_table sheet
unfolding row_table
table_of sheet a b c d e p q r s t =
    let (x, y, z) = fixed sheet in
    λ i. p i ∷ q i ∷ r i ∷ s i ∷ t i ∷ x i ∷ y i ∷ z i ∷ []

pub returns : goal.returns
returns c sheet same =
    table_of sheet _ _ _ _ _ (c.row_at.ensures sheet same) (c.row_at-2.ensures sheet same) (c.row_at-3.ensures sheet same)
    (c.row_at-4.ensures sheet same) (c.row_at-5.ensures sheet same)
