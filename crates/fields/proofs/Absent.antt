-- The tests of the stack's words one by one, and of the rows by their bits. Assumes nothing.
use mathlib.Core.Path.{◌≡◌, ◌∙◌, refl, sym, ap}
use mathlib.Core.Bool.{Bool, ◌&&◌, ◌||◌, and_assoc, and-true}
use mathlib.Core.List.{List, [], ◌∷◌}
use Prim.Native.Nat.{ℕ, zero, suc, ◌/◌, ◌%◌}
use native.Mathlib.Nat.{div-one}
use native.Mathlib.Omega.{arith}
use lib.Dec.{eqb, leb, ltb, eqb-suc-zero}
use lib.ListN.{length, drop, get_or}
use lib.Seq.{drop-nil}
use borrow.Author.Tests.{le-leb, le-ltb}
use Rattle.upd546.specs.declared.Sheet.{Sheet}
use Rattle.upd546.specs.TheSheet.{row_exists}
use Rattle.upd546.specs.TheMachine.{stack_depth, stored_rows, place_of}
use Rattle.upd546.specs.Bytes.{part}
use Rattle.upd546.specs.Sequences.{all_below}
use Rattle.upd546.specs.StateImage.{rows_zero}
use Rattle.upd546.proofs.Computed.{three}

zero_below : (x : ℕ) → eqb x 0 ≡ ltb x 1
zero_below zero = refl
zero_below (suc n) = eqb-suc-zero n ∙ sym (le-ltb (suc n) 1 (omega arith))

by_levels : (levels a b c : ℕ)
    → (((leb 1 levels || eqb a 0) && (leb 2 levels || eqb b 0)) && (leb 3 levels || eqb c 0)) ≡ all_below 1 (drop levels (a ∷ b ∷ c ∷ []))
by_levels zero a b c = rw (zero_below a, zero_below b, zero_below c) (simp (and_assoc, and-true))
by_levels (suc zero) a b c = rw (zero_below b, zero_below c) (simp and-true)
by_levels (suc (suc zero)) a b c = rw (zero_below c) (simp and-true)
by_levels (suc (suc (suc n))) a b c =
    let all = suc (suc (suc n)) in
    rw (le-leb 1 all (omega arith), le-leb 2 all (omega arith), le-leb 3 all (omega arith), drop-nil {A = ℕ} n)

pub levels_tests : (levels : ℕ) (stack : List ℕ) → length stack ≡ stack_depth
    → (((leb 1 levels || eqb (get_or stack 0 0) 0) && (leb 2 levels || eqb (get_or stack 1 0) 0)) && (leb 3 levels || eqb (get_or stack 2 0) 0))
    ≡ all_below 1 (drop levels stack)
levels_tests levels stack h = rw (three stack h) at (by_levels levels (get_or stack 0 0) (get_or stack 1 0) (get_or stack 2 0))

-- what is asked of the row that begins at a place, its bit being the lowest
abbrev pub row_fits : List ℕ → ℕ → ℕ → Bool
row_fits words bits at = eqb (bits % 2) 1 || all_below 1 (part words at 16)

pub rows_tests : (sheet : Sheet) (words : List ℕ) (r0 r1 r2 r3 r4 : Bool) → r0 ≡ row_fits words sheet.rows 0
    → r1 ≡ row_fits words (sheet.rows / 2) 16 → r2 ≡ row_fits words (sheet.rows / 4) 32 → r3 ≡ row_fits words (sheet.rows / 8) 48
    → r4 ≡ row_fits words (sheet.rows / 16) 64 → ((((r0 && r1) && r2) && r3) && r4) ≡ rows_zero sheet stored_rows words
unfolding row_exists place_of
rows_tests sheet words r0 r1 r2 r3 r4 e0 e1 e2 e3 e4 =
    let first : r0 ≡ row_fits words (sheet.rows / 1) 0 = e0 ∙ ap (λ (x : ℕ). row_fits words x 0) (sym (div-one sheet.rows)) in
    simp (and_assoc, and-true) (rw (first, e1, e2, e3, e4))
