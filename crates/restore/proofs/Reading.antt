-- The numbers that refuse an image, in their order. Assumes nothing.
use mathlib.Core.Path.{◌≡◌, refl}
use mathlib.Core.Bool.{Bool, true, false, ◌&&◌}
use mathlib.Core.List.{List, [], ◌∷◌}
use Prim.Native.Nat.{ℕ, zero, suc, ◌≤◌, ◌<◌}
use native.Mathlib.Omega.{arith}
use lib.Dec.{eqb, ltb}
use lib.ListN.{length}
use borrow.Author.Tests.{eq-eqb, ne_eqb, eqb-true, lt-ltb, le-ltb}
use Rattle.runs.specs.declared.Version.{Version}
use Rattle.runs.specs.declared.Version.TheVariants.{One, Two}
use Rattle.runs.specs.TwoRunners.{restore_number, restore_answer, current_number, current_answer}
use Rattle.runs.specs.Refusals.{first_of, unless}
use Rattle.runs.proofs.Refusals.{first_at, passes}
use Rattle.upd546.specs.declared.Sheet.{Sheet}
use Rattle.upd546.specs.TheSheet.{sheet_number}
use Rattle.upd546.specs.TheMachine.{fresh}
use Rattle.upd546.specs.Sequences.{same_numbers}
use Rattle.upd546.specs.Bytes.{part}
use Rattle.upd546.specs.StateImage.{image_length, image_mark, version_bytes, version_of, byte, of_image, state_sound, state_number, fields_number, image_number}
use Rattle.upd546.specs.TwoRunners.{chip}
use Rattle.restore.specs.Head.{head_number}

-- the version that the length tells
pub of_long : (image : List ℕ) → length image ≡ image_length Two → Two ≡ version_of image
of_long image e = rw (eq-eqb (length image) (image_length Two) e)

pub of_other : (image : List ℕ) → (length image ≡ image_length Two → ⊥) → One ≡ version_of image
of_other image h = rw (ne_eqb (length image) (image_length Two) h)

-- an image of either version has all that version 1 has
pub at_least : (v : Version) (n : ℕ) → n ≡ image_length v → image_length One ≤ n
at_least One n e = omega arith
at_least Two n e = omega arith

-- v is the version that goes with the length
module _ (image : List ℕ) (v : Version) (goes : v ≡ version_of image) where
  pub by_length : (length image ≡ image_length v → ⊥) → 31 ≡ head_number image
  unfolding head_number first_of
  by_length h = rw (← goes, ne_eqb (length image) (image_length v) h)

  module _ (l : length image ≡ image_length v) where
    pub by_mark : same_numbers (part image 0 3) image_mark ≡ false → 32 ≡ head_number image
    unfolding head_number first_of
    by_mark h = rw (← goes, eq-eqb (length image) (image_length v) l, h)

    module _ (m : same_numbers (part image 0 3) image_mark ≡ true) where
      pub by_version : same_numbers (part image 3 2) (version_bytes v) ≡ false → 33 ≡ head_number image
      unfolding head_number first_of
      by_version h = rw (← goes, eq-eqb (length image) (image_length v) l, m, h)

      module _ (same : same_numbers (part image 3 2) (version_bytes v) ≡ true) where
        pub by_flags : 64 ≤ byte image 15 → 34 ≡ head_number image
        unfolding head_number first_of
        by_flags h = rw (← goes, eq-eqb (length image) (image_length v) l, m, same, le-ltb (byte image 15) 64 h)

        pub by_none : byte image 15 < 64 → 0 ≡ head_number image
        unfolding head_number first_of
        by_none h = rw (← goes, eq-eqb (length image) (image_length v) l, m, same, lt-ltb (byte image 15) 64 h)

-- an image whose head passes
pub head_length : (image : List ℕ) → head_number image ≡ 0 → image_length One ≤ length image
unfolding head_number
head_length image e =
    let v = version_of image in
    at_least v (length image)
    (eqb-true (length image) (image_length v) (passes (eqb (length image) (image_length v)) 31 refl (first_at _ e 0)))

-- WHAT A RESTORE ANSWERS
module _ (sheet : Sheet) (image : List ℕ) where
  -- what refuses an image is what refuses its head, or its fields
  all_number : image_number sheet image ≡ first_of (head_number image ∷ state_number sheet (of_image image) ∷ [])
  unfolding image_number head_number fields_number state_number first_of
  all_number = go (eqb (length image) (image_length (version_of image))) (same_numbers (part image 0 3) image_mark) (same_numbers (part image 3 2) (version_bytes (version_of image))) (ltb (byte image 15) 64) (state_sound sheet (of_image image))
    where
      go : (a b c d e : Bool) → first_of (unless a 31 ∷ unless b 32 ∷ unless c 33 ∷ unless (d && e) 34 ∷ []) ≡ first_of (first_of (unless a 31 ∷ unless b 32 ∷ unless c 33 ∷ unless d 34 ∷ []) ∷ unless e 34 ∷ [])
      go false b c d e = refl
      go true false c d e = refl
      go true true false d e = refl
      go true true true false e = refl
      go true true true true e = refl

  pub restore-illegal : (k : ℕ) → k ≡ sheet_number sheet → (k ≡ 0 → ⊥)
      → record { number = k; state = fresh } ≡ restore_answer (chip sheet) image
  unfolding restore_answer restore_number first_of
  restore-illegal zero e h = absurd (h refl)
  restore-illegal (suc k) e h = rw (← e)

  module _ (legal : sheet_number sheet ≡ 0) where
    pub restore_head : (k : ℕ) → k ≡ head_number image → (k ≡ 0 → ⊥)
        → record { number = k; state = fresh } ≡ restore_answer (chip sheet) image
    unfolding restore_answer restore_number first_of
    restore_head zero e h = absurd (h refl)
    restore_head (suc k) e h = rw (legal, all_number, ← e)

    module _ (head : head_number image ≡ 0) where
      pub restore_fields : (k : ℕ) → k ≡ state_number sheet (of_image image) → (k ≡ 0 → ⊥)
          → record { number = k; state = fresh } ≡ restore_answer (chip sheet) image
      unfolding restore_answer restore_number first_of
      restore_fields zero e h = absurd (h refl)
      restore_fields (suc k) e h = rw (legal, all_number, head, ← e)

      pub restore_done : state_number sheet (of_image image) ≡ 0
          → record { number = 0; state = of_image image } ≡ restore_answer (chip sheet) image
      unfolding restore_answer restore_number first_of
      restore_done e = rw (legal, all_number, head, e)

  pub current_illegal : (k : ℕ) → k ≡ sheet_number sheet → (k ≡ 0 → ⊥)
      → record { number = k; state = fresh } ≡ current_answer (chip sheet) image
  unfolding current_answer current_number first_of
  current_illegal zero e h = absurd (h refl)
  current_illegal (suc k) e h = rw (← e)
