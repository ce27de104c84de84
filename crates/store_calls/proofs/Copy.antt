-- A recall that is refused, a buffer that is too short, and a copy. Assumes nothing.
use mathlib.Core.Path.{◌≡◌, ◌∙◌, refl, ap, ap₂}
use mathlib.Core.List.{List, ◌++◌}
use Prim.Native.Nat.{ℕ, zero, suc, ◌<◌, ◌≤◌}
use lib.ListN.{length, drop}
use borrow.Author.Tests.{le-leb, lt-leb}
use Rattle.runs.specs.declared.Version.TheVariants.{Two}
use Rattle.runs.specs.Machine.{Machine}
use Rattle.runs.specs.Refusals.{first_of}
use Rattle.store.specs.Answers.{recall_number, recall_answer}
use Rattle.store.proofs.Answers.{recalled-length}
use Rattle.store_calls.specs.Copy.{copy_number, copy_answer}

module _ {S : Type 0} (M : Machine S) (store name buffer : List ℕ) where
  pub copy_refused : (k : ℕ) → (k ≡ 0 → ⊥) → recall_number M store name ≡ k → record { number = k; buffer = buffer } ≡ copy_answer M store name buffer
  unfolding copy_answer copy_number first_of
  copy_refused zero h e = absurd (h refl)
  copy_refused (suc k) h e = rw e

  module _ (found : recall_number M store name ≡ 0) where
    pub copy_short : length buffer < M.image_length Two → record { number = 1; buffer = buffer } ≡ copy_answer M store name buffer
    unfolding copy_answer copy_number first_of
    copy_short h = rw (found, lt-leb (M.image_length Two) (length buffer) h)

    pub copy_done : M.image_length Two ≤ length buffer → (p : List ℕ) → p ≡ (recall_answer M store name).part
        → {b : List ℕ} → b ≡ p ++ drop (length p) buffer → record { number = 0; buffer = b } ≡ copy_answer M store name buffer
    unfolding copy_answer copy_number first_of
    copy_done h p same {b} e =
        let whole : length p ≡ M.image_length Two = ap length same ∙ recalled-length M store name found in
        let all : b ≡ (recall_answer M store name).part ++ drop (M.image_length Two) buffer
        = e ∙ ap₂ (λ (x : List ℕ) (k : ℕ). x ++ drop k buffer) same whole in
        rw (found, le-leb (M.image_length Two) (length buffer) h, all)
