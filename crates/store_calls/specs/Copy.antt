-- Request R-7 from the board's C program, over any machine: a recall whose part is copied. Assumes nothing: these are definitions.
use Rattle.std.specs.Prelude.{ℕ, zero, suc, List, [], ◌∷◌, ◌++◌, leb, length, drop}
use Rattle.runs.specs.declared.Version.TheVariants.{Two}
use Rattle.runs.specs.Machine.{Machine}
use Rattle.runs.specs.Refusals.{first_of, unless}
use Rattle.runs.specs.TwoRunners.{SaveAnswer}
use Rattle.store.specs.Answers.{recall_number, recall_answer}

module _ {S : Type 0} (M : Machine S) where
  -- all of the recall's own numbers, and then 1 of a buffer that is too short
  unfoldable pub copy_number : (store name buffer : List ℕ) → ℕ
  copy_number store name buffer =
      first_of (recall_number M store name ∷ unless (leb (M.image_length Two) (length buffer)) 1 ∷ [])

  -- the part, in the first bytes of the buffer; those behind them stay
  abbrev pub copied : ℕ → (part buffer : List ℕ) → SaveAnswer
  copied zero part buffer = record { number = 0; buffer = part ++ drop (M.image_length Two) buffer }
  copied (suc k) part buffer = record { number = suc k; buffer = buffer }

  unfoldable pub copy_answer : (store name buffer : List ℕ) → SaveAnswer
  copy_answer store name buffer = copied (copy_number store name buffer) (recall_answer M store name).part buffer
