-- The first part of a log is read as a log of its own. Assumes nothing.
use mathlib.Core.Path.{◌≡◌, refl, sym}
use mathlib.Core.Bool.{Bool, true, false}
use mathlib.Core.List.{List}
use Prim.Native.Nat.{ℕ, ◌%◌}
use lib.ListN.{length}
use lib.Dec.{eqb}
use borrow.Author.Tests.{eqb-true, eqb-false}
use Rattle.waiting.specs.WaitingTimes.{start_of_day, waiting_times}
use Rattle.waits_text.specs.Parts.{no_parts, part_read}
use Rattle.waits_text.proofs.Parts.{reads_on, not_whole}

-- before the first part nothing is carried; a part that isn't whole records is refused either way
pub first_read : (part : List ℕ) → part_read no_parts part ≡ waiting_times part start_of_day
first_read part = go (eqb (length part % 8) 0) refl
  where
    go : (whole : Bool) → eqb (length part % 8) 0 ≡ whole → part_read no_parts part ≡ waiting_times part start_of_day
    go true w = sym (reads_on no_parts part (eqb-true (length part % 8) 0 w) refl)
    go false n = sym (not_whole no_parts part (eqb-false (length part % 8) 0 n))
