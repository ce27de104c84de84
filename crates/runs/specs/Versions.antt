-- Request R-8, images of two versions, over any machine: what a conversion from one to the other answers, and what is claimed of
-- images of both. "Version 1 is still restored, with count 0, and can be written for old boards." Assumes nothing: these are
-- definitions.
use Rattle.std.specs.Prelude.{ℕ, zero, suc, ◌≤◌, ◌≡◌, List, [], ◌∷◌, ◌++◌, leb, length, take, drop}
use Rattle.std.proofs.Math.Option.{Option, none, some}
use Rattle.runs.specs.declared.Version.{Version}
use Rattle.runs.specs.declared.Version.TheVariants.{One, Two}
use Rattle.runs.specs.Machine.{Machine}
use Rattle.runs.specs.Refusals.{first_of, unless}
use Rattle.runs.specs.TwoRunners.{SaveAnswer, save_answer, restore_answer}
use Rattle.runs.specs.Laws.{Bytes}

-- the version that a number names
abbrev pub version_named : ℕ → Option Version
version_named zero = none
version_named (suc zero) = some One
version_named (suc (suc zero)) = some Two
version_named (suc (suc (suc k))) = none

module _ {S : Type 0} (M : Machine S) where
  -- a save as the version wanted; 33 where there is no such version
  abbrev pub save_wanted : Option Version → S → List ℕ → SaveAnswer
  save_wanted none s to = record { number = 33; buffer = to }
  save_wanted (some v) s to = save_answer M v s to

  -- where the restore is refused, the conversion is, and writes nothing
  abbrev pub on_taken : ℕ → S → Option Version → List ℕ → SaveAnswer
  on_taken zero s wanted to = save_wanted wanted s to
  on_taken (suc k) s wanted to = record { number = suc k; buffer = to }

  -- CONVERSION of the image `from` into the buffer `to`: a restore, and a save as the version that the number names
  unfoldable pub convert_answer : (from to : List ℕ) → ℕ → SaveAnswer
  convert_answer from to version = on_taken (restore_answer M from).number (restore_answer M from).state (version_named version) to

  -- What refuses a conversion whose image is restored: 33, no such version; 54, the version can't hold the state; 1, the buffer is
  -- under the version's length.
  abbrev pub wanted_number : Option Version → S → List ℕ → ℕ
  wanted_number none s to = 33
  wanted_number (some v) s to = first_of (M.version_number v s ∷ unless (leb (M.image_length v) (length to)) 1 ∷ [])

  -- Every conversion is refused with the first of these numbers: those of a restore, 71 before them, then 33, 54 and 1.
  abbrev pub EveryConversionRefusesInOrder : Type 0
  EveryConversionRefusesInOrder =
      (from to : List ℕ) (version : ℕ) → Bytes from
      → (convert_answer from to version).number
      ≡ first_of (M.own_number ∷ M.image_number from ∷ wanted_number (version_named version) (M.of_image from) to ∷ [])

-- What the claims take from a machine: an accepted image has a version's length, and is the image of an accepted state, which that
-- version holds.
pub record ImageOf {S : Type 0} (M : Machine S) (v : Version) (bytes : List ℕ) (s : S) : Type 0 where
  pub sound : M.state_number s ≡ 0
  pub held : M.version_number v s ≡ 0
  pub same : bytes ≡ M.image v s

pub record AcceptedLaws {S : Type 0} (M : Machine S) : Type 0 where
  pub some_version : (bytes : List ℕ) → M.image_number bytes ≡ 0 → (v : Version) × (length bytes ≡ M.image_length v)
  pub exact : (v : Version) (bytes : List ℕ) → Bytes bytes → length bytes ≡ M.image_length v → M.image_number bytes ≡ 0
      → ImageOf M v bytes (M.of_image bytes)

module _ {S : Type 0} (M : Machine S) where
  -- the bytes that a save as version v writes into this buffer
  abbrev pub saved_as : Version → S → List ℕ → List ℕ
  saved_as v s buffer = take (M.image_length v) (save_answer M v s buffer).buffer

  -- An image restored, saved as version 2, restored, and saved as version 1: the first save isn't refused, the second restore answers
  -- the same state, and the second save writes the same bytes.
  pub record ForwardAndBack (bytes forth back : List ℕ) : Type 0 where
    pub forward : (save_answer M Two (restore_answer M bytes).state forth).number ≡ 0
    pub taken : restore_answer M (saved_as Two (restore_answer M bytes).state forth) ≡ restore_answer M bytes
    pub backward : save_answer M One (restore_answer M (saved_as Two (restore_answer M bytes).state forth)).state back
        ≡ record { number = 0; buffer = bytes ++ drop (M.image_length One) back }

  -- "a version 1 image taken forward and back is the same bytes"
  abbrev pub EveryVersionOneImageComesBack : Type 0
  EveryVersionOneImageComesBack =
      (bytes forth back : List ℕ) → Bytes bytes → length bytes ≡ M.image_length One → (restore_answer M bytes).number ≡ 0
      → M.image_length Two ≤ length forth → M.image_length One ≤ length back → ForwardAndBack bytes forth back

  -- the same by conversions
  pub record ConvertedForwardAndBack (bytes forth back : List ℕ) : Type 0 where
    pub forward : (convert_answer M bytes forth 2).number ≡ 0
    pub backward : convert_answer M (take (M.image_length Two) (convert_answer M bytes forth 2).buffer) back 1
        ≡ record { number = 0; buffer = bytes ++ drop (M.image_length One) back }

  abbrev pub EveryConversionComesBack : Type 0
  EveryConversionComesBack =
      (bytes forth back : List ℕ) → Bytes bytes → length bytes ≡ M.image_length One → (restore_answer M bytes).number ≡ 0
      → M.image_length Two ≤ length forth → M.image_length One ≤ length back → ConvertedForwardAndBack bytes forth back

  -- an accepted image whose state version 1 holds, written as version 1 and restored, is the same state
  abbrev pub EveryImageWrittenAsVersionOneRestores : Type 0
  EveryImageWrittenAsVersionOneRestores =
      (bytes buffer : List ℕ) → Bytes bytes → (restore_answer M bytes).number ≡ 0 → M.version_number One (restore_answer M bytes).state ≡ 0
      → M.image_length One ≤ length buffer → restore_answer M (saved_as One (restore_answer M bytes).state buffer) ≡ restore_answer M bytes
