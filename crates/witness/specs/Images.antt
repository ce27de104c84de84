-- What the theorems about save and restore have to say of images of both versions. Assumes nothing: these are definitions.
use Rattle.std.specs.Prelude.{ℕ, ◌≡◌, List, [], ◌∷◌, ◌++◌, set, take, replicate}
use Rattle.runs.specs.declared.Version.TheVariants.{One, Two}
use Rattle.runs.specs.TwoRunners.{save_answer, restore_answer}
use Rattle.runs.specs.Versions.{convert_answer}
use Rattle.upd546.specs.TheSheet.{upd546_sheet}
use Rattle.upd546.specs.StateImage.{image_of, state_number, version_number}
use Rattle.upd546.specs.TwoRunners.{upd546}
use Rattle.laws.specs.Images.{ImageOfSome}
use Rattle.witness.specs.Calls.{cut, kept, high, kept_high, wanted_image, wanted_old}

-- with a count of 5
abbrev pub damaged : List ℕ
damaged = set wanted_image 81 5

-- what a save as version 2 makes of a version 1 image, and a conversion
abbrev pub forth : List ℕ
forth = take 82 (save_answer upd546 Two (restore_answer upd546 wanted_old).state (replicate 82 9)).buffer

abbrev pub converted : List ℕ
converted = take 82 (convert_answer upd546 wanted_old (replicate 82 9) 2).buffer

pub record ImageFigures : Type 0 where
  -- `SavedRestores`: of a state in the middle of OCD, as version 1
  pub saved_restores : restore_answer upd546 kept ≡ record { number = 0; state = cut }
  pub owed_kept : (restore_answer upd546 kept).state.core.owed ≡ 1
  -- and of one with a count of 3, as version 2
  pub high_restores : restore_answer upd546 kept_high ≡ record { number = 0; state = high }
  pub count_kept : (restore_answer upd546 kept_high).state.count ≡ 3
  -- `RestoredSaves`, of both versions
  pub restored_saves : save_answer upd546 Two (restore_answer upd546 wanted_image).state (replicate 84 9)
      ≡ record { number = 0; buffer = wanted_image ++ (9 ∷ 9 ∷ []) }
  pub restored_saves_one : save_answer upd546 One (restore_answer upd546 wanted_old).state (replicate 83 9)
      ≡ record { number = 0; buffer = wanted_old ++ (9 ∷ 9 ∷ []) }
  -- `AcceptedExactly`
  pub accepted : ImageOfSome upd546_sheet wanted_image
  pub accepted_state : state_number upd546_sheet accepted.state ≡ 0
  pub accepted_version : version_number Two accepted.state ≡ 0
  pub accepted_bytes : wanted_image ≡ image_of Two accepted.state
  pub accepted_old : ImageOfSome upd546_sheet wanted_old
  pub old_version : version_number One accepted_old.state ≡ 0
  pub old_bytes : wanted_old ≡ image_of One accepted_old.state
  pub not_accepted : ImageOfSome upd546_sheet damaged → ⊥
  -- `EveryVersionOneImageComesBack`
  pub forward : (save_answer upd546 Two (restore_answer upd546 wanted_old).state (replicate 82 9)).number ≡ 0
  pub taken : restore_answer upd546 forth ≡ restore_answer upd546 wanted_old
  pub backward : save_answer upd546 One (restore_answer upd546 forth).state (replicate 83 9)
      ≡ record { number = 0; buffer = wanted_old ++ (9 ∷ 9 ∷ []) }
  -- `EveryConversionComesBack`
  pub converts : (convert_answer upd546 wanted_old (replicate 82 9) 2).number ≡ 0
  pub converts_back : convert_answer upd546 converted (replicate 83 9) 1 ≡ record { number = 0; buffer = wanted_old ++ (9 ∷ 9 ∷ []) }
  -- `EveryImageWrittenAsVersionOneRestores`
  pub written_as_one : restore_answer upd546 (take 81 (save_answer upd546 One (restore_answer upd546 wanted_image).state (replicate 81 9)).buffer)
      ≡ restore_answer upd546 wanted_image
  -- `EveryConversionRefusesInOrder`: each with all that come after it
  pub first_31 : (convert_answer upd546 [] [] 3).number ≡ 31
  pub then_33 : (convert_answer upd546 kept_high [] 3).number ≡ 33
  pub then_54 : (convert_answer upd546 kept_high [] 1).number ≡ 54
  pub then_1 : (convert_answer upd546 wanted_image (replicate 80 9) 1).number ≡ 1
  pub and_1 : (convert_answer upd546 wanted_image (replicate 81 9) 2).number ≡ 1
  -- `VersionRefusesBeforeTheBuffer`
  pub save_54 : (save_answer upd546 One high []).number ≡ 54
