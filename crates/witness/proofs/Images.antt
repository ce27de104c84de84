-- The figures of images, from the theorems about save and restore. Assumes nothing.
use mathlib.Core.Path.{◌≡◌, refl, ap}
use mathlib.Core.List.{[]}
use Prim.Native.Nat.{ℕ}
use native.Mathlib.Omega.{arith}
use lib.Dec.{lit<, lit≤}
use lib.ListN.{replicate}
use Rattle.runs.specs.declared.Version.TheVariants.{One, Two}
use Rattle.runs.specs.TwoRunners.{RestoreAnswer, restore_answer}
use Rattle.runs.specs.Laws.{Bytes}
use Rattle.runs.specs.Versions.{ForwardAndBack, ConvertedForwardAndBack}
use Rattle.upd546.specs.declared.State.{State}
use Rattle.upd546.specs.TheSheet.{upd546_sheet}
use Rattle.upd546.specs.TwoRunners.{upd546}
use Rattle.laws.proofs.Lists.{below_all}
use Rattle.laws.proofs.Images.{saved_restores, restored_saves, accepted-exactly}
use Rattle.laws.proofs.Demand3.{every_version_one_image_comes_back, every_conversion_comes_back, every_image_written_as_version_one_restores, every_conversion_refuses_in_order, every_version_refuses_before_the_buffer}
use Rattle.witness.specs.Calls.{cut, kept, high, kept_high, wanted_image, wanted_old}
use Rattle.witness.specs.Images.{damaged, ImageFigures}
use Rattle.witness.proofs.Opened.{opened}

image_bytes : Bytes wanted_image
image_bytes = below_all 256 wanted_image (lit< tt) refl

old_bytes : Bytes wanted_old
old_bytes = below_all 256 wanted_old (lit< tt) refl

damaged_bytes : Bytes damaged
damaged_bytes = below_all 256 damaged (lit< tt) refl

high_bytes : Bytes kept_high
unfolding opened
high_bytes = below_all 256 kept_high (lit< tt) refl

back : ForwardAndBack upd546 wanted_old (replicate 82 9) (replicate 83 9)
unfolding opened
back = every_version_one_image_comes_back upd546_sheet wanted_old (replicate 82 9) (replicate 83 9) old_bytes refl refl (lit≤ tt) (lit≤ tt)

converted_back : ConvertedForwardAndBack upd546 wanted_old (replicate 82 9) (replicate 83 9)
unfolding opened
converted_back = every_conversion_comes_back upd546_sheet wanted_old (replicate 82 9) (replicate 83 9) old_bytes refl refl (lit≤ tt) (lit≤ tt)

pub figures : ImageFigures
unfolding opened
figures =
    let same : restore_answer upd546 kept ≡ record { number = 0; state = cut }
    = saved_restores upd546_sheet One cut (replicate 90 9) refl refl refl (lit≤ tt) in
    let same_high : restore_answer upd546 kept_high ≡ record { number = 0; state = high }
    = saved_restores upd546_sheet Two high (replicate 82 9) refl refl refl (lit≤ tt) in
    let accepted = (accepted-exactly upd546_sheet wanted_image refl image_bytes).0 refl in
    let old = (accepted-exactly upd546_sheet wanted_old refl old_bytes).0 refl in
    record {
      saved_restores = same;
      owed_kept = ap (λ (a : RestoreAnswer State). a.state.core.owed) same;
      high_restores = same_high;
      count_kept = ap (λ (a : RestoreAnswer State). a.state.count) same_high;
      restored_saves = restored_saves upd546_sheet wanted_image (replicate 84 9) image_bytes refl (lit≤ tt);
      restored_saves_one = restored_saves upd546_sheet wanted_old (replicate 83 9) old_bytes refl (lit≤ tt);
      accepted = accepted;
      accepted_state = accepted.not_refused_is;
      accepted_version = accepted.fits;
      accepted_bytes = accepted.same;
      accepted_old = old;
      old_version = old.fits;
      old_bytes = old.same;
      not_accepted = λ some.
          let zero : ◌≡◌ {A = ℕ} 34 0 = (accepted-exactly upd546_sheet damaged refl damaged_bytes).1 some in
          omega (arith, zero);
      forward = back.forward;
      taken = back.taken;
      backward = back.backward;
      converts = converted_back.forward;
      converts_back = converted_back.backward;
      written_as_one = every_image_written_as_version_one_restores upd546_sheet wanted_image (replicate 81 9) image_bytes refl refl (lit≤ tt);
      first_31 = every_conversion_refuses_in_order upd546_sheet [] [] 3 (λ i. lit< tt);
      then_33 = every_conversion_refuses_in_order upd546_sheet kept_high [] 3 high_bytes;
      then_54 = every_conversion_refuses_in_order upd546_sheet kept_high [] 1 high_bytes;
      then_1 = every_conversion_refuses_in_order upd546_sheet wanted_image (replicate 80 9) 1 image_bytes;
      and_1 = every_conversion_refuses_in_order upd546_sheet wanted_image (replicate 81 9) 2 image_bytes;
      save_54 = every_version_refuses_before_the_buffer One high [] upd546_sheet 53 refl refl refl;
    }
