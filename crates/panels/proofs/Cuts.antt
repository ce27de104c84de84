-- Parts of a buffer that are cut where it ends are the parts as the definitions have them; and small laws of numbers. Assumes nothing.
use mathlib.Core.Path.{◌≡◌, refl, sym, ◌∙◌, ap, ap₂}
use Prim.Native.Nat.{ℕ, zero, suc, ◌+◌, ◌-◌, ◌/◌, ◌<◌, ◌≤◌, min}
use native.Mathlib.Omega.{arith}
use native.Mathlib.Nat.{div-zero}
use mathlib.Core.Bool.{Bool, true, false}
use mathlib.Core.List.{List, [], ◌∷◌, ◌++◌, append_assoc}
use lib.Dec.{leb}
use lib.ListN.{length, take, drop, length-drop, drop_of_length-le}
use lib.Seq.{take_all, drop-drop}
use borrow.Author.Tests.{leb-true, leb-false, le-leb, lt-leb}
use borrow.Rule.Slice.PartMut.{mid_of, put_mid}
use Rattle.runs.specs.declared.RunEnd.{RunEnd}
use Rattle.runs.specs.declared.RunEnd.TheVariants.{Finished, Stopped, Refused}
use Rattle.runs.specs.Numbers.{end_of, end_number}
use Rattle.runs.specs.Refusals.{first_of, unless}
use Rattle.runs.specs.TwoRunners.{RunAnswer, number_of_end, skipping}
use Rattle.upd546.specs.declared.State.{State}
use Rattle.upd546.specs.declared.Sheet.{Sheet}
use Rattle.upd546.specs.declared.RunAnswer.{RunAnswer as Answered}
use Rattle.upd546.specs.TwoRunners.{chip, answer_of}
use Rattle.upd546.specs.Bytes.{part}
use Rattle.panels.specs.declared.Needs.{Needs}
use Rattle.panels.specs.declared.Lot.{Lot}
use Rattle.panels.specs.Grants.{share_of}
use Rattle.panels.specs.Places.{most_panels}
use Rattle.panels.specs.Courses.{past_of}
use Rattle.panels.specs.Round.{own_run, with_part}

-- the number of a run's end, in the terms of the definitions
pub end_number_lem : (e : RunEnd) → end_number e ≡ number_of_end (end_of e)
end_number_lem Finished = refl
end_number_lem (Stopped s) = refl
end_number_lem (Refused r) = refl

-- the first of the numbers, where it is one; and of 71 and 61 the second
pub first_is : (k : ℕ) (ks : List ℕ) → (k ≡ 0 → ⊥) → k ≡ first_of (k ∷ ks)
unfolding first_of
first_is zero ks h = absurd (h refl)
first_is (suc k) ks h = refl

pub few_enough : (own m : ℕ) → own ≡ 0 → m ≤ most_panels → 0 ≡ first_of (own ∷ unless (leb m most_panels) 61 ∷ [])
unfolding first_of
few_enough own m e h = rw (e, le-leb m most_panels h) refl

pub too_many : (own m : ℕ) → own ≡ 0 → most_panels < m → 61 ≡ first_of (own ∷ unless (leb m most_panels) 61 ∷ [])
unfolding first_of
too_many own m e h = rw (e, lt-leb m most_panels h) refl

take-cut : (k : ℕ) (l : List ℕ) → take (min k (length l)) l ≡ take k l
take-cut k l = go (leb k (length l)) refl
  where
    go : (b : Bool) → leb k (length l) ≡ b → take (min k (length l)) l ≡ take k l
    go true e =
        let h = leb-true k (length l) e in
        let same : min k (length l) ≡ k = omega (arith, h) in
        ap (λ (n : ℕ). take n l) same
    go false e =
        let h = leb-false k (length l) e in
        let long : length l ≤ min k (length l) = omega (arith, h) in
        take_all (min k (length l)) l long ∙ sym (take_all k l (omega (arith, h)))

drop-cut : (k : ℕ) (l : List ℕ) → drop (min k (length l)) l ≡ drop k l
drop-cut k l = go (leb k (length l)) refl
  where
    go : (b : Bool) → leb k (length l) ≡ b → drop (min k (length l)) l ≡ drop k l
    go true e =
        let h = leb-true k (length l) e in
        let same : min k (length l) ≡ k = omega (arith, h) in
        ap (λ (n : ℕ). drop n l) same
    go false e =
        let h = leb-false k (length l) e in
        let long : length l ≤ min k (length l) = omega (arith, h) in
        let longer : length l ≤ k = omega (arith, h) in
        drop_of_length-le l long ∙ sym (drop_of_length-le l longer)

module _ (xs : List ℕ) (at k : ℕ) where
  abbrev from : ℕ
  from = past_of at 0 (length xs)

  abbrev to : ℕ
  to = past_of at k (length xs)

  none_more : at + 0 ≡ at
  none_more = omega arith

  from_there : drop from xs ≡ drop at xs
  from_there = drop-cut (at + 0) xs ∙ ap (λ (n : ℕ). drop n xs) none_more

  so_long : to - from ≡ min k (length (drop at xs))
  so_long = omega (arith, length-drop at xs)

  -- the bytes from where the part begins to where it ends
  pub cut_part : mid_of from (to - from) xs ≡ part xs at k
  cut_part = ap₂ (λ (n : ℕ) (l : List ℕ). take n l) so_long from_there ∙ take-cut k (drop at xs)

  -- and others put in their place
  pub cut_put : (ys : List ℕ) → put_mid from (to - from) xs ys ≡ with_part xs at k ys
  cut_put ys =
      let front : take from xs ≡ take at xs = take-cut (at + 0) xs ∙ ap (λ (n : ℕ). take n xs) none_more in
      let sums : from + (to - from) ≡ to = omega arith in
      let rest : drop (to - from) (drop from xs) ≡ drop (at + k) xs =
      drop-drop (to - from) from xs ∙ ap (λ (n : ℕ). drop n xs) sums ∙ drop-cut (at + k) xs in
      ap₂ (λ (x y : List ℕ). x ++ (ys ++ y)) front rest ∙ sym (append_assoc (take at xs) ys (drop (at + k) xs))

-- a run on parts that are cut so is the panel's own
module _ (sheet : Sheet) (roms schedules logs : List ℕ) (n : Needs) (lot : Lot) (s : State) where
  abbrev own : RunAnswer State
  own = own_run (chip sheet) roms schedules logs n lot s

  pub own_run_lem : (a : Answered) (log : List ℕ) {r₀ r₁ s₀ s₁ l₀ l₁ : ℕ}
      → r₀ ≡ past_of lot.at.rom 0 (length roms) → r₁ ≡ past_of lot.at.rom n.rom (length roms)
      → s₀ ≡ past_of lot.at.schedule 0 (length schedules) → s₁ ≡ past_of lot.at.schedule n.schedule (length schedules)
      → l₀ ≡ past_of lot.at.log 0 (length logs) → l₁ ≡ past_of lot.at.log n.log (length logs)
      → answer_of a log ≡ skipping (chip sheet) (mid_of r₀ (r₁ - r₀) roms) (mid_of s₀ (s₁ - s₀) schedules) s (mid_of l₀ (l₁ - l₀) logs) lot.grant.0
      → (answer_of a own.log ≡ own) × (put_mid l₀ (l₁ - l₀) logs log ≡ with_part logs lot.at.log n.log own.log)
  own_run_lem a log e₀ e₁ f₀ f₁ h₀ h₁ e =
      let same : answer_of a log ≡ own =
      e
      ∙ (λ j. skipping (chip sheet) (mid_of (e₀ j) (e₁ j - e₀ j) roms) (mid_of (f₀ j) (f₁ j - f₀ j) schedules) s (mid_of (h₀ j) (h₁ j - h₀ j) logs) lot.grant.0)
      ∙ (λ j. skipping (chip sheet) (cut_part roms lot.at.rom n.rom j) (cut_part schedules lot.at.schedule n.schedule j) s (cut_part logs lot.at.log n.log j) lot.grant.0) in
      let its_log : log ≡ own.log = ap (λ (z : RunAnswer State). z.log) same in (
        ap (answer_of a) (sym its_log) ∙ same,
        (λ j. put_mid (h₀ j) (h₁ j - h₀ j) logs (its_log j)) ∙ cut_put logs lot.at.log n.log own.log,
      )
