-- The first number of a list that refuses; every refusal has a number. Assumes nothing.
use mathlib.Core.Path.{◌≡◌, refl}
use mathlib.Core.Bool.{Bool, true, false}
use mathlib.Core.List.{List, [], ◌∷◌, ◌++◌}
use Prim.Native.Nat.{ℕ, zero, suc, ◌<◌}
use native.Mathlib.Omega.{arith}
use lib.Dec.{eqb}
use lib.ListN.{get_or}
use borrow.Author.Tests.{eqb-false}
use Rattle.runs.specs.declared.Refusal.{Refusal}
use Rattle.runs.specs.declared.Refusal.TheVariants as why
use Rattle.runs.specs.Numbers.{refusal_number}
use Rattle.runs.specs.Refusals.{first_of, unless}

-- where none refuses, none of them does
pub first_at : (ks : List ℕ) → first_of ks ≡ 0 → (i : ℕ) → get_or ks i 0 ≡ 0
unfolding first_of
first_at [] e i = refl
first_at (zero ∷ ks) e zero = refl
first_at (zero ∷ ks) e (suc i) = first_at ks e i
first_at (suc k ∷ ks) e i = absurd (omega arith)

-- by the number in front
pub first_past : (k : ℕ) (ks : List ℕ) → k ≡ 0 → first_of (k ∷ ks) ≡ first_of ks
unfolding first_of
first_past zero ks e = refl
first_past (suc k) ks e = absurd (omega arith)

pub first_here : (k : ℕ) (ks : List ℕ) → 0 < k → first_of (k ∷ ks) ≡ k
unfolding first_of
first_here zero ks h = absurd (omega arith)
first_here (suc k) ks h = refl

pub first_is : (j k : ℕ) (ks : List ℕ) → j ≡ suc k → first_of (j ∷ ks) ≡ suc k
unfolding first_of
first_is j k ks e = rw e

-- two lists behind the same number
pub first_under : (k : ℕ) (ks js : List ℕ) → first_of ks ≡ first_of js → first_of (k ∷ ks) ≡ first_of (k ∷ js)
unfolding first_of
first_under zero ks js e = e
first_under (suc k) ks js e = refl

pub last_one : (k : ℕ) → first_of (k ∷ []) ≡ k
unfolding first_of
last_one zero = refl
last_one (suc k) = refl

-- numbers behind others
pub first_append : (ks js : List ℕ) → first_of (ks ++ js) ≡ first_of (first_of ks ∷ js)
unfolding first_of
first_append [] js = refl
first_append (zero ∷ ks) js = first_append ks js
first_append (suc k ∷ ks) js = refl

-- a test whose number doesn't refuse
pub passes : (b : Bool) (k : ℕ) → eqb k 0 ≡ false → unless b k ≡ 0 → b ≡ true
passes true k h e = refl
passes false k h e = absurd (eqb-false k 0 h e)

-- every refusal has a number
pub numbered : (w : Refusal) → (k : ℕ) × (refusal_number w ≡ suc k)
numbered why.BufferShort = (0, refl)
numbered why.CycleLimit = (1, refl)
numbered why.ScheduleLength = (10, refl)
numbered why.ScheduleLong = (11, refl)
numbered why.RecordBytes = (12, refl)
numbered why.RecordOrder = (13, refl)
numbered why.RomLength = (20, refl)
numbered why.ImageLength = (30, refl)
numbered why.ImageMark = (31, refl)
numbered why.ImageVersion = (32, refl)
numbered why.Field = (33, refl)
numbered why.StoreMalformed = (50, refl)
numbered why.NameUnknown = (51, refl)
numbered why.StoreFull = (52, refl)
numbered why.ResetCount = (53, refl)
numbered why.Sheet = (70, refl)

pub refusal-some : (w : Refusal) → refusal_number w ≡ 0 → ⊥
refusal-some w e = omega (arith, (numbered w).1)
