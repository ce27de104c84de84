-- Mistakes, kinds and sums, each by its cases. Assumes nothing.
use mathlib.Core.Path.{◌≡◌, ◌∙◌, refl, sym, ap}
use mathlib.Core.Bool.{Bool, true, false, cond, ◌&&◌}
use mathlib.Core.List.{List, [], ◌∷◌}
use Prim.Native.Nat.{ℕ, zero, suc, ◌+◌, ◌-◌, ◌%◌, ◌≤◌}
use native.Mathlib.Omega.{arith}
use lib.Dec.{eqb, leb, ltb}
use lib.ListN.{length, get_or}
use borrow.Author.Tests.{ltb-true, ltb-false, le-leb, lt-ltb, le-ltb}
use Rattle.mnemonics.specs.Mnemonics.{Kind, long_for}
use Rattle.assembly.specs.Assembling.{Value, Coded, good, wrong, last_address, limited, number_from, place_of, address_of, absent, operand_for, coded_by, coded, first_of}
use Rattle.assembly.specs.Grammar.{Line}
use Rattle.std.specs.Char.{is_ascii_digit}
use Rattle.assembly.specs.declared.Mistake.{Mistake}
use Rattle.assembly.specs.declared.Mistake.TheVariants.{TextBehind, UnknownWord, OperandMissing, OperandUnwanted, NoNumber, NumberTooLarge, LabelUnknown, LabelTwice, NotInPage, NoCzpAddress, BeyondEnd, ByteTwice, SecondElsewhere, RomNotFirst}
use Rattle.assembly.specs.Places.{mistake_number}

some : (n : ℕ) → suc n ≡ 0 → ⊥
some n e = omega (arith, e)

pub absent_none : (l : List ℕ) → length l ≡ 0 → good 0 ≡ absent l
absent_none [] h = refl
absent_none (c ∷ t) h = absurd (some (length t) h)

pub absent_some : (l : List ℕ) → (length l ≡ 0 → ⊥) → wrong 4 ≡ absent l
absent_some [] h = absurd (h refl)
absent_some (c ∷ t) h = refl

pub first_some : (a b : ℕ) → (a ≡ 0 → ⊥) → a ≡ first_of a b
first_some zero b h = absurd (h refl)
first_some (suc a) b h = refl

pub beyond : (at size count : ℕ) → count ≤ size → ltb (size - count) at ≡ ltb size (at + count)
beyond at size count h = go (ltb size (at + count)) refl
  where
    go : (t : Bool) → ltb size (at + count) ≡ t → ltb (size - count) at ≡ t
    go true e = lt-ltb (size - count) at (omega (arith, ltb-true size (at + count) e))
    go false e = le-ltb (size - count) at (omega (arith, ltb-false size (at + count) e))

-- an address
pub digit_is : (c : ℕ) → is_ascii_digit c ≡ (leb 48 c && leb c 57)
digit_is c = refl

pub limited_wrong : (limit m : ℕ) → limited limit (wrong m) ≡ wrong m
limited_wrong limit m = let least : leb 0 limit ≡ true = le-leb 0 limit (omega arith) in ap (λ (t : Bool). cond t (wrong m) (wrong 6)) least

pub address-none : (lines : List Line) (l : List ℕ) → length l ≡ 0 → wrong 3 ≡ address_of lines l
unfolding address_of
address-none lines [] h = refl
address-none lines (c ∷ t) h = absurd (some (length t) h)

address-by : (lines : List Line) (l : List ℕ) {b : Bool} → (length l ≡ 0 → ⊥) → (leb 48 (get_or l 0 0) && leb (get_or l 0 0) 57) ≡ b
    → limited last_address (elim b [ true ↦ number_from 0 l | false ↦ place_of lines l ]) ≡ address_of lines l
unfolding address_of
address-by lines [] h e = absurd (h refl)
address-by lines (c ∷ t) h e = ap (λ (b : Bool). limited last_address (elim b [ true ↦ number_from 0 (c ∷ t) | false ↦ place_of lines (c ∷ t) ])) (sym e)

pub address-number : (lines : List Line) (l : List ℕ) → (length l ≡ 0 → ⊥) → (leb 48 (get_or l 0 0) && leb (get_or l 0 0) 57) ≡ true → limited last_address (number_from 0 l) ≡ address_of lines l
address-number lines l h e = address-by lines l h e

pub address-label : (lines : List Line) (l : List ℕ) → (length l ≡ 0 → ⊥) → (leb 48 (get_or l 0 0) && leb (get_or l 0 0) 57) ≡ false → limited last_address (place_of lines l) ≡ address_of lines l
address-label lines l h e = address-by lines l h e

-- every mistake has a number
pub number_some : (m : Mistake) → mistake_number m ≡ 0 → ⊥
number_some TextBehind e = omega (arith, e)
number_some UnknownWord e = omega (arith, e)
number_some OperandMissing e = omega (arith, e)
number_some OperandUnwanted e = omega (arith, e)
number_some NoNumber e = omega (arith, e)
number_some NumberTooLarge e = omega (arith, e)
number_some LabelUnknown e = omega (arith, e)
number_some LabelTwice e = omega (arith, e)
number_some NotInPage e = omega (arith, e)
number_some NoCzpAddress e = omega (arith, e)
number_some BeyondEnd e = omega (arith, e)
number_some ByteTwice e = omega (arith, e)
number_some SecondElsewhere e = omega (arith, e)
number_some RomNotFirst e = omega (arith, e)

-- the bytes of a statement, part by part
module _ (k : Kind) (first : ℕ) (lines : List Line) (operand : List ℕ) (at : ℕ) where
  abbrev coded_with : Value → Coded → ℕ → Coded
  coded_with v b e = record { mistake = first_of v.mistake (first_of b.mistake e); bytes = b.bytes }

  abbrev away : ℕ
  away = cond (long_for k && eqb (at % 256) 255) 13 0

  coded_of' : (v : Value) → v ≡ operand_for k lines operand → coded_with v (coded_by k first at v.value) away ≡ coded k first lines operand at
  unfolding coded
  coded_of' v e = ap (λ (w : Value). coded_with w (coded_by k first at w.value) away) e

  pub coded_value : {m : ℕ} → (m ≡ 0 → ⊥) → wrong m ≡ operand_for k lines operand → m ≡ (coded k first lines operand at).mistake
  coded_value {m} h e =
      first_some m (first_of (coded_by k first at 0).mistake away) h ∙ ap (λ (c : Coded). c.mistake) (coded_of' (wrong m) e)

  module _ {n : ℕ} (e : good n ≡ operand_for k lines operand) where
    pub coded_bytes : {m : ℕ} → (m ≡ 0 → ⊥) → m ≡ (coded_by k first at n).mistake → m ≡ (coded k first lines operand at).mistake
    coded_bytes {m} h f = first_some m away h ∙ ap (λ (d : ℕ). first_of d away) f ∙ ap (λ (c : Coded). c.mistake) (coded_of' (good n) e)

    pub coded_good : {b : Bool} → 0 ≡ (coded_by k first at n).mistake → (long_for k && eqb (at % 256) 255) ≡ b → cond b 13 0 ≡ (coded k first lines operand at).mistake
    coded_good f g = ap (λ (b : Bool). cond b 13 0) (sym g) ∙ ap (λ (d : ℕ). first_of d away) f ∙ ap (λ (c : Coded). c.mistake) (coded_of' (good n) e)

    pub coded_told : {l : List ℕ} → l ≡ (coded_by k first at n).bytes → l ≡ (coded k first lines operand at).bytes
    coded_told f = f ∙ ap (λ (c : Coded). c.bytes) (coded_of' (good n) e)
