-- Numbers read digit by digit, words compared letter by letter, and the first code that has a word. Assumes nothing.
use mathlib.Core.Path.{◌≡◌, ◌∙◌, refl, sym, ap}
use mathlib.Core.Bool.{Bool, true, false, cond, ◌&&◌}
use mathlib.Core.List.{List, [], ◌∷◌, ◌++◌}
use Prim.Native.Nat.{ℕ, suc, ◌+◌, ◌-◌, ◌<◌, ◌≤◌}
use native.Mathlib.Numerals.{add-one}
use native.Mathlib.Omega.{arith}
use lib.Dec.{eqb, leb, ltb}
use lib.ListN.{length, get_or, take, drop, drop_of_length-le}
use lib.Seq.{drop-cons}
use borrow.Author.Tests.{lt-ltb, le-ltb, le-leb}
use lib.Pointwise.{pointwise}
use Rattle.upd546.specs.Sequences.{same_numbers}
use Rattle.mnemonics.specs.Texts.{ascii}
use Rattle.mnemonics.specs.Mnemonics.{no_instruction, word_of, kind_of}
use Rattle.assembly.specs.Assembling.{Action, good, wrong, no_number, digit_of, grown, number_from, limited, number_up_to, nothing, sets_length, sets_address, gives, unknown, code_from, code_for, action_for}

-- NUMBERS

-- by whether the letter at a place is a digit
by_digit : (l : List ℕ) (n i : ℕ) {t : Bool} → i < length l → ltb (digit_of (get_or l i 0)) 16 ≡ t
    → number_from n (drop i l) ≡ elim t [ true ↦ number_from (grown n (digit_of (get_or l i 0))) (drop (suc i) l) | false ↦ wrong no_number ]
unfolding number_from
by_digit l n i h e =
    ap (number_from n) (drop-cons l i 0 h)
    ∙ ap (λ (t : Bool). elim t [ true ↦ number_from (grown n (digit_of (get_or l i 0))) (drop (suc i) l) | false ↦ wrong no_number ]) e

pub digit_on : (l : List ℕ) (n i : ℕ) {d v : ℕ} → i < length l → d ≡ digit_of (get_or l i 0) → d < 16 → v ≡ grown n d
    → number_from v (drop (i + 1) l) ≡ number_from n (drop i l)
digit_on l n i {d} {v} h e s g =
    let at : number_from n (drop i l) ≡ number_from (grown n (digit_of (get_or l i 0))) (drop (suc i) l) = by_digit l n i h (ap (λ (k : ℕ). ltb k 16) (sym e) ∙ lt-ltb d 16 s) in
    let now : v ≡ grown n (digit_of (get_or l i 0)) = g ∙ ap (grown n) e in
    rw (add-one i) (ap (λ (k : ℕ). number_from k (drop (suc i) l)) now ∙ sym at)

pub digit_none : (l : List ℕ) (n i : ℕ) {d : ℕ} → i < length l → d ≡ digit_of (get_or l i 0) → 16 ≤ d → wrong no_number ≡ number_from n (drop i l)
digit_none l n i {d} h e s = sym (by_digit l n i h (ap (λ (k : ℕ). ltb k 16) (sym e) ∙ le-ltb d 16 s))

pub digit_end : (l : List ℕ) (n i : ℕ) → length l ≤ i → good n ≡ number_from n (drop i l)
unfolding number_from
digit_end l n i h = sym (ap (number_from n) (drop_of_length-le l h))

-- an operand that is there
pub operand_there : (limit : ℕ) (l : List ℕ) → (length l ≡ 0 → ⊥) → limited limit (number_from 0 l) ≡ number_up_to limit l
unfolding number_up_to
operand_there limit [] h = absurd (h refl)
operand_there limit (c ∷ t) h = refl

pub operand_none : (limit : ℕ) (l : List ℕ) → length l ≡ 0 → wrong 3 ≡ number_up_to limit l
unfolding number_up_to
operand_none limit [] h = refl
operand_none limit (c ∷ t) h = absurd (some (length t) h)
  where
    some : (n : ℕ) → suc n ≡ 0 → ⊥
    some n e = omega (arith, e)

-- an operand that is no number
pub operand_wrong : (limit n : ℕ) (l : List ℕ) → (length l ≡ 0 → ⊥) → wrong n ≡ number_from 0 l → wrong n ≡ number_up_to limit l
operand_wrong limit n l h e =
    let least : leb 0 limit ≡ true = le-leb 0 limit (omega arith) in
    sym (ap (λ (t : Bool). cond t (wrong n) (wrong 6)) least) ∙ ap (limited limit) e ∙ operand_there limit l h

-- WORDS

-- what `==` says of two lists of numbers
pub same_is : (a b : List ℕ) → pointwise eqb a b ≡ same_numbers a b
same_is [] [] = refl
same_is [] (y ∷ ys) = refl
same_is (x ∷ xs) [] = refl
same_is (x ∷ xs) (y ∷ ys) = ap (λ (t : Bool). eqb x y && t) (same_is xs ys)

-- a word that is compared with a text
pub text_told : (w : List ℕ) {s r : List ℕ} {t : Bool} → t ≡ pointwise eqb w s → s ≡ r → same_numbers w r ≡ t
text_told w {s} p q = ap (same_numbers w) (sym q) ∙ sym (p ∙ same_is w s)

-- CODES

abbrev word3 : List ℕ → List ℕ
word3 w = take 3 (w ++ ascii "   ")

by_code : (w : List ℕ) (code n : ℕ) {t : Bool} → same_numbers (word_of code) w ≡ t
    → code_from w code (suc n) ≡ elim t [ true ↦ gives (kind_of code) code | false ↦ code_from w (suc code) n ]
unfolding code_from
by_code w code n e = ap (λ (t : Bool). elim t [ true ↦ gives (kind_of code) code | false ↦ code_from w (suc code) n ]) e

module _ (w : List ℕ) (code : ℕ) (h : code < 256) where
  left : 256 - code ≡ suc (256 - (code + 1))
  left = omega arith

  pub code_on : same_numbers (word_of code) w ≡ false → code_from w (code + 1) (256 - (code + 1)) ≡ code_from w code (256 - code)
  code_on e =
      let at : code_from w code (suc (256 - (code + 1))) ≡ code_from w (suc code) (256 - (code + 1)) = by_code w code (256 - (code + 1)) e in
      ap (λ (k : ℕ). code_from w k (256 - (code + 1))) (add-one code) ∙ sym at ∙ ap (code_from w code) (sym left)

  pub code_here : same_numbers (word_of code) w ≡ true → gives (kind_of code) code ≡ code_from w code (256 - code)
  code_here e = sym (ap (code_from w code) left ∙ by_code w code (256 - (code + 1)) e)

pub code_end : (w : List ℕ) (code : ℕ) → 256 ≤ code → unknown ≡ code_from w code (256 - code)
unfolding code_from
code_end w code h = let none : 256 - code ≡ 0 = omega arith in sym (ap (code_from w code) none)

-- the word of a code is the one that is sought
pub code_told : (code : ℕ) {e s w : List ℕ} {t : Bool} → e ≡ word_of code → s ≡ w → t ≡ pointwise eqb e s → same_numbers (word_of code) w ≡ t
code_told code {e} {s} {w} p q r = ap (λ (l : List ℕ). same_numbers l w) (sym p) ∙ ap (same_numbers e) (sym q) ∙ sym (r ∙ same_is e s)

pub word_long : (w : List ℕ) → 3 < length w → unknown ≡ code_for w
unfolding code_for
word_long w h = sym (ap (λ (t : Bool). elim t [ true ↦ unknown | false ↦ code_from (word3 w) 0 256 ]) (lt-ltb 3 (length w) h))

pub word_short : (w : List ℕ) → length w ≤ 3 → code_from (word3 w) 0 256 ≡ code_for w
unfolding code_for
word_short w h = sym (ap (λ (t : Bool). elim t [ true ↦ unknown | false ↦ code_from (word3 w) 0 256 ]) (le-ltb 3 (length w) h))

-- WHAT A WORD ASKS FOR

pub asks_nothing : (w : List ℕ) → length w ≡ 0 → nothing ≡ action_for w
unfolding action_for
asks_nothing [] h = refl
asks_nothing (c ∷ t) h = absurd (some (length t) h)
  where
    some : (n : ℕ) → suc n ≡ 0 → ⊥
    some n e = omega (arith, e)

abbrev asks : List ℕ → Bool → Bool → Bool → Action
asks w r o b = elim r [ true ↦ sets_length | false ↦ elim o [ true ↦ sets_address | false ↦ elim b [ true ↦ gives no_instruction 0 | false ↦ code_for w ] ] ]

asks_by : (w : List ℕ) → (length w ≡ 0 → ⊥) → asks w (same_numbers w (ascii "ROM")) (same_numbers w (ascii "ORG")) (same_numbers w (ascii "BYTE")) ≡ action_for w
unfolding action_for
asks_by [] h = absurd (h refl)
asks_by (c ∷ t) h = refl

module _ (w : List ℕ) (some : length w ≡ 0 → ⊥) where
  pub asks_length : same_numbers w (ascii "ROM") ≡ true → sets_length ≡ action_for w
  asks_length r = sym (ap (λ (x : Bool). asks w x (same_numbers w (ascii "ORG")) (same_numbers w (ascii "BYTE"))) r) ∙ asks_by w some

  module _ (r : same_numbers w (ascii "ROM") ≡ false) where
    on : asks w false (same_numbers w (ascii "ORG")) (same_numbers w (ascii "BYTE")) ≡ action_for w
    on = sym (ap (λ (x : Bool). asks w x (same_numbers w (ascii "ORG")) (same_numbers w (ascii "BYTE"))) r) ∙ asks_by w some

    pub asks_address : same_numbers w (ascii "ORG") ≡ true → sets_address ≡ action_for w
    asks_address o = sym (ap (λ (x : Bool). asks w false x (same_numbers w (ascii "BYTE"))) o) ∙ on

    module _ (o : same_numbers w (ascii "ORG") ≡ false) where
      on2 : asks w false false (same_numbers w (ascii "BYTE")) ≡ action_for w
      on2 = sym (ap (λ (x : Bool). asks w false x (same_numbers w (ascii "BYTE"))) o) ∙ on

      pub asks_byte : same_numbers w (ascii "BYTE") ≡ true → gives no_instruction 0 ≡ action_for w
      asks_byte b = sym (ap (asks w false false) b) ∙ on2

      pub asks_code : same_numbers w (ascii "BYTE") ≡ false → code_for w ≡ action_for w
      asks_code b = sym (ap (asks w false false) b) ∙ on2
