-- The items of a ROM stand one behind the other, and each label is found at its address. Assumes nothing.
use mathlib.Core.Path.{◌≡◌, ◌∙◌, refl, sym, ap, subst}
use mathlib.Core.Bool.{Bool, true, false, cond, not, ◌&&◌, ◌||◌}
use mathlib.Core.List.{List, [], ◌∷◌, ◌++◌}
use Prim.Native.Nat.{ℕ, zero, suc, ◌+◌, ◌-◌, ◌%◌, ◌<◌, ◌≤◌}
use native.Mathlib.Omega.{arith}
use lib.Dec.{T, eqb}
use lib.ListN.{length, get_or, drop}
use borrow.Author.Tests.{eq-eqb, eqb-true, eqb-false}
use Rattle.upd546.specs.Sequences.{same_numbers}
use Rattle.mnemonics.specs.Texts.{ascii, hex3}
use Rattle.mnemonics.specs.Mnemonics.{Kind, without, bits, nibble, byte, far, zero_page, in_page, no_instruction, entry_of, kind_of, leads_for, none_for, long_for}
use Rattle.listing.specs.Listing.{Item, no_next, cut, shown_kind, item_at, items_from, items_of, led_to, begins, target, label_of}
use Rattle.assembly.specs.Grammar.{Line, parsed}
use Rattle.assembly.specs.Assembling.{Value, good, Action, gives, number_from, action_for, code_from, code_for, size_for, moved, moved_by, place_from}
use Rattle.every_listing.proofs.Codes.{trimmed, first_for, Word, word_of_lem, same_numbers_lem}
use Rattle.every_listing.proofs.Digits.{three_digits}
use Rattle.every_listing.proofs.Shapes.{word_read, label_read}
use Rattle.every_listing.proofs.Reading.{Readable, line_for, lines_for, Each, none, more}

pub yes_no : false ≡ true → ⊥
yes_no e = subst (λ (b : Bool). T (not b)) e tt

-- what an item of a ROM is
pub record Sound (i : Item) : Type 0 where
  pub code : i.code < 256
  pub second : i.second < 256
  pub low : i.at < 2000
  pub kind_is : none_for i.kind ≡ false → i.kind ≡ kind_of i.code
  pub in_row : long_for i.kind ≡ true → eqb (i.at % 256) 255 ≡ false

pub readable : (i : Item) → Sound i → Readable i
readable i s n = word_of_lem i.code s.code (sym (ap none_for (s.kind_is n)) ∙ n)

-- one behind the other, from an address on
pub data Chain : ℕ → List Item → Type 0 where
  end : {at : ℕ} → Chain at []
  link : {at : ℕ} {i : Item} {is : List Item} → i.at ≡ at → Sound i → Chain (at + size_for i.kind) is → Chain at (i ∷ is)

kind_is_lem : (k : Kind) (b : Bool) → none_for (cond b no_instruction k) ≡ false → cond b no_instruction k ≡ k
kind_is_lem k true e = absurd (yes_no (sym e))
kind_is_lem k false e = refl

in_row_lem : (k : Kind) (l e n : Bool) → long_for k ≡ l → long_for (cond (l && (e || n)) no_instruction k) ≡ true → e ≡ false
in_row_lem k true true n p q = absurd (yes_no q)
in_row_lem k true false n p q = refl
in_row_lem k false e n p q = absurd (yes_no (sym p ∙ q))

pub item_sound : (at c : ℕ) (rest : List ℕ) → c < 256 → get_or rest 0 0 < 256 → at < 2000 → Sound (item_at at c rest)
item_sound at c rest hc hs ha = record {
  code = hc;
  second = hs;
  low = ha;
  kind_is = kind_is_lem (kind_of c) (long_for (kind_of c) && cut at rest);
  in_row = in_row_lem (kind_of c) (long_for (kind_of c)) (eqb (at % 256) 255) (no_next rest) refl;
}

pub chain : (over : Bool) (at : ℕ) (bytes : List ℕ) → ((j : ℕ) → get_or bytes j 0 < 256) → at + length bytes ≤ 2000 → Chain (cond over (suc at) at) (items_from over at bytes)
unfolding items_from
chain over at [] h l = end
chain true at (c ∷ rest) h l = chain false (suc at) rest (λ j. h (suc j)) (omega arith)
chain false at (c ∷ rest) h l =
    link refl (item_sound at c rest (h 0) (h 1) (omega arith))
    (subst (λ (k : ℕ). Chain k (items_from (long_for (item_at at c rest).kind) (suc at) rest)) (go (long_for (item_at at c rest).kind))
    (chain (long_for (item_at at c rest).kind) (suc at) rest (λ j. h (suc j)) (omega arith)))
  where
    go : (b : Bool) → cond b (suc (suc at)) (suc at) ≡ at + cond b 2 1
    go true = omega arith
    go false = omega arith

pub each_readable : {at : ℕ} {is : List Item} → Chain at is → Each Readable is
each_readable end = none
each_readable (link {i = i} e s c) = more (readable i s) (each_readable c)

-- WHAT A WORD ASKS FOR

none_is : (k : Kind) → none_for k ≡ true → k ≡ no_instruction
none_is without e = absurd (yes_no e)
none_is bits e = absurd (yes_no e)
none_is nibble e = absurd (yes_no e)
none_is byte e = absurd (yes_no e)
none_is far e = absurd (yes_no e)
none_is zero_page e = absurd (yes_no e)
none_is in_page e = absurd (yes_no e)
none_is no_instruction e = refl

byte_action : action_for (ascii "BYTE") ≡ gives no_instruction 0
unfolding action_for
byte_action = refl

abbrev pub first_read : Item → ℕ
first_read i = cond (none_for i.kind) 0 (first_for i.code)

pub action_of : (i : Item) → Sound i → action_for (word_read i) ≡ gives i.kind (first_read i)
action_of i s = go (none_for i.kind) refl
  where
    go : (b : Bool) → none_for i.kind ≡ b → action_for (cond b (ascii "BYTE") (trimmed i.code)) ≡ gives i.kind (cond b 0 (first_for i.code))
    go true e = byte_action ∙ ap (λ (k : Kind). gives k 0) (sym (none_is i.kind e))
    go false e = (readable i s e).action ∙ ap (λ (k : Kind). gives k (first_for i.code)) (sym (s.kind_is e))

pub moved_by_lem : (all : List Item) (i : Item) (at : ℕ) → Sound i → moved (line_for all i) at ≡ at + size_for i.kind
moved_by_lem all i at s = ap (λ (a : Action). moved_by a (line_for all i).operand at) (action_of i s)

-- LABELS

labels_differ : (a b : ℕ) → a < 4096 → b < 4096 → (a ≡ b → ⊥) → same_numbers (label_of a) (label_of b) ≡ false
labels_differ a b ha hb n = go (same_numbers (label_of a) (label_of b)) refl
  where
    same : label_of a ≡ label_of b → a ≡ b
    same e = ap (λ (v : Value). v.value) (sym (three_digits a ha) ∙ ap (λ (l : List ℕ). number_of l) e ∙ three_digits b hb)
      where
        number_of : List ℕ → Value
        number_of l = number_from 0 (drop 1 l)

    go : (t : Bool) → same_numbers (label_of a) (label_of b) ≡ t → t ≡ false
    go true e = absurd (n (same (same_numbers_lem (label_of a) (label_of b) (subst (λ (t : Bool). T t) (sym e) tt))))
    go false e = refl

same_self : (l : List ℕ) → same_numbers l l ≡ true
same_self [] = refl
same_self (x ∷ l) = rw (eq-eqb x x refl) (same_self l)

place_here : (name : List ℕ) (at : ℕ) (l : Line) (ls : List Line) → same_numbers l.label name ≡ true → place_from name at (l ∷ ls) ≡ good at
unfolding place_from
place_here name at l ls e = rw (e, place_from)

place_on : (name : List ℕ) (at : ℕ) (l : Line) (ls : List Line) → same_numbers l.label name ≡ false → place_from name at (l ∷ ls) ≡ place_from name (moved l at) ls
unfolding place_from
place_on name at l ls e = rw (e, place_from)

module _ (all : List Item) (a : ℕ) (ha : a < 2048) (led : led_to all a ≡ true) where
  other_label : (b : Bool) (at : ℕ) → at < 2000 → (at ≡ a → ⊥) → same_numbers (label_read b at) (label_of a) ≡ false
  other_label true at h n = labels_differ at a (omega arith) (omega arith) n
  other_label false at h n = refl

  pub place_found : {at : ℕ} {is : List Item} → Chain at is → begins is a ≡ true → place_from (label_of a) at (lines_for all is) ≡ good a
  unfolding begins lines_for
  place_found end h = absurd (yes_no h)
  place_found {at} (link {i = i} {is = is} e s c) h = go (eqb i.at a) refl (place_found c)
    where
      go : (b : Bool) → eqb i.at a ≡ b → (begins is a ≡ true → place_from (label_of a) (at + size_for i.kind) (lines_for all is) ≡ good a)
          → place_from (label_of a) at (line_for all i ∷ lines_for all is) ≡ good a
      go true p later =
          let same : i.at ≡ a = eqb-true i.at a p in
          let label = ap (λ (k : ℕ). same_numbers (label_read (led_to all k) k) (label_of a)) same ∙ ap (λ (b : Bool). same_numbers (label_read b a) (label_of a)) led ∙ same_self (label_of a) in
          place_here (label_of a) at (line_for all i) (lines_for all is) label ∙ ap good (sym e ∙ same)
      go false p later =
          let differ = eqb-false i.at a p in
          place_on (label_of a) at (line_for all i) (lines_for all is) (other_label (led_to all i.at) i.at s.low differ)
          ∙ ap (λ (k : ℕ). place_from (label_of a) k (lines_for all is)) (moved_by_lem all i at s)
          ∙ later (ap (λ (b : Bool). b || begins is a) (sym p) ∙ h)
