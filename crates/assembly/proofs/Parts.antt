-- Parts of a text by the places that the code finds, and the parts of a line. Assumes nothing.
use mathlib.Core.Path.{◌≡◌, ◌∙◌, refl, sym, ap, ap₂}
use mathlib.Core.Bool.{Bool, true, false, not, cond}
use mathlib.Core.List.{List, [], ◌∷◌, ◌++◌, map}
use Prim.Native.Nat.{ℕ, suc, ◌+◌, ◌-◌, ◌<◌, ◌≤◌}
use native.Mathlib.Omega.{arith}
use lib.Dec.{eqb, ltb}
use borrow.Author.Tests.{ne_eqb, le-leb, lt-leb, ltb-true, ltb-false}
use lib.ListN.{length, get_or, take, drop, drop_of_length-le, length-drop}
use lib.Seq.{drop-cons, take_all}
use Rattle.std.proofs.Common.{Option, Some, None}
use Rattle.std.proofs.lemmas.Bool.{false≢true}
use Rattle.std.proofs.lemmas.List.Recursion.{is_position_or_len}
use Rattle.std.specs.Char.{to_ascii_uppercase}
use Rattle.std.specs.List.{position_or_len}
use Rattle.std.specs.Option.{unwrap_or, is_some}
use Rattle.assembly.specs.Grammar.{upper, uppers, is_semicolon, is_colon, before, onwards, first_word, behind, line_by, split, parsed}
use Rattle.assembly.specs.Places.{front_by, statement_by, front_of, statement_of, is_there, has_more}

-- THE PLACE OF A LETTER

module _ (test : ℕ → Bool) where
  abbrev before_by : Bool → ℕ → List ℕ → List ℕ
  before_by b c t = elim b [ true ↦ [] | false ↦ c ∷ before test t ]

  abbrev onwards_by : Bool → ℕ → List ℕ → List ℕ
  onwards_by b c t = elim b [ true ↦ c ∷ t | false ↦ onwards test t ]

  pub before_most : (l : List ℕ) → length (before test l) ≤ length l
  unfolding before
  before_most [] = omega arith
  before_most (c ∷ t) = go (test c) (before_most t)
    where
      go : (b : Bool) → length (before test t) ≤ length t → length (before_by b c t) ≤ suc (length t)
      go true h = omega arith
      go false h = omega (arith, h)

  pub take-before : (l : List ℕ) → take (length (before test l)) l ≡ before test l
  unfolding before
  take-before [] = refl
  take-before (c ∷ t) = go (test c) (take-before t)
    where
      go : (b : Bool) → take (length (before test t)) t ≡ before test t → take (length (before_by b c t)) (c ∷ t) ≡ before_by b c t
      go true e = refl
      go false e = ap (λ (l : List ℕ). c ∷ l) e

  pub drop-before : (l : List ℕ) → drop (length (before test l)) l ≡ onwards test l
  unfolding before onwards
  drop-before [] = refl
  drop-before (c ∷ t) = go (test c) (drop-before t)
    where
      go : (b : Bool) → drop (length (before test t)) t ≡ onwards test t → drop (length (before_by b c t)) (c ∷ t) ≡ onwards_by b c t
      go true e = refl
      go false e = e

module _ (test : ℕ → Bool) where
  at_first : (l : List ℕ) → position_or_len test l ≡ length (before test l)
  unfolding before
  at_first l = sym (is_position_or_len (λ (l : List ℕ). length (before test l)) test refl (λ c t. go (test c) c t) l)
    where
      go : (b : Bool) (c : ℕ) (t : List ℕ) → length (before_by test b c t) ≡ cond b 0 (1 + length (before test t))
      go true c t = refl
      go false c t = omega arith

  -- what `position` gives
  abbrev pub first_place : List ℕ → Option ℕ
  first_place l = cond (ltb (position_or_len test l) (length l)) (Some (position_or_len test l)) None

  pub found : (l : List ℕ) {r : Option ℕ} {n : ℕ} → r ≡ first_place l → n ≡ unwrap_or r (length l) → n ≡ length (before test l)
  found l {n = n} e f = go (ltb (position_or_len test l) (length l)) refl (f ∙ ap (λ (o : Option ℕ). unwrap_or o (length l)) e)
    where
      go : (b : Bool) → ltb (position_or_len test l) (length l) ≡ b → n ≡ unwrap_or (cond b (Some (position_or_len test l)) None) (length l) → n ≡ length (before test l)
      go true t g = g ∙ at_first l
      go false t g = omega (arith, ltb-false (position_or_len test l) (length l) t, at_first l, before_most test l, g)

  pub found_some : (l : List ℕ) {r : Option ℕ} {k : ℕ} → r ≡ first_place l → r ≡ Some k → (k ≡ length (before test l)) × (k < length l)
  found_some l {k = k} e f = go (ltb (position_or_len test l) (length l)) refl (sym e ∙ f)
    where
      go : (b : Bool) → ltb (position_or_len test l) (length l) ≡ b → cond b (Some (position_or_len test l)) None ≡ Some k → (k ≡ length (before test l)) × (k < length l)
      go true t g =
          let same : position_or_len test l ≡ k = ap (λ (o : Option ℕ). unwrap_or o 0) g in
          (sym same ∙ at_first l, omega (arith, same, ltb-true (position_or_len test l) (length l) t))
      go false t g = absurd (false≢true (ap is_some g))

  pub found_none : (l : List ℕ) {r : Option ℕ} → r ≡ first_place l → r ≡ None → length l ≤ length (before test l)
  found_none l e f = go (ltb (position_or_len test l) (length l)) refl (sym e ∙ f)
    where
      go : (b : Bool) → ltb (position_or_len test l) (length l) ≡ b → cond b (Some (position_or_len test l)) None ≡ None → length l ≤ length (before test l)
      go true t g = absurd (false≢true (sym (ap is_some g)))
      go false t g = omega (arith, ltb-false (position_or_len test l) (length l) t, at_first l)

pub take_rest : (n : ℕ) (l : List ℕ) → take (length l - n) (drop n l) ≡ drop n l
take_rest n l = take_all (length l - n) (drop n l) (omega (arith, length-drop n l))

-- THE PARTS OF A LINE

-- of a place found, there is a colon; else there is none
colon_there : (s : List ℕ) → length (before is_colon s) < length s → onwards is_colon s ≡ get_or s (length (before is_colon s)) 0 ∷ drop (suc (length (before is_colon s))) s
colon_there s h = sym (drop-before is_colon s) ∙ drop-cons s (length (before is_colon s)) 0 h

colon_none : (s : List ℕ) → length s ≤ length (before is_colon s) → onwards is_colon s ≡ []
colon_none s h = sym (drop-before is_colon s) ∙ drop_of_length-le s h

module _ (line : List ℕ) {s : List ℕ} (e : s ≡ before is_semicolon line) where
  front_by_lem : front_by s (onwards is_colon s) ≡ front_of line
  unfolding front_of
  front_by_lem = ap (λ (t : List ℕ). front_by t (onwards is_colon t)) e

  statement_by_lem : statement_by s (onwards is_colon s) ≡ statement_of line
  unfolding statement_of
  statement_by_lem = ap (λ (t : List ℕ). statement_by t (onwards is_colon t)) e

  pub front_there : {colon : ℕ} → colon ≡ length (before is_colon s) → colon < length s → take colon s ≡ front_of line
  front_there {colon} f h =
      let at : take colon s ≡ before is_colon s = ap (λ (k : ℕ). take k s) f ∙ take-before is_colon s in
      let by : before is_colon s ≡ front_by s (onwards is_colon s) = sym (ap (front_by s) (colon_there s (omega (arith, f)))) in
      at ∙ by ∙ front_by_lem

  pub front_none : length s ≤ length (before is_colon s) → [] ≡ front_of line
  front_none h = sym (ap (front_by s) (colon_none s h)) ∙ front_by_lem

  pub statement_there : {colon : ℕ} → colon ≡ length (before is_colon s) → colon < length s → drop (colon + 1) s ≡ statement_of line
  statement_there {colon} f h =
      let place : colon + 1 ≡ suc (length (before is_colon s)) = omega (arith, f) in
      let at : drop (colon + 1) s ≡ drop (suc (length (before is_colon s))) s = ap (λ (k : ℕ). drop k s) place in
      at ∙ sym (ap (statement_by s) (colon_there s (omega (arith, f)))) ∙ statement_by_lem

  pub statement_none : length s ≤ length (before is_colon s) → s ≡ statement_of line
  statement_none h = sym (ap (statement_by s) (colon_none s h)) ∙ statement_by_lem

pub parsed_by : (line : List ℕ) → parsed line ≡ line_by (front_of line) (statement_of line)
unfolding parsed front_of statement_of
parsed_by line = go (onwards is_colon (before is_semicolon line))
  where
    go : (t : List ℕ) → split (before is_semicolon line) t ≡ line_by (front_by (before is_semicolon line) t) (statement_by (before is_semicolon line) t)
    go [] = refl
    go (c ∷ t) = refl

-- text that doesn't belong there, in front of the colon or behind it
there_first : (w v : List ℕ) → (length w ≡ 0 → ⊥) → true ≡ is_there (w ++ v)
there_first [] v h = absurd (h refl)
there_first (c ∷ t) v h = refl

there_second : (w v : List ℕ) → length w ≡ 0 → not (eqb (length v) 0) ≡ is_there (w ++ v)
there_second [] [] h = refl
there_second [] (c ∷ t) h = ap not (ne_eqb (suc (length t)) 0 (λ e. omega (arith, e)))
there_second (c ∷ t) v h = absurd (some (length t) h)
  where
    some : (n : ℕ) → suc n ≡ 0 → ⊥
    some n e = omega (arith, e)

module _ (line : List ℕ) {w : List ℕ} (e : w ≡ first_word (behind (front_of line))) where
  more_by : {v : List ℕ} → v ≡ first_word (behind (behind (statement_of line))) → is_there (w ++ v) ≡ has_more (parsed line)
  more_by {v} f =
      ap (λ (l : List ℕ). is_there (l ++ v)) e ∙ ap (λ (l : List ℕ). is_there (first_word (behind (front_of line)) ++ l)) f
      ∙ sym (ap has_more (parsed_by line))

  pub more_front : (length w ≡ 0 → ⊥) → true ≡ has_more (parsed line)
  more_front h = there_first w (first_word (behind (behind (statement_of line)))) h ∙ more_by refl

  pub more_back : length w ≡ 0 → {v : List ℕ} → v ≡ first_word (behind (behind (statement_of line))) → not (eqb (length v) 0) ≡ has_more (parsed line)
  more_back h {v} f = there_second w v h ∙ more_by f

-- CAPITAL LETTERS

pub upper_by : (c : ℕ) → to_ascii_uppercase c ≡ upper c
upper_by c = go (ltb c 97) refl (ltb c 123) refl
  where
    go : (a : Bool) → ltb c 97 ≡ a → (z : Bool) → ltb c 123 ≡ z → cond a c (cond z (c - 32) c) ≡ upper c
    go true e z f = rw (lt-leb 97 c (ltb-true c 97 e)) refl
    go false e true f = rw (le-leb 97 c (ltb-false c 97 e), le-leb c 122 (omega (arith, ltb-true c 123 f))) refl
    go false e false f = rw (le-leb 97 c (ltb-false c 97 e), lt-leb c 122 (omega (arith, ltb-false c 123 f))) refl

pub uppers_by : (text : List ℕ) → map to_ascii_uppercase text ≡ uppers text
unfolding uppers
uppers_by [] = refl
uppers_by (c ∷ t) = ap₂ (λ (u : ℕ) (l : List ℕ). u ∷ l) (upper_by c) (uppers_by t)
