-- The lines of a text by their places, and the addresses that they reach. Assumes nothing.
use mathlib.Core.Path.{◌≡◌, ◌∙◌, refl, sym, ap, ap₂}
use mathlib.Core.Bool.{Bool, true, false, cond}
use mathlib.Core.List.{List, [], ◌∷◌}
use Prim.Native.Nat.{ℕ, zero, suc, ◌+◌, ◌<◌, ◌≤◌}
use native.Mathlib.Numerals.{add-one}
use native.Mathlib.Omega.{arith}
use lib.Dec.{eqb, leb}
use lib.ListN.{length, get_or, drop, drop_of_length-le}
use lib.Seq.{drop-cons}
use borrow.Author.Tests.{leb-true}
use native.Mathlib.Nat.{not-suc-le-zero, le_of_suc-le-suc}
use Rattle.std.specs.List.{slice_split, onto_first, enumerate_from}
use Rattle.upd546.specs.Sequences.{same_numbers}
use Rattle.mnemonics.specs.Mnemonics.{Kind, long_for}
use Rattle.assembly.specs.Grammar.{Line, is_newline, before, onwards, onto, lines_of, parsed, parsed_all}
use Rattle.assembly.specs.Assembling.{Value, Action, nothing, sets_length, sets_address, gives, unknown, good, wrong, label_unknown, last_address, limited, number_from, number_up_to, action_for, size_for, moved_by, moved, place_from}

-- THE LINES FROM A PLACE ON

abbrev rest_of : List ℕ → List (List ℕ)
rest_of [] = []
rest_of (c ∷ t) = lines_of t

abbrev lines_by : Bool → ℕ → List ℕ → List (List ℕ)
lines_by b c t = elim b [ true ↦ [] ∷ lines_of t | false ↦ onto c (lines_of t) ]

abbrev before_by : Bool → ℕ → List ℕ → List ℕ
before_by b c t = elim b [ true ↦ [] | false ↦ c ∷ before is_newline t ]

abbrev onwards_by : Bool → ℕ → List ℕ → List ℕ
onwards_by b c t = elim b [ true ↦ c ∷ t | false ↦ onwards is_newline t ]

first_line : (t : List ℕ) → lines_of t ≡ before is_newline t ∷ rest_of (onwards is_newline t)
unfolding lines_of before onwards
first_line [] = refl
first_line (c ∷ t) = go (is_newline c) (first_line t)
  where
    go : (b : Bool) → lines_of t ≡ before is_newline t ∷ rest_of (onwards is_newline t) → lines_by b c t ≡ before_by b c t ∷ rest_of (onwards_by b c t)
    go true e = refl
    go false e = ap (onto c) e

-- as std cuts a text at its newlines
pub split_is : (text : List ℕ) → slice_split is_newline text ≡ lines_of text
unfolding lines_of
split_is [] = refl
split_is (c ∷ t) = go (is_newline c) (slice_split is_newline t) (lines_of t) (split_is t)
  where
    same : (ls : List (List ℕ)) → onto_first c ls ≡ onto c ls
    same [] = refl
    same (l ∷ ls) = refl

    go : (b : Bool) (p q : List (List ℕ)) → p ≡ q → cond b ([] ∷ p) (onto_first c p) ≡ elim b [ true ↦ [] ∷ q | false ↦ onto c q ]
    go true p q e = ap (λ (ls : List (List ℕ)). [] ∷ ls) e
    go false p q e = same p ∙ ap (onto c) e

-- how far lines reach, each with its newline
unfoldable pub reach : List (List ℕ) → ℕ
reach [] = 0
reach (l ∷ ls) = length l + 1 + reach ls

pub reach_next : {all : List (List ℕ)} {l : List ℕ} {rest : List (List ℕ)} → all ≡ l ∷ rest → reach all ≡ length l + 1 + reach rest
unfolding reach
reach_next e = ap reach e

reach_onto : (c : ℕ) (ls : List (List ℕ)) {l : List ℕ} {rest : List (List ℕ)} → ls ≡ l ∷ rest → reach (onto c ls) ≡ suc (reach ls)
unfolding reach
reach_onto c ls {l} {rest} e = ap (λ (k : List (List ℕ)). reach (onto c k)) e ∙ more ∙ ap (λ (k : List (List ℕ)). suc (reach k)) (sym e)
  where
    more : suc (length l) + 1 + reach rest ≡ suc (length l + 1 + reach rest)
    more = omega arith

pub reach_all : (text : List ℕ) → reach (lines_of text) ≡ length text + 1
unfolding lines_of reach
reach_all [] = refl
reach_all (c ∷ t) = go (is_newline c) (reach_all t)
  where
    go : (b : Bool) → reach (lines_of t) ≡ length t + 1 → reach (lines_by b c t) ≡ suc (length t) + 1
    go true e = omega (arith, e)
    go false e = omega (arith, reach_onto c (lines_of t) (first_line t), e)

pub reach_split : (text : List ℕ) → reach (slice_split is_newline text) ≡ length text + 1
reach_split text = ap reach (split_is text) ∙ reach_all text

pub reach_drop : (k : ℕ) (ls : List (List ℕ)) → reach (drop k ls) ≤ reach ls
unfolding reach
reach_drop zero ls = omega arith
reach_drop (suc k) [] = omega arith
reach_drop (suc k) (l ∷ ls) = omega (arith, reach_drop k ls)

pub few_lines : (ls : List (List ℕ)) → length ls ≤ reach ls
unfolding reach
few_lines [] = omega arith
few_lines (l ∷ ls) = omega (arith, few_lines ls)

-- a line's turn, and the end
pub turn_is : (all : List (List ℕ)) (k : ℕ) (x : List ℕ) → k < length all → x ≡ get_or all k x → drop k all ≡ x ∷ drop (k + 1) all
turn_is all k x h e = drop-cons all k x h ∙ ap₂ (λ (l : List ℕ) (i : ℕ). l ∷ drop i all) (sym e) (sym (add-one k))

pub numbered_turn : (n : ℕ) (all : List (List ℕ)) (k : ℕ) (x : ℕ × List ℕ) → k < length (enumerate_from n all) → x ≡ get_or (enumerate_from n all) k x
    → (x.0 ≡ n + k) × (drop k all ≡ x.1 ∷ drop (k + 1) all) × (k < length all)
numbered_turn n [] k x h e = absurd (not-suc-le-zero h)
numbered_turn n (l ∷ ls) zero x h e = (ap (λ (p : ℕ × List ℕ). p.0) e ∙ omega arith, ap (λ (p : ℕ × List ℕ). p.1 ∷ ls) (sym e), omega arith)
numbered_turn n (l ∷ ls) (suc k) x h e =
    let more = numbered_turn (n + 1) ls k x (le_of_suc-le-suc h) e in
    let next : suc (k + 1) ≡ suc k + 1 = omega arith in
    (omega (arith, more.0), more.1 ∙ ap (λ (i : ℕ). x.1 ∷ drop i (l ∷ ls)) next, omega (arith, more.2))

pub numbered_length : (n : ℕ) (all : List (List ℕ)) → length (enumerate_from n all) ≡ length all
numbered_length n [] = refl
numbered_length n (l ∷ ls) = ap suc (numbered_length (n + 1) ls)

pub parsed_next : {all : List (List ℕ)} {l : List ℕ} {rest : List (List ℕ)} → all ≡ l ∷ rest → parsed_all all ≡ parsed l ∷ parsed_all rest
unfolding parsed_all
parsed_next e = ap parsed_all e

pub parsed_end : (all : List (List ℕ)) (k : ℕ) → k ≡ length all → parsed_all (drop k all) ≡ []
unfolding parsed_all
parsed_end all k e = let most : length all ≤ k = omega (arith, e) in ap parsed_all (drop_of_length-le all most)

-- THE ADDRESS OF A LABEL

module _ (name : List ℕ) (at : ℕ) (l : Line) (ls : List Line) where
  abbrev place_by : Bool → Value
  place_by t = elim t [ true ↦ good at | false ↦ place_from name (moved l at) ls ]

  pub place_here : same_numbers l.label name ≡ true → good at ≡ place_from name at (l ∷ ls)
  unfolding place_from
  place_here e = sym (ap place_by e)

  pub place_on : same_numbers l.label name ≡ false → place_from name (moved l at) ls ≡ place_from name at (l ∷ ls)
  unfolding place_from
  place_on e = sym (ap place_by e)

pub place_end : (name : List ℕ) (at : ℕ) → wrong label_unknown ≡ place_from name at []
unfolding place_from
place_end name at = refl

-- how far a line moves the address
value_most : (limit : ℕ) (v : Value) → (limited limit v).value ≤ limit
value_most limit v = go (leb v.value limit) refl
  where
    go : (t : Bool) → leb v.value limit ≡ t → (cond t v (wrong 6)).value ≤ limit
    go true e = leb-true v.value limit e
    go false e = omega arith

number_most : (limit : ℕ) (l : List ℕ) → (number_up_to limit l).value ≤ limit
unfolding number_up_to
number_most limit [] = omega arith
number_most limit (c ∷ t) = value_most limit (number_from 0 (c ∷ t))

size_most : (k : Kind) → size_for k ≤ 2
size_most k = go (long_for k)
  where
    go : (t : Bool) → cond t 2 1 ≤ 2
    go true = omega arith
    go false = omega arith

moved_by_lem : (a : Action) (operand : List ℕ) (at b : ℕ) → at ≤ 2047 + b → moved_by a operand at ≤ 2047 + (b + 2)
moved_by_lem nothing operand at b h = omega (arith, h)
moved_by_lem sets_length operand at b h = omega (arith, h)
moved_by_lem sets_address operand at b h = go (eqb (number_up_to last_address operand).mistake 0)
  where
    go : (t : Bool) → cond t (number_up_to last_address operand).value at ≤ 2047 + (b + 2)
    go true = omega (arith, number_most last_address operand)
    go false = omega (arith, h)
moved_by_lem (gives k first) operand at b h = omega (arith, h, size_most k)
moved_by_lem unknown operand at b h = omega (arith, h)

pub moved_most : (line : List ℕ) (at b : ℕ) → at ≤ 2047 + b → moved (parsed line) at ≤ 2047 + (b + length line + 1)
unfolding parsed before onwards action_for
moved_most [] at b h = omega (arith, h)
moved_most (c ∷ t) at b h = omega (arith, moved_by_lem (action_for (parsed (c ∷ t)).word) (parsed (c ∷ t)).operand at b h)
