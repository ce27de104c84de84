-- The words of the table are found again, each by the first code that has it. Assumes nothing.
use mathlib.Core.Path.{◌≡◌, ◌∙◌, refl, sym, ap, subst}
use mathlib.Core.Bool.{Bool, true, false, cond, not, ◌&&◌, ◌||◌}
use mathlib.Core.List.{List, [], ◌∷◌, ◌++◌}
use Prim.Native.Nat.{ℕ, ◌+◌, ◌-◌, ◌*◌, ◌/◌, ◌%◌, ◌<◌, ◌≤◌}
use native.Mathlib.Omega.{arith}
use lib.Dec.{T, eqb, leb, eqb→eq, leb→le}
use lib.ListN.{length}
use Rattle.upd546.specs.Sequences.{same_numbers}
use Rattle.upd546.proofs.Computed.{both_left, both_right, every_from, every_at}
use Rattle.mnemonics.specs.Mnemonics.{Kind, without, bits, nibble, byte, far, zero_page, in_page, no_instruction, entry_of, kind_for, kind_of, none_for, word_of}
use Rattle.assembly.specs.Grammar.{is_blank, before}
use Rattle.assembly.specs.Assembling.{Action, nothing, sets_length, sets_address, gives, unknown, code_from, code_for, action_for}
use Rattle.every_listing.proofs.Parts.{blanks, clean}

-- the part of a code that its operand gives, and the first code that has the word
abbrev pub part_of : Kind → ℕ → ℕ
part_of without code = 0
part_of bits code = code % 4
part_of nibble code = code % 16
part_of byte code = 0
part_of far code = code % 8
part_of zero_page code = code % 16
part_of in_page code = code % 64
part_of no_instruction code = 0

abbrev pub first_for : ℕ → ℕ
first_for code = code - part_of (kind_of code) code

-- a word without the spaces behind it
abbrev pub trimmed : ℕ → List ℕ
trimmed code = before is_blank (word_of code)

abbrev letter_of : Kind → ℕ
letter_of without = 32
letter_of bits = 98
letter_of nibble = 107
letter_of byte = 115
letter_of far = 102
letter_of zero_page = 122
letter_of in_page = 112
letter_of no_instruction = 45

letter_back : (k : Kind) → kind_for (letter_of k) ≡ k
letter_back without = refl
letter_back bits = refl
letter_back nibble = refl
letter_back byte = refl
letter_back far = refl
letter_back zero_page = refl
letter_back in_page = refl
letter_back no_instruction = refl

abbrev gives_these : Action → Kind → ℕ → Bool
gives_these nothing k f = false
gives_these sets_length k f = false
gives_these sets_address k f = false
gives_these (gives k₁ f₁) k f = eqb (letter_of k₁) (letter_of k) && eqb f₁ f
gives_these unknown k f = false

gives_these_lem : (a : Action) (k : Kind) (f : ℕ) → T (gives_these a k f) → a ≡ gives k f
gives_these_lem nothing k f h = absurd h
gives_these_lem sets_length k f h = absurd h
gives_these_lem sets_address k f h = absurd h
gives_these_lem (gives k₁ f₁) k f h =
    let p = eqb→eq (letter_of k₁) (letter_of k) (both_left (eqb (letter_of k₁) (letter_of k)) (eqb f₁ f) h) in
    let q = eqb→eq f₁ f (both_right (eqb (letter_of k₁) (letter_of k)) (eqb f₁ f) h) in
    let e : k₁ ≡ k = sym (letter_back k₁) ∙ ap kind_for p ∙ letter_back k in
    λ i. gives (e i) (q i)
gives_these_lem unknown k f h = absurd h

-- ONE CHECK OVER ALL CODES: the word is clean, it is filled up with spaces, and it leads to the kind and the first code
abbrev found : ℕ → Bool
found code =
    none_for (kind_of code)
    || (gives_these (action_for (trimmed code)) (kind_of code) (first_for code)
    && clean (trimmed code)
    && leb 1 (length (trimmed code))
    && leb (length (trimmed code)) 3
    && same_numbers (word_of code) (trimmed code ++ blanks (3 - length (trimmed code)))
    && leb (part_of (kind_of code) code) code)

every_found : T (every_from found 0 256)
unfolding entry_of before code_from code_for action_for
every_found = tt

-- what the check says of a code that is an instruction
pub record Word (code : ℕ) : Type 0 where
  pub action : action_for (trimmed code) ≡ gives (kind_of code) (first_for code)
  pub is_clean : T (clean (trimmed code))
  pub some : T (leb 1 (length (trimmed code)))
  pub fills : word_of code ≡ trimmed code ++ blanks (3 - length (trimmed code))
  pub part : part_of (kind_of code) code ≤ code

pub same_numbers_lem : (a b : List ℕ) → T (same_numbers a b) → a ≡ b
same_numbers_lem [] [] h = refl
same_numbers_lem [] (y ∷ b) h = absurd h
same_numbers_lem (x ∷ a) [] h = absurd h
same_numbers_lem (x ∷ a) (y ∷ b) h =
    let p = eqb→eq x y (both_left (eqb x y) (same_numbers a b) h) in
    let q = same_numbers_lem a b (both_right (eqb x y) (same_numbers a b) h) in
    λ i. p i ∷ q i

pub word_of_lem : (code : ℕ) → code < 256 → none_for (kind_of code) ≡ false → Word code
word_of_lem code h n = apart (none_for (kind_of code)) n (every_at found 256 every_found code h)
  where
    a : Bool
    a = gives_these (action_for (trimmed code)) (kind_of code) (first_for code)

    b : Bool
    b = a && clean (trimmed code)

    c : Bool
    c = b && leb 1 (length (trimmed code))

    d : Bool
    d = c && leb (length (trimmed code)) 3

    e : Bool
    e = d && same_numbers (word_of code) (trimmed code ++ blanks (3 - length (trimmed code)))

    parts : T (e && leb (part_of (kind_of code) code) code) → Word code
    parts t =
        let te = both_left e (leb (part_of (kind_of code) code) code) t in
        let td = both_left d (same_numbers (word_of code) (trimmed code ++ blanks (3 - length (trimmed code)))) te in
        let tc = both_left c (leb (length (trimmed code)) 3) td in
        let tb = both_left b (leb 1 (length (trimmed code))) tc in
        record {
          action = gives_these_lem (action_for (trimmed code)) (kind_of code) (first_for code) (both_left a (clean (trimmed code)) tb);
          is_clean = both_right a (clean (trimmed code)) tb;
          some = both_right b (leb 1 (length (trimmed code))) tc;
          fills = same_numbers_lem (word_of code) (trimmed code ++ blanks (3 - length (trimmed code))) (both_right d (same_numbers (word_of code) (trimmed code ++ blanks (3 - length (trimmed code)))) te);
          part = leb→le (part_of (kind_of code) code) code (both_right e (leb (part_of (kind_of code) code) code) t);
        }

    apart : (x : Bool) → x ≡ false → T (x || (e && leb (part_of (kind_of code) code) code)) → Word code
    apart true z t = absurd (subst (λ (y : Bool). T y) z tt)
    apart false z t = parts t
