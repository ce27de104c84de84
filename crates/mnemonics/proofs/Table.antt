-- What the table holds of each code, from computed checks over all of them. Assumes nothing.
use mathlib.Core.Path.{◌≡◌, ◌∙◌, refl, sym, ap}
use mathlib.Core.Bool.{Bool, true, false, ◌||◌, not, cond}
use mathlib.Core.List.{List, [], ◌∷◌, ◌++◌}
use Prim.Native.Nat.{ℕ, ◌+◌, ◌*◌, ◌/◌, ◌%◌, ◌<◌}
use native.Mathlib.Omega.{arith}
use lib.Dec.{T, eqb, eqb→eq}
use lib.ListN.{get_or, length, length-take}
use borrow.Author.Tests.{eq-eqb, eqb-true}
use Rattle.upd546.specs.Sequences.{same_numbers}
use Rattle.upd546.specs.Instructions.{instruction}
use Rattle.upd546.specs.Reports.{space}
use Rattle.upd546.proofs.Computed.{every_from, every_at, get_d_entries, entries-of}
use Rattle.mnemonics.specs.Mnemonics.{Kind, without, bits, nibble, byte, far, zero_page, in_page, no_instruction, entry_of, word_table, word_of, kind_of, long_for, operand_text, instruction_text}
use Rattle.mnemonics.specs.NoTwoAlike.{NoTwoAlike, BytesAgree}

every_length : T (every_from (λ code. eqb (length (entry_of code)) 4) 0 256)
unfolding entry_of
every_length = tt

-- the four letters of a code
letter : (code k : ℕ) → code < 256 → k < 4 → get_or word_table (4 * code + k) 0 ≡ get_or (entry_of code) k 0
unfolding word_table
letter code k h j =
    let e : (4 * code + k) / 4 ≡ code = omega arith in
    let f : (4 * code + k) % 4 ≡ k = omega arith in
    rw (get_d_entries 1024 (λ i. get_or (entry_of (i / 4)) (i % 4) 0) (4 * code + k) 0 (omega arith), e, f)

four : (l : List ℕ) → length l ≡ 4 → get_or l 0 0 ∷ get_or l 1 0 ∷ get_or l 2 0 ∷ get_or l 3 0 ∷ [] ≡ l
four l h = sym (rw h at (entries-of l))

pub entry_at : (code : ℕ) → code < 256
    → get_or word_table (4 * code) 0 ∷ get_or word_table (4 * code + 1) 0 ∷ get_or word_table (4 * code + 2) 0 ∷ get_or word_table (4 * code + 3) 0 ∷ [] ≡ entry_of code
entry_at code h =
    let z : 4 * code ≡ 4 * code + 0 = omega arith in
    let a = letter code 0 h (omega arith) in
    rw (letter code 1 h (omega arith), letter code 2 h (omega arith), letter code 3 h (omega arith), ap (λ (i : ℕ). get_or word_table i 0) z ∙ a)
    (four (entry_of code) (eqb→eq _ _ (every_at (λ c. eqb (length (entry_of c)) 4) 256 every_length code h)))

pub entry_length : (code : ℕ) → code < 256 → length (entry_of code) ≡ 4
entry_length code h = eqb→eq _ _ (every_at (λ c. eqb (length (entry_of c)) 4) 256 every_length code h)

-- THE TABLE'S RULE: one check over all pairs of codes

abbrev differ : ℕ → ℕ → Bool
differ a b = eqb a b || not (same_numbers (instruction_text 0 a 0) (instruction_text 0 b 0))

every_pair : T (every_from (λ a. every_from (differ a) 0 256) 0 256)
unfolding instruction_text entry_of
every_pair = tt

same_self : (l : List ℕ) → T (same_numbers l l)
same_self [] = tt
same_self (x ∷ xs) = rw (eq-eqb x x refl) (same_self xs)

pub no_two_alike : NoTwoAlike
no_two_alike a b ha hb e = go (eqb a b) refl
    (every_at (differ a) 256 (every_at (λ k. every_from (differ k) 0 256) 256 every_pair a ha) b hb)
  where
    same : T (same_numbers (instruction_text 0 a 0) (instruction_text 0 b 0))
    same = rw (← e) (same_self (instruction_text 0 a 0))

    refuted : (t : Bool) → T t → T (not t) → ⊥
    refuted true p q = q
    refuted false p q = p

    go : (t : Bool) → eqb a b ≡ t → T (t || not (same_numbers (instruction_text 0 a 0) (instruction_text 0 b 0))) → a ≡ b
    go true p d = eqb-true a b p
    go false p d = absurd (refuted (same_numbers (instruction_text 0 a 0) (instruction_text 0 b 0)) same d)

pub word_length : (code : ℕ) → code < 256 → length (word_of code) ≡ 3
word_length code h = omega (arith, length-take 3 (entry_of code), entry_length code h)

-- a word, a space and a field, letter by letter
pub joined : (w f : List ℕ) → length w ≡ 3 → length f ≡ 4
    → get_or w 0 0 ∷ get_or w 1 0 ∷ get_or w 2 0 ∷ 32 ∷ get_or f 0 0 ∷ get_or f 1 0 ∷ get_or f 2 0 ∷ get_or f 3 0 ∷ [] ≡ w ++ space ++ f
joined w f h k =
    ap (λ (l : List ℕ). get_or w 0 0 ∷ get_or w 1 0 ∷ get_or w 2 0 ∷ 32 ∷ l) (four f k)
    ∙ ap (λ (l : List ℕ). l ++ space ++ f) (sym (rw h at (entries-of w)))

pub field_length : (k : Kind) (at code second : ℕ) → length (operand_text k at code second) ≡ 4
field_length without at code second = refl
field_length bits at code second = refl
field_length nibble at code second = refl
field_length byte at code second = refl
field_length far at code second = refl
field_length zero_page at code second = refl
field_length in_page at code second = refl
field_length no_instruction at code second = refl

-- ONE OR TWO BYTES, of all codes

every_size : T (every_from (λ code. eqb (cond (long_for (kind_of code)) 2 1) (instruction code).bytes) 0 256)
unfolding entry_of instruction
every_size = tt

pub bytes_agree : BytesAgree
bytes_agree code h = eqb→eq _ _ (every_at (λ c. eqb (cond (long_for (kind_of c)) 2 1) (instruction c).bytes) 256 every_size code h)
