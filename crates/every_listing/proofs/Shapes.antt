-- The text of an item, cut again into label, word and operand. Assumes nothing.
use mathlib.Core.Path.{◌≡◌, ◌∙◌, refl, sym, ap, subst}
use mathlib.Core.Bool.{Bool, true, false, cond, not, ◌&&◌, ◌||◌}
use mathlib.Core.List.{List, [], ◌∷◌, ◌++◌, append_assoc, append-nil}
use Prim.Native.Nat.{ℕ, zero, suc, ◌+◌, ◌-◌, ◌/◌, ◌%◌, ◌<◌, ◌≤◌}
use native.Mathlib.Omega.{arith}
use lib.Dec.{T, eqb, leb, leb→le}
use lib.ListN.{length, take, replicate}
use borrow.Author.Tests.{ne_eqb, leb-true}
use Rattle.upd546.specs.Sequences.{same_numbers}
use Rattle.upd546.specs.TheMachine.{follows}
use Rattle.upd546.specs.Instructions.{instruction}
use Rattle.upd546.specs.Reports.{hex_digit, space}
use Rattle.upd546.proofs.Computed.{both_left, both_right, every_at}
use Rattle.mnemonics.specs.Texts.{ascii, hex1, hex2, hex3}
use Rattle.mnemonics.specs.Mnemonics.{Kind, without, bits, nibble, byte, far, zero_page, in_page, no_instruction, kind_of, leads_for, none_for, long_for, word_of, byte_text}
use Rattle.listing.specs.Listing.{Item, begins, led_to, target, label_of, label_text, field_text, statement_text, bytes_text, remark, comment}
use Rattle.assembly.specs.Grammar.{upper, uppers, is_blank, is_solid, is_semicolon, is_colon, is_newline, before, onwards, first_word, behind, Line, line_by, parsed}
use Rattle.every_listing.proofs.Parts.{free, joined, free_append, before_free, onwards-free, onwards-stop, letter_solid, nothing-behind, blanks, blanks_free, upper_blanks, upper_append, in_word, clean, clean_free, upper_clean, word_at, no_word, line_of, alone, with_operand, read_alone, read_operand, plain_line, labelled-line}
use Rattle.every_listing.proofs.Digits.{hex1_clean, hex2_clean, hex3_clean}
use Rattle.every_listing.proofs.Codes.{trimmed}

-- WHAT IS READ OF AN ITEM

abbrev pub word_read : Item → List ℕ
word_read i = cond (none_for i.kind) (ascii "BYTE") (trimmed i.code)

-- b: the target is told by a label
abbrev pub operand_read : Kind → Bool → Item → List ℕ
operand_read without b i = []
operand_read bits b i = hex1 (i.code % 4)
operand_read nibble b i = hex1 i.code
operand_read byte b i = hex2 i.second
operand_read far b i = cond b (label_of (target i)) (hex3 (target i))
operand_read zero_page b i = cond b (label_of (target i)) (hex3 (target i))
operand_read in_page b i = cond b (label_of (target i)) (hex3 (target i))
operand_read no_instruction b i = hex2 i.code

abbrev pub label_read : Bool → ℕ → List ℕ
label_read true a = label_of a
label_read false a = []

pub label_clean : (a : ℕ) → T (clean (label_of a))
label_clean a = hex3_clean a

-- BLANKS ASIDE

swap : (k : ℕ) (t : List ℕ) → blanks k ++ 32 ∷ t ≡ 32 ∷ (blanks k ++ t)
swap zero t = refl
swap (suc k) t = ap (λ (r : List ℕ). 32 ∷ r) (swap k t)

-- a word that was filled up, a space, and what is behind it
pub filled_word : (w : List ℕ) (k : ℕ) (t : List ℕ) → (w ++ blanks k) ++ 32 ∷ t ≡ w ++ 32 ∷ (blanks k ++ t)
filled_word w k t = append_assoc w (blanks k) (32 ∷ t) ∙ ap (λ (r : List ℕ). w ++ r) (swap k t)

-- NO NEWLINE

stays : (c : ℕ) → T (not (is_newline c)) → T (not (is_newline (upper c)))
stays c h = go (leb 97 c) (leb c 122) refl refl
  where
    go : (p q : Bool) → leb 97 c ≡ p → leb c 122 ≡ q → T (not (is_newline (cond (p && q) (c - 32) c)))
    go true true e f =
        let low = leb-true 97 c e in
        subst (λ (b : Bool). T (not b)) (sym (ne_eqb (c - 32) 10 (λ (z : c - 32 ≡ 10). omega arith))) tt
    go true false e f = h
    go false true e f = h
    go false false e f = h

pub upper_free : (t : List ℕ) → T (free is_newline t) → T (free is_newline (uppers t))
unfolding uppers
upper_free [] h = tt
upper_free (c ∷ t) h =
    joined (not (is_newline (upper c))) (free is_newline (uppers t)) (stays c (both_left (not (is_newline c)) (free is_newline t) h)) (upper_free t (both_right (not (is_newline c)) (free is_newline t) h))

digits_free : (v : ℕ) → T (free is_newline (hex3 v)) × T (free is_newline (hex2 v))
digits_free v = ((clean_free (hex3 v) (hex3_clean v)).3, (clean_free (hex2 v) (hex2_clean v)).3)

cond_free : (b : Bool) (s t : List ℕ) → T (free is_newline s) → T (free is_newline t) → T (free is_newline (cond b s t))
cond_free true s t p q = p
cond_free false s t p q = q

after : (s t : List ℕ) → T (free is_newline s) → T (free is_newline t) → T (free is_newline (s ++ t))
after = free_append is_newline

cycles_free : (n : ℕ) → T (free is_newline ((48 + n) ∷ []))
cycles_free n = subst (λ (b : Bool). T (not b && true)) (sym (ne_eqb (48 + n) 10 (λ (z : 48 + n ≡ 10). omega arith))) tt

pub comment-free : (i : Item) → T (free is_newline (comment i))
comment-free i =
    after (space ++ hex3 i.at ++ space ++ bytes_text i ++ space ++ ((48 + (instruction i.code).cycles) ∷ [])) (remark i)
    (after (space ++ hex3 i.at ++ space ++ bytes_text i ++ space) ((48 + (instruction i.code).cycles) ∷ [])
    (after (space ++ hex3 i.at ++ space ++ bytes_text i) space
    (after (space ++ hex3 i.at ++ space) (bytes_text i) (after (space ++ hex3 i.at) space (digits_free i.at).0 tt) bytes)
    tt)
    (cycles_free (instruction i.code).cycles))
    (cond_free (none_for i.kind) (cond (long_for (kind_of i.code)) (ascii " second byte at " ++ hex3 (follows i.at)) (ascii " no instruction")) []
    (cond_free (long_for (kind_of i.code)) (ascii " second byte at " ++ hex3 (follows i.at)) (ascii " no instruction") (digits_free (follows i.at)).0 tt) tt)
  where
    bytes : T (free is_newline (bytes_text i))
    bytes =
        after (hex2 i.code) (cond (long_for i.kind) (space ++ hex2 i.second) (ascii "   ")) (digits_free i.code).1
        (cond_free (long_for i.kind) (space ++ hex2 i.second) (ascii "   ") (digits_free i.second).1 tt)

-- A LINE OF A LABEL, A WORD AND AN OPERAND

-- a line without a label begins with six blanks; one with a label has a colon and a blank behind it
abbrev pub line_front : Bool → ℕ → List ℕ → List ℕ
line_front true a s = label_of a ++ 58 ∷ s
line_front false a s = blanks 5 ++ s

pub sole_word : (c : ℕ) (w : List ℕ) → T (clean (c ∷ w)) → first_word (c ∷ w) ≡ c ∷ w
unfolding before
sole_word c w h =
    ap (before is_blank) (onwards-stop is_solid c w (letter_solid c (both_left (in_word c) (clean w) h)))
    ∙ ap (before is_blank) (sym (append-nil (c ∷ w)))
    ∙ before_free is_blank (c ∷ w) [] (clean_free (c ∷ w) h).0
    ∙ append-nil (c ∷ w)

pub sole_behind : (c : ℕ) (w : List ℕ) → T (clean (c ∷ w)) → first_word (behind (c ∷ w)) ≡ []
unfolding onwards
sole_behind c w h =
    ap first_word (ap (onwards is_blank) (onwards-stop is_solid c w (letter_solid c (both_left (in_word c) (clean w) h)))
    ∙ ap (onwards is_blank) (sym (append-nil (c ∷ w)))
    ∙ onwards-free is_blank (c ∷ w) [] (clean_free (c ∷ w) h).0)
    ∙ no_word 0

module _ (led : Bool) (a : ℕ) (s note : List ℕ) (line : Line) (hs : T (free is_semicolon s)) (hc : T (free is_colon s))
    (bare : line_by [] (blanks 5 ++ s) ≡ line_of [] line.word line.operand)
    (marked : line_by (label_of a) s ≡ line_of (label_of a) line.word line.operand) where
  pub parsed_front : parsed (line_front led a s ++ 59 ∷ note) ≡ line_of (label_read led a) line.word line.operand
  parsed_front = go led
    where
      go : (b : Bool) → parsed (line_front b a s ++ 59 ∷ note) ≡ line_of (label_read b a) line.word line.operand
      go true = labelled-line (label_of a) s note (clean_free (label_of a) (label_clean a)).1 (clean_free (label_of a) (label_clean a)).2 hs ∙ marked
      go false = plain_line (blanks 5 ++ s) note (free_append is_semicolon (blanks 5) s tt hs) (free_append is_colon (blanks 5) s tt hc) ∙ bare

-- no label
pub none_first : first_word [] ≡ []
none_first = no_word 0

pub none_behind : first_word (behind []) ≡ []
none_behind = ap first_word (nothing-behind 0) ∙ no_word 0

module _ (led : Bool) (a k : ℕ) (note : List ℕ) where
  pub parsed_alone : (w : List ℕ) → T (clean w) → T (leb 1 (length w)) → parsed (line_front led a (alone 1 w k) ++ 59 ∷ note) ≡ line_of (label_read led a) w []
  parsed_alone [] hw hn = absurd hn
  parsed_alone (c ∷ w) hw hn =
      parsed_front led a (alone 1 (c ∷ w) k) note (line_of [] (c ∷ w) [])
      (free_append is_semicolon (c ∷ w) (blanks (suc k)) (clean_free (c ∷ w) hw).1 (blanks_free (suc k)).1)
      (free_append is_colon (c ∷ w) (blanks (suc k)) (clean_free (c ∷ w) hw).2 (blanks_free (suc k)).2)
      (read_alone [] [] none_first none_behind 6 c k w hw)
      (read_alone (label_of a) (label_of a) (sole_word 76 (hex3 a) (label_clean a)) (sole_behind 76 (hex3 a) (label_clean a)) 1 c k w hw)

  pub parsed_operand : (w o : List ℕ) (m : ℕ) → T (clean w) → T (leb 1 (length w)) → T (clean o) → T (leb 1 (length o))
      → parsed (line_front led a (with_operand 1 w k o m) ++ 59 ∷ note) ≡ line_of (label_read led a) w o
  parsed_operand [] o m hw hn ho hm = absurd hn
  parsed_operand (c ∷ w) [] m hw hn ho hm = absurd hm
  parsed_operand (c ∷ w) (d ∷ o) m hw hn ho hm =
      parsed_front led a (with_operand 1 (c ∷ w) k (d ∷ o) m) note (line_of [] (c ∷ w) (d ∷ o))
      (free_append is_semicolon (c ∷ w) rest (clean_free (c ∷ w) hw).1 (free_append is_semicolon (blanks k) last (blanks_free k).1 (free_append is_semicolon (d ∷ o) (blanks (suc m)) (clean_free (d ∷ o) ho).1 (blanks_free (suc m)).1)))
      (free_append is_colon (c ∷ w) rest (clean_free (c ∷ w) hw).2 (free_append is_colon (blanks k) last (blanks_free k).2 (free_append is_colon (d ∷ o) (blanks (suc m)) (clean_free (d ∷ o) ho).2 (blanks_free (suc m)).2)))
      (read_operand [] [] none_first none_behind 6 c k w hw d m o ho)
      (read_operand (label_of a) (label_of a) (sole_word 76 (hex3 a) (label_clean a)) (sole_behind 76 (hex3 a) (label_clean a)) 1 c k w hw d m o ho)
    where
      last : List ℕ
      last = (d ∷ o) ++ 32 ∷ blanks m

      rest : List ℕ
      rest = 32 ∷ (blanks k ++ last)

-- CAPITALS

-- of the whole line
pub line_upper : (led : Bool) (a : ℕ) (st cm : List ℕ)
    → uppers (label_text led a ++ space ++ st ++ ascii " ;" ++ cm) ≡ line_front led a (32 ∷ (uppers st ++ 32 ∷ [])) ++ 59 ∷ uppers cm
unfolding uppers
line_upper led a st cm =
    ap uppers (regroup (label_text led a ++ space) st cm) ∙ upper_append (label_text led a ++ space) (st ++ 32 ∷ 59 ∷ cm)
    ∙ ap (λ (r : List ℕ). uppers (label_text led a ++ space) ++ r) (upper_append st (32 ∷ 59 ∷ cm))
    ∙ go led
  where
    regroup : (l s c : List ℕ) → l ++ s ++ ascii " ;" ++ c ≡ l ++ (s ++ 32 ∷ 59 ∷ c)
    regroup l s c = simp append_assoc

    ending : (p s c : List ℕ) → label_of a ++ p ++ (s ++ 32 ∷ 59 ∷ c) ≡ (label_of a ++ (p ++ (s ++ 32 ∷ []))) ++ 59 ∷ c
    ending p s c = simp append_assoc

    go : (b : Bool) → uppers (label_text b a ++ space) ++ (uppers st ++ 32 ∷ 59 ∷ uppers cm) ≡ line_front b a (32 ∷ (uppers st ++ 32 ∷ [])) ++ 59 ∷ uppers cm
    go true =
        ap (λ (r : List ℕ). r ++ (uppers st ++ 32 ∷ 59 ∷ uppers cm)) (upper_append (label_of a) (58 ∷ 32 ∷ []) ∙ ap (λ (r : List ℕ). r ++ (58 ∷ 32 ∷ [])) (upper_clean (label_of a) (label_clean a)))
        ∙ ending (58 ∷ 32 ∷ []) (uppers st) (uppers cm)
    go false = sym (ap (λ (r : List ℕ). blanks 6 ++ r) (append_assoc (uppers st) (32 ∷ []) (59 ∷ uppers cm)))
