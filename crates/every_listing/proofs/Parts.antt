-- Texts of words and blanks: how they are cut into lines, and lines into words. Assumes nothing.
use mathlib.Core.Path.{◌≡◌, ◌∙◌, refl, sym, ap, subst}
use mathlib.Core.Bool.{Bool, true, false, not, ◌&&◌}
use mathlib.Core.List.{List, [], ◌∷◌, ◌++◌, append_assoc, append-nil}
use Prim.Native.Nat.{ℕ, zero, suc}
use lib.Dec.{T, eqb, eqb→eq}
use lib.ListN.{replicate}
use Rattle.upd546.proofs.Computed.{both_left, both_right}
use Rattle.assembly.specs.Grammar.{upper, uppers, is_blank, is_solid, is_semicolon, is_colon, is_newline, before, onwards, first_word, behind, onto, lines_of, Line, line_by, split, parsed}

-- no letter of a text passes a test
abbrev pub free : (ℕ → Bool) → List ℕ → Bool
free test [] = true
free test (c ∷ t) = not (test c) && free test t

pub fails : (b : Bool) → T (not b) → b ≡ false
fails true h = absurd h
fails false h = refl

both : (a b : Bool) → T (a && b) → T a × T b
both a b h = (both_left a b h, both_right a b h)

pub joined : (a b : Bool) → T a → T b → T (a && b)
joined true b p q = q
joined false b p q = p

pub free_append : (test : ℕ → Bool) (s t : List ℕ) → T (free test s) → T (free test t) → T (free test (s ++ t))
free_append test [] t p q = q
free_append test (c ∷ s) t p q =
    let (h, r) = both (not (test c)) (free test s) p in
    joined (not (test c)) (free test (s ++ t)) h (free_append test s t r q)

-- up to a letter that passes, and from there on
pub before_free : (test : ℕ → Bool) (s t : List ℕ) → T (free test s) → before test (s ++ t) ≡ s ++ before test t
unfolding before
before_free test [] t h = refl
before_free test (c ∷ s) t h =
    rw (fails (test c) (both_left (not (test c)) (free test s) h)) (ap (λ (r : List ℕ). c ∷ r) (before_free test s t (both_right (not (test c)) (free test s) h)))

pub onwards-free : (test : ℕ → Bool) (s t : List ℕ) → T (free test s) → onwards test (s ++ t) ≡ onwards test t
unfolding onwards
onwards-free test [] t h = refl
onwards-free test (c ∷ s) t h =
    rw (fails (test c) (both_left (not (test c)) (free test s) h)) (onwards-free test s t (both_right (not (test c)) (free test s) h))

passes : (b : Bool) → T b → b ≡ true
passes true h = refl
passes false h = absurd h

pub before_stop : (test : ℕ → Bool) (c : ℕ) (t : List ℕ) → T (test c) → before test (c ∷ t) ≡ []
unfolding before
before_stop test c t h = rw (passes (test c) h, before)

pub onwards-stop : (test : ℕ → Bool) (c : ℕ) (t : List ℕ) → T (test c) → onwards test (c ∷ t) ≡ c ∷ t
unfolding onwards
onwards-stop test c t h = rw (passes (test c) h, onwards)

-- BLANKS

abbrev pub blanks : ℕ → List ℕ
blanks n = replicate n 32

pub blanks_free : (n : ℕ) → T (free is_solid (blanks n)) × T (free is_semicolon (blanks n)) × T (free is_colon (blanks n)) × T (free is_newline (blanks n))
blanks_free zero = (tt, tt, tt, tt)
blanks_free (suc n) = blanks_free n

pub upper_blanks : (n : ℕ) → uppers (blanks n) ≡ blanks n
unfolding uppers
upper_blanks zero = refl
upper_blanks (suc n) = ap (λ (t : List ℕ). 32 ∷ t) (upper_blanks n)

pub upper_append : (s t : List ℕ) → uppers (s ++ t) ≡ uppers s ++ uppers t
unfolding uppers
upper_append [] t = refl
upper_append (c ∷ s) t = ap (λ (r : List ℕ). upper c ∷ r) (upper_append s t)

-- WORDS: capital letters and digits

abbrev pub in_word : ℕ → Bool
in_word c = eqb (upper c) c && not (is_blank c) && not (is_semicolon c) && not (is_colon c) && not (is_newline c)

abbrev pub clean : List ℕ → Bool
clean [] = true
clean (c ∷ t) = in_word c && clean t

module _ where
  letter_free : (c : ℕ) → T (in_word c) → T (eqb (upper c) c) × T (not (is_blank c)) × T (not (is_semicolon c)) × T (not (is_colon c)) × T (not (is_newline c))
  letter_free c h =
      let a = both (eqb (upper c) c && not (is_blank c) && not (is_semicolon c) && not (is_colon c)) (not (is_newline c)) h in
      let b = both (eqb (upper c) c && not (is_blank c) && not (is_semicolon c)) (not (is_colon c)) a.0 in
      let d = both (eqb (upper c) c && not (is_blank c)) (not (is_semicolon c)) b.0 in
      let e = both (eqb (upper c) c) (not (is_blank c)) d.0 in
      (e.0, e.1, d.1, b.1, a.1)

  pub clean_free : (w : List ℕ) → T (clean w) → T (free is_blank w) × T (free is_semicolon w) × T (free is_colon w) × T (free is_newline w)
  clean_free [] h = (tt, tt, tt, tt)
  clean_free (c ∷ w) h =
      let (p, q) = both (in_word c) (clean w) h in
      let (u, b, s, k, n) = letter_free c p in
      let (fb, fs, fk, fn) = clean_free w q in
      (joined (not (is_blank c)) (free is_blank w) b fb, joined (not (is_semicolon c)) (free is_semicolon w) s fs, joined (not (is_colon c)) (free is_colon w) k fk, joined (not (is_newline c)) (free is_newline w) n fn)

  pub upper_clean : (w : List ℕ) → T (clean w) → uppers w ≡ w
  unfolding uppers
  upper_clean [] h = refl
  upper_clean (c ∷ w) h =
      let (p, q) = both (in_word c) (clean w) h in
      λ i. eqb→eq (upper c) c (letter_free c p).0 i ∷ upper_clean w q i

  pub letter_solid : (c : ℕ) → T (in_word c) → T (is_solid c)
  letter_solid c h = (letter_free c h).1

-- A WORD AMONG BLANKS

module _ (n c : ℕ) (w t : List ℕ) (h : T (clean (c ∷ w))) where
  word_begins : onwards is_solid (blanks n ++ ((c ∷ w) ++ 32 ∷ t)) ≡ (c ∷ w) ++ 32 ∷ t
  word_begins =
      onwards-free is_solid (blanks n) ((c ∷ w) ++ 32 ∷ t) (blanks_free n).0
      ∙ onwards-stop is_solid c (w ++ 32 ∷ t) (letter_solid c (both_left (in_word c) (clean w) h))

  pub word_at : first_word (blanks n ++ ((c ∷ w) ++ 32 ∷ t)) ≡ c ∷ w
  word_at =
      ap (before is_blank) word_begins
      ∙ before_free is_blank (c ∷ w) (32 ∷ t) (clean_free (c ∷ w) h).0
      ∙ ap (λ (r : List ℕ). (c ∷ w) ++ r) (before_stop is_blank 32 t tt)
      ∙ append-nil (c ∷ w)

  pub behind_at : behind (blanks n ++ ((c ∷ w) ++ 32 ∷ t)) ≡ 32 ∷ t
  behind_at =
      ap (onwards is_blank) word_begins
      ∙ onwards-free is_blank (c ∷ w) (32 ∷ t) (clean_free (c ∷ w) h).0
      ∙ onwards-stop is_blank 32 t tt

only_blanks : (n : ℕ) → onwards is_solid (blanks n) ≡ []
unfolding onwards
only_blanks zero = refl
only_blanks (suc n) = only_blanks n

pub no_word : (n : ℕ) → first_word (blanks n) ≡ []
unfolding before
no_word n = ap (before is_blank) (only_blanks n)

pub nothing-behind : (n : ℕ) → behind (blanks n) ≡ []
unfolding onwards
nothing-behind n = ap (onwards is_blank) (only_blanks n)

-- A STATEMENT: a word, with an operand and without

-- of a line with this label
abbrev pub line_of : List ℕ → List ℕ → List ℕ → Line
line_of label word operand = record { label = label; word = word; operand = operand; more = [] }

abbrev pub alone : ℕ → List ℕ → ℕ → List ℕ
alone a word b = blanks a ++ (word ++ blanks (suc b))

abbrev pub with_operand : ℕ → List ℕ → ℕ → List ℕ → ℕ → List ℕ
with_operand a word b operand e = blanks a ++ (word ++ 32 ∷ (blanks b ++ (operand ++ 32 ∷ blanks e)))

module _ (l label : List ℕ) (hl : first_word l ≡ label) (hm : first_word (behind l) ≡ []) (a c b : ℕ) (w : List ℕ) (hw : T (clean (c ∷ w))) where
  pub read_alone : line_by l (alone a (c ∷ w) b) ≡ line_of label (c ∷ w) []
  read_alone =
      let rest = behind_at a c w (blanks b) hw in
      let operand = ap first_word rest ∙ no_word (suc b) in
      let more = ap (λ (t : List ℕ). first_word (behind t)) rest ∙ ap first_word (nothing-behind (suc b)) ∙ no_word 0 in
      λ i. record { label = hl i; word = word_at a c w (blanks b) hw i; operand = operand i; more = (ap (λ (t : List ℕ). t ++ first_word (behind (behind (alone a (c ∷ w) b)))) hm ∙ more) i }

  pub read_operand : (d e : ℕ) (o : List ℕ) → T (clean (d ∷ o)) → line_by l (with_operand a (c ∷ w) b (d ∷ o) e) ≡ line_of label (c ∷ w) (d ∷ o)
  read_operand d e o ho =
      let t = blanks b ++ ((d ∷ o) ++ 32 ∷ blanks e) in
      let rest = behind_at a c w t hw in
      let operand = ap first_word rest ∙ word_at (suc b) d o (blanks e) ho in
      let last = ap behind rest ∙ behind_at (suc b) d o (blanks e) ho in
      let more = ap first_word last ∙ no_word (suc e) in
      λ i. record { label = hl i; word = word_at a c w t hw i; operand = operand i; more = (ap (λ (r : List ℕ). r ++ first_word (behind (behind (with_operand a (c ∷ w) b (d ∷ o) e)))) hm ∙ more) i }

-- LINES

nothing : (test : ℕ → Bool) → onwards test [] ≡ []
unfolding onwards
nothing test = refl

pub line_first : (l t : List ℕ) → T (free is_newline l) → lines_of (l ++ 10 ∷ t) ≡ l ∷ lines_of t
unfolding lines_of
line_first [] t h = refl
line_first (c ∷ l) t h =
    let (p, q) = both (not (is_newline c)) (free is_newline l) h in
    rw (fails (is_newline c) p, lines_of) (ap (onto c) (line_first l t q))

-- a statement and its comment: without a label, and with one
pub plain_line : (s comment : List ℕ) → T (free is_semicolon s) → T (free is_colon s) → parsed (s ++ 59 ∷ comment) ≡ line_by [] s
unfolding parsed
plain_line s comment hs hc =
    let front = before_free is_semicolon s (59 ∷ comment) hs ∙ ap (λ (t : List ℕ). s ++ t) (before_stop is_semicolon 59 comment tt) ∙ append-nil s in
    let none = ap (onwards is_colon) (sym (append-nil s)) ∙ onwards-free is_colon s [] hc ∙ nothing is_colon in
    ap (λ (t : List ℕ). split t (onwards is_colon t)) front ∙ ap (split s) none

pub labelled-line : (l s comment : List ℕ) → T (free is_semicolon l) → T (free is_colon l) → T (free is_semicolon s)
    → parsed ((l ++ 58 ∷ s) ++ 59 ∷ comment) ≡ line_by l s
unfolding parsed
labelled-line l s comment hl hc hs =
    let whole = l ++ 58 ∷ s in
    let semi = free_append is_semicolon l (58 ∷ s) hl hs in
    let front = before_free is_semicolon whole (59 ∷ comment) semi ∙ ap (λ (t : List ℕ). whole ++ t) (before_stop is_semicolon 59 comment tt) ∙ append-nil whole in
    let rest = onwards-free is_colon l (58 ∷ s) hc ∙ onwards-stop is_colon 58 s tt in
    let label = before_free is_colon l (58 ∷ s) hc ∙ ap (λ (t : List ℕ). l ++ t) (before_stop is_colon 58 s tt) ∙ append-nil l in
    ap (λ (t : List ℕ). split t (onwards is_colon t)) front ∙ ap (split whole) rest ∙ ap (λ (t : List ℕ). line_by t s) label
