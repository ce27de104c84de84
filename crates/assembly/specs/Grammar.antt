-- What a line of assembler text is: [LABEL:] [WORD [OPERAND]] [; comment]. Assumes nothing: these are definitions.
use Rattle.std.specs.Prelude.{ℕ, ◌-◌, Bool, true, false, cond, not, ◌&&◌, ◌||◌, List, [], ◌∷◌, ◌++◌, eqb, leb}

-- LETTERS

-- small letters count as capital ones
abbrev pub upper : ℕ → ℕ
upper c = cond (leb 97 c && leb c 122) (c - 32) c

unfoldable pub uppers : List ℕ → List ℕ
uppers [] = []
uppers (c ∷ t) = upper c ∷ uppers t

-- a space, a tab, a carriage return
abbrev pub is_blank : ℕ → Bool
is_blank c = eqb c 32 || eqb c 9 || eqb c 13

abbrev pub is_solid : ℕ → Bool
is_solid c = not (is_blank c)

abbrev pub is_semicolon : ℕ → Bool
is_semicolon c = eqb c 59

abbrev pub is_colon : ℕ → Bool
is_colon c = eqb c 58

abbrev pub is_newline : ℕ → Bool
is_newline c = eqb c 10

-- PARTS

-- the text up to the first letter that passes a test, and from that letter on
unfoldable pub before : (ℕ → Bool) → List ℕ → List ℕ
before test [] = []
before test (c ∷ t) = elim (test c) [ true ↦ [] | false ↦ c ∷ before test t ]

unfoldable pub onwards : (ℕ → Bool) → List ℕ → List ℕ
onwards test [] = []
onwards test (c ∷ t) = elim (test c) [ true ↦ c ∷ t | false ↦ onwards test t ]

-- a text's first word, and what stands behind it
abbrev pub first_word : List ℕ → List ℕ
first_word t = before is_blank (onwards is_solid t)

abbrev pub behind : List ℕ → List ℕ
behind t = onwards is_blank (onwards is_solid t)

-- LINES

-- each ends at a newline, the last one at the end of the text
abbrev pub onto : ℕ → List (List ℕ) → List (List ℕ)
onto c [] = (c ∷ []) ∷ []
onto c (l ∷ ls) = (c ∷ l) ∷ ls

unfoldable pub lines_of : List ℕ → List (List ℕ)
lines_of [] = [] ∷ []
lines_of (c ∷ t) = let rest = lines_of t in elim (is_newline c) [ true ↦ [] ∷ rest | false ↦ onto c rest ]

-- What stands in a line; where something isn't there, it is empty. `more` is text behind the operand, or behind a label's word.
pub record Line : Type 0 where
  pub label : List ℕ
  pub word : List ℕ
  pub operand : List ℕ
  pub more : List ℕ

-- of the text in front of the colon, and of the statement
abbrev pub line_by : List ℕ → List ℕ → Line
line_by l t = record {
  label = first_word l;
  word = first_word t;
  operand = first_word (behind t);
  more = first_word (behind l) ++ first_word (behind (behind t));
}

-- a line without a colon has no label
abbrev pub split : List ℕ → List ℕ → Line
split s [] = line_by [] s
split s (c ∷ t) = line_by (before is_colon s) t

unfoldable pub parsed : List ℕ → Line
parsed line = let s = before is_semicolon line in split s (onwards is_colon s)

unfoldable pub parsed_all : List (List ℕ) → List Line
parsed_all [] = []
parsed_all (l ∷ ls) = parsed l ∷ parsed_all ls

-- the lines of a text
abbrev pub lines_in : List ℕ → List Line
lines_in text = parsed_all (lines_of (uppers text))
