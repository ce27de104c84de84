-- The pieces of a panel's text. Assumes nothing: these are definitions.
use Rattle.std.specs.Prelude.{List, ◌++◌, ℕ}
use Rattle.upd546.specs.Reports.{decimal, space, newline, end_word}

-- How many bytes a piece has at most: a line of a record five more than a number of 64 bits; the end line its word and three
-- numbers, with a byte behind each.
abbrev pub line_length : ℕ
line_length = 25

abbrev pub end_length : ℕ
end_length = 67

-- every text fits so many: a heading of 17 bytes, 2,048 lines, and an end
abbrev pub text_length : ℕ
text_length = 65536

-- "then cycles, instructions, stop (0 if finished)": `end_text` of an answer with these counts
abbrev pub end_line : ℕ → ℕ → ℕ → List ℕ
end_line cycles begun k = end_word ++ space ++ decimal cycles ++ space ++ decimal begun ++ space ++ decimal k ++ newline
