-- The parts of a line as the code finds them, and what its answers stand for. Assumes nothing: these are definitions.
use Rattle.std.specs.Prelude.{◌≡◌, ℕ, Bool, true, false, List, [], ◌∷◌, Result, Ok, Err}
use Rattle.mnemonics.specs.Kinds.{kind_by}
use Rattle.assembly.specs.Grammar as grammar
use Rattle.assembly.specs.Grammar.{is_semicolon, is_colon, before, onwards}
use Rattle.assembly.specs.Assembling.{Value, good, wrong, Action, nothing, sets_length, sets_address, gives, unknown, text_behind, unknown_word, operand_missing, operand_unwanted, no_number, number_too_large, label_unknown, label_twice, not_in_page, no_czp_address, beyond_end, byte_twice, second_elsewhere, rom_not_first}
use Rattle.assembly.specs.declared.Line.{Line}
use Rattle.assembly.specs.declared.Mistake.{Mistake}
use Rattle.assembly.specs.declared.Mistake.TheVariants.{TextBehind, UnknownWord, OperandMissing, OperandUnwanted, NoNumber, NumberTooLarge, LabelUnknown, LabelTwice, NotInPage, NoCzpAddress, BeyondEnd, ByteTwice, SecondElsewhere, RomNotFirst}
use Rattle.assembly.specs.declared.Asked.{Asked}
use Rattle.assembly.specs.declared.Asked.TheVariants.{Nothing, Length, Address, Gives, Unknown}

-- the text in front of the colon, and the statement
abbrev pub front_by : List ℕ → List ℕ → List ℕ
front_by s [] = []
front_by s (c ∷ t) = before is_colon s

abbrev pub statement_by : List ℕ → List ℕ → List ℕ
statement_by s [] = s
statement_by s (c ∷ t) = t

unfoldable pub front_of : List ℕ → List ℕ
front_of line = let s = before is_semicolon line in front_by s (onwards is_colon s)

unfoldable pub statement_of : List ℕ → List ℕ
statement_of line = let s = before is_semicolon line in statement_by s (onwards is_colon s)

-- whether text is there
abbrev pub is_there : List ℕ → Bool
is_there [] = false
is_there (c ∷ t) = true

abbrev pub has_more : grammar.Line → Bool
has_more l = is_there l.more

-- the code's line has the parts of one of the grammar
pub record LineIs (r : Line) (l : grammar.Line) : Type 0 where
  pub label : r.label.now ≡ l.label
  pub word : r.word.now ≡ l.word
  pub operand : r.operand.now ≡ l.operand
  pub more : r.has_more ≡ has_more l

abbrev pub mistake_number : Mistake → ℕ
mistake_number TextBehind = text_behind
mistake_number UnknownWord = unknown_word
mistake_number OperandMissing = operand_missing
mistake_number OperandUnwanted = operand_unwanted
mistake_number NoNumber = no_number
mistake_number NumberTooLarge = number_too_large
mistake_number LabelUnknown = label_unknown
mistake_number LabelTwice = label_twice
mistake_number NotInPage = not_in_page
mistake_number NoCzpAddress = no_czp_address
mistake_number BeyondEnd = beyond_end
mistake_number ByteTwice = byte_twice
mistake_number SecondElsewhere = second_elsewhere
mistake_number RomNotFirst = rom_not_first

abbrev pub value_of : Result ℕ Mistake → Value
value_of (Ok v) = good v
value_of (Err m) = wrong (mistake_number m)

abbrev pub action_of : Asked → Action
action_of Nothing = nothing
action_of Length = sets_length
action_of Address = sets_address
action_of (Gives kind first) = gives (kind_by kind) first
action_of Unknown = unknown
