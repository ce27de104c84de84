-- A ROM as assembler text: a first line of its length, then a line for each instruction, in ascending addresses. Every byte of the ROM
-- stands in one line. Assumes nothing: these are definitions.
use Rattle.std.specs.Prelude.{ℕ, suc, ◌+◌, ◌%◌, Bool, true, false, cond, ◌&&◌, ◌||◌, List, [], ◌∷◌, ◌++◌, eqb, length, get_or}
use Rattle.upd546.specs.TheMachine.{follows}
use Rattle.upd546.specs.Instructions.{instruction}
use Rattle.upd546.specs.Reports.{space, newline}
use Rattle.mnemonics.specs.Texts.{ascii, hex2, hex3}
use Rattle.mnemonics.specs.Mnemonics.{Kind, no_instruction, kind_of, leads_for, none_for, long_for, target_of, word_of, operand_text, byte_text}

-- WHAT THE LINES ARE OF

-- An instruction, or a byte that is none: where it stands, its code, the byte behind it, and the kind that it is shown as.
pub record Item : Type 0 where
  pub at : ℕ
  pub code : ℕ
  pub second : ℕ
  pub kind : Kind

-- "Only the low 8 bits count up, so 0FF is followed by 000": there, and at the ROM's last address, the second byte isn't the next of
-- the ROM.
abbrev pub no_next : List ℕ → Bool
no_next [] = true
no_next (s ∷ rest) = false

abbrev pub cut : ℕ → List ℕ → Bool
cut at rest = eqb (at % 256) 255 || no_next rest

-- a two-byte code whose second byte is elsewhere is shown as a byte, since that byte has a line of its own
abbrev pub shown_kind : Kind → Bool → Kind
shown_kind k away = cond (long_for k && away) no_instruction k

abbrev pub item_at : ℕ → ℕ → List ℕ → Item
item_at at code rest = record { at = at; code = code; second = get_or rest 0 0; kind = shown_kind (kind_of code) (cut at rest) }

-- the items of the bytes from an address on; of these the first is passed over where it is a second byte
unfoldable pub items_from : Bool → ℕ → List ℕ → List Item
items_from over at [] = []
items_from true at (c ∷ rest) = items_from false (suc at) rest
items_from false at (c ∷ rest) = item_at at c rest ∷ items_from (long_for (item_at at c rest).kind) (suc at) rest

abbrev pub items_of : List ℕ → List Item
items_of rom = items_from false 0 rom

-- LABELS

abbrev pub target : Item → ℕ
target i = target_of i.kind i.at i.code i.second

-- some instruction of the listing leads to an address
unfoldable pub led_to : List Item → ℕ → Bool
led_to [] a = false
led_to (i ∷ is) a = (leads_for i.kind && eqb (target i) a) || led_to is a

-- a line begins there
unfoldable pub begins : List Item → ℕ → Bool
begins [] a = false
begins (i ∷ is) a = eqb i.at a || begins is a

-- L and three digits
abbrev pub label_of : ℕ → List ℕ
label_of a = 76 ∷ hex3 a

-- the label in front of a line, where some instruction leads to it
abbrev pub label_text : Bool → ℕ → List ℕ
label_text true a = label_of a ++ ascii ":"
label_text false a = ascii "     "

-- A LINE

-- a target is told by its label where a line begins there, and else by its address
abbrev pub field_text : Bool → Item → List ℕ
field_text true i = label_of (target i)
field_text false i = operand_text i.kind i.at i.code i.second

-- the eight letters of an instruction, or of a byte
abbrev pub statement_text : List Item → Item → List ℕ
statement_text is i =
    cond (none_for i.kind) (byte_text i.code) (word_of i.code ++ space ++ field_text (leads_for i.kind && begins is (target i)) i)

-- its bytes
abbrev pub bytes_of : Item → List ℕ
bytes_of i = cond (long_for i.kind) (i.code ∷ i.second ∷ []) (i.code ∷ [])

abbrev pub bytes_text : Item → List ℕ
bytes_text i = hex2 i.code ++ cond (long_for i.kind) (space ++ hex2 i.second) (ascii "   ")

-- what there is to say of a byte
abbrev pub remark : Item → List ℕ
remark i =
    cond (none_for i.kind) (cond (long_for (kind_of i.code)) (ascii " second byte at " ++ hex3 (follows i.at)) (ascii " no instruction")) []

-- behind the semicolon: address, bytes, base cycles, and a remark
abbrev pub comment : Item → List ℕ
comment i = space ++ hex3 i.at ++ space ++ bytes_text i ++ space ++ ((48 + (instruction i.code).cycles) ∷ []) ++ remark i

abbrev pub line_text : List Item → Item → List ℕ
line_text is i = label_text (led_to is i.at) i.at ++ space ++ statement_text is i ++ ascii " ;" ++ comment i ++ newline

unfoldable pub lines_text : List Item → List Item → List ℕ
lines_text all [] = []
lines_text all (i ∷ is) = line_text all i ++ lines_text all is

-- THE LISTING OF A ROM

unfoldable pub listing_text : List ℕ → List ℕ
listing_text rom = ascii "rom " ++ hex3 (length rom) ++ newline ++ lines_text (items_of rom) (items_of rom)
