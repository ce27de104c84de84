-- What assembler text stands for: the bytes of a ROM, or the first mistake. Lines are taken one after the other. Assumes nothing: these
-- are definitions.
use Rattle.std.specs.Prelude.{ℕ, zero, suc, ◌+◌, ◌-◌, ◌*◌, ◌/◌, ◌%◌, Bool, true, false, cond, ◌&&◌, List, [], ◌∷◌, ◌++◌, eqb, leb, ltb, length, get_or, take, set, replicate}
use Rattle.upd546.specs.Sequences.{same_numbers}
use Rattle.upd546.specs.TheMachine.{page_of, rom_length}
use Rattle.mnemonics.specs.Texts.{ascii}
use Rattle.mnemonics.specs.Mnemonics.{Kind, without, bits, nibble, byte, far, zero_page, in_page, no_instruction, kind_of, long_for, word_of}
use Rattle.assembly.specs.Grammar.{Line, lines_in}

-- MISTAKES

abbrev pub no_mistake : ℕ
no_mistake = 0

abbrev pub text_behind : ℕ
text_behind = 1

abbrev pub unknown_word : ℕ
unknown_word = 2

abbrev pub operand_missing : ℕ
operand_missing = 3

abbrev pub operand_unwanted : ℕ
operand_unwanted = 4

abbrev pub no_number : ℕ
no_number = 5

abbrev pub number_too_large : ℕ
number_too_large = 6

abbrev pub label_unknown : ℕ
label_unknown = 7

-- a label stands at two addresses
abbrev pub label_twice : ℕ
label_twice = 8

-- JCP can't lead out of its page
abbrev pub not_in_page : ℕ
not_in_page = 9

-- CZP leads to 000, 004 and so on up to 03C
abbrev pub no_czp_address : ℕ
no_czp_address = 10

abbrev pub beyond_end : ℕ
beyond_end = 11

abbrev pub byte_twice : ℕ
byte_twice = 12

-- the second byte of an instruction at xFF would be the one at x00
abbrev pub second_elsewhere : ℕ
second_elsewhere = 13

abbrev pub rom_not_first : ℕ
rom_not_first = 14

-- a number, or why there is none
pub record Value : Type 0 where
  pub mistake : ℕ
  pub value : ℕ

abbrev pub good : ℕ → Value
good v = record { mistake = no_mistake; value = v }

abbrev pub wrong : ℕ → Value
wrong m = record { mistake = m; value = 0 }

-- NUMBERS

-- 16 of what is no digit
abbrev pub digit_of : ℕ → ℕ
digit_of c = cond (leb 48 c && leb c 57) (c - 48) (cond (leb 65 c && leb c 70) (c - 55) 16)

-- one digit more; a number of over 16 bits stays at the largest, which no operand may have
abbrev pub grown : ℕ → ℕ → ℕ
grown n d = cond (ltb n 4096) (16 * n + d) 65535

unfoldable pub number_from : ℕ → List ℕ → Value
number_from n [] = good n
number_from n (c ∷ t) = elim (ltb (digit_of c) 16) [ true ↦ number_from (grown n (digit_of c)) t | false ↦ wrong no_number ]

-- a hexadecimal number up to a limit
abbrev pub limited : ℕ → Value → Value
limited limit v = cond (leb v.value limit) v (wrong number_too_large)

unfoldable pub number_up_to : ℕ → List ℕ → Value
number_up_to limit [] = wrong operand_missing
number_up_to limit (c ∷ t) = limited limit (number_from 0 (c ∷ t))

-- WORDS

-- What a word asks for: nothing where there is none, the ROM's length, another address, or bytes by the kind of an operand and the first
-- code that has the word. `byte` gives a byte as it stands.
pub data Action : Type 0 where
  nothing : Action
  sets_length : Action
  sets_address : Action
  gives : Kind → ℕ → Action
  unknown : Action

-- the first of n codes that has the word
unfoldable pub code_from : List ℕ → ℕ → ℕ → Action
code_from w code zero = unknown
code_from w code (suc n) = elim (same_numbers (word_of code) w) [ true ↦ gives (kind_of code) code | false ↦ code_from w (suc code) n ]

-- a word of at most three letters is filled up with spaces
unfoldable pub code_for : List ℕ → Action
code_for w = elim (ltb 3 (length w)) [ true ↦ unknown | false ↦ code_from (take 3 (w ++ ascii "   ")) 0 256 ]

unfoldable pub action_for : List ℕ → Action
action_for [] = nothing
action_for (c ∷ t) =
    elim (same_numbers (c ∷ t) (ascii "ROM")) [
      | true ↦ sets_length
      | false ↦ elim (same_numbers (c ∷ t) (ascii "ORG")) [
        | true ↦ sets_address
        | false ↦ elim (same_numbers (c ∷ t) (ascii "BYTE")) [ true ↦ gives no_instruction 0 | false ↦ code_for (c ∷ t) ]
      ]
    ]

-- ADDRESSES

abbrev pub last_address : ℕ
last_address = 2047

-- how many bytes an instruction of a kind has
abbrev pub size_for : Kind → ℕ
size_for k = cond (long_for k) 2 1

-- the address behind a line; a line with a mistake leaves it as it is
abbrev pub reached : Value → ℕ → ℕ
reached v at = cond (eqb v.mistake no_mistake) v.value at

abbrev pub moved_by : Action → List ℕ → ℕ → ℕ
moved_by nothing operand at = at
moved_by sets_length operand at = at
moved_by sets_address operand at = reached (number_up_to last_address operand) at
moved_by (gives k first) operand at = at + size_for k
moved_by unknown operand at = at

abbrev pub moved : Line → ℕ → ℕ
moved l at = moved_by (action_for l.word) l.operand at

-- the address of a label: that of the first line that has it
unfoldable pub place_from : List ℕ → ℕ → List Line → Value
place_from name at [] = wrong label_unknown
place_from name at (l ∷ ls) = elim (same_numbers l.label name) [ true ↦ good at | false ↦ place_from name (moved l at) ls ]

abbrev pub place_of : List Line → List ℕ → Value
place_of lines name = place_from name 0 lines

-- an operand that begins with a digit is an address, and any other one a label
unfoldable pub address_of : List Line → List ℕ → Value
address_of lines [] = wrong operand_missing
address_of lines (c ∷ t) = limited last_address (elim (leb 48 c && leb c 57) [ true ↦ number_from 0 (c ∷ t) | false ↦ place_of lines (c ∷ t) ])

-- BYTES

-- the bytes that a statement gives, or its mistake
pub record Coded : Type 0 where
  pub mistake : ℕ
  pub bytes : List ℕ

-- of a number that is right; `first` is the first code that has the word
abbrev pub coded_by : Kind → ℕ → ℕ → ℕ → Coded
coded_by without first at v = record { mistake = no_mistake; bytes = first ∷ [] }
coded_by bits first at v = record { mistake = no_mistake; bytes = (first + v) ∷ [] }
coded_by nibble first at v = record { mistake = no_mistake; bytes = (first + v) ∷ [] }
coded_by byte first at v = record { mistake = no_mistake; bytes = first ∷ v ∷ [] }
coded_by far first at v = record { mistake = no_mistake; bytes = (first + v / 256) ∷ (v % 256) ∷ [] }
coded_by zero_page first at v =
    record { mistake = cond (eqb (v % 4) 0 && ltb v 64) no_mistake no_czp_address; bytes = (first + v / 4) ∷ [] }
coded_by in_page first at v =
    record { mistake = cond (eqb (page_of v) (page_of at)) no_mistake not_in_page; bytes = (first + v % 64) ∷ [] }
coded_by no_instruction first at v = record { mistake = no_mistake; bytes = v ∷ [] }

-- the operand of an instruction without one: nothing
abbrev pub absent : List ℕ → Value
absent [] = good 0
absent (c ∷ t) = wrong operand_unwanted

-- the operand of a kind
abbrev pub operand_for : Kind → List Line → List ℕ → Value
operand_for without lines operand = absent operand
operand_for bits lines operand = number_up_to 3 operand
operand_for nibble lines operand = number_up_to 15 operand
operand_for byte lines operand = number_up_to 255 operand
operand_for far lines operand = address_of lines operand
operand_for zero_page lines operand = address_of lines operand
operand_for in_page lines operand = address_of lines operand
operand_for no_instruction lines operand = number_up_to 255 operand

-- the first of two mistakes
abbrev pub first_of : ℕ → ℕ → ℕ
first_of zero n = n
first_of (suc m) n = suc m

unfoldable pub coded : Kind → ℕ → List Line → List ℕ → ℕ → Coded
coded k first lines operand at =
    let v = operand_for k lines operand in
    let c = coded_by k first at v.value in
    let elsewhere = cond (long_for k && eqb (at % 256) 255) second_elsewhere no_mistake in
    record { mistake = first_of v.mistake (first_of c.mistake elsewhere); bytes = c.bytes }

-- THE ROM

-- Where the next byte goes, the ROM's length, whether a statement was there, and the bytes given so far, 256 being none.
pub record State : Type 0 where
  pub at : ℕ
  pub size : ℕ
  pub begun : Bool
  pub cells : List ℕ

abbrev pub no_byte : ℕ
no_byte = 256

abbrev pub start : State
start = record { at = 0; size = rom_length; begun = false; cells = replicate rom_length no_byte }

-- what a line leaves, or its mistake
pub record Step : Type 0 where
  pub mistake : ℕ
  pub state : State

abbrev pub fails : ℕ → State → Step
fails m s = record { mistake = m; state = s }

-- bytes at an address, each to a cell that has none
unfoldable pub given_twice : List ℕ → ℕ → List ℕ → Bool
given_twice cells at [] = false
given_twice cells at (b ∷ bs) = cond (eqb (get_or cells at 0) no_byte) (given_twice cells (suc at) bs) true

unfoldable pub placed : List ℕ → ℕ → List ℕ → List ℕ
placed cells at [] = cells
placed cells at (b ∷ bs) = placed (set cells at b) (suc at) bs

unfoldable pub put : State → List ℕ → Step
put s bytes = record {
  mistake = cond (leb (s.at + length bytes) s.size) (cond (given_twice s.cells s.at bytes) byte_twice no_mistake) beyond_end;
  state = record { at = s.at + length bytes; size = s.size; begun = true; cells = placed s.cells s.at bytes };
}

-- what a statement does
abbrev pub done_by : Action → List Line → List ℕ → State → Step
done_by nothing lines operand s = record { mistake = no_mistake; state = s }
done_by sets_length lines operand s =
    let v = number_up_to rom_length operand in
    record {
      mistake = first_of (cond s.begun rom_not_first no_mistake) v.mistake;
      state = record { at = s.at; size = v.value; begun = true; cells = s.cells };
    }
done_by sets_address lines operand s =
    let v = number_up_to last_address operand in
    record { mistake = v.mistake; state = record { at = v.value; size = s.size; begun = true; cells = s.cells } }
done_by (gives k first) lines operand s =
    let c = coded k first lines operand s.at in
    let p = put s c.bytes in
    record { mistake = first_of c.mistake p.mistake; state = p.state }
done_by unknown lines operand s = record { mistake = unknown_word; state = s }

-- text that doesn't belong there; a label that has another address already
abbrev pub behind_text : List ℕ → ℕ
behind_text [] = no_mistake
behind_text (c ∷ t) = text_behind

abbrev pub elsewhere : Value → ℕ → ℕ
elsewhere v at = cond (eqb v.value at) no_mistake label_twice

abbrev pub labelled : List Line → List ℕ → ℕ → ℕ
labelled lines [] at = no_mistake
labelled lines (c ∷ t) at = elsewhere (place_of lines (c ∷ t)) at

unfoldable pub step : List Line → State → Line → Step
step lines s l =
    let d = done_by (action_for l.word) lines l.operand s in
    record { mistake = first_of (behind_text l.more) (first_of (labelled lines l.label s.at) d.mistake); state = d.state }

-- THE ASSEMBLER'S ANSWER: the bytes, or a mistake and the number of its line, the first being 1

pub record Assembled : Type 0 where
  pub mistake : ℕ
  pub line : ℕ
  pub bytes : List ℕ

-- what no line gives is 00
unfoldable pub filled : List ℕ → List ℕ
filled [] = []
filled (c ∷ t) = (c % 256) ∷ filled t

unfoldable pub assembled_from : List Line → ℕ → State → List Line → Assembled
assembled_from lines n s [] = record { mistake = no_mistake; line = 0; bytes = take s.size (filled s.cells) }
assembled_from lines n s (l ∷ ls) =
    let d = step lines s l in
    elim d.mistake [ zero ↦ assembled_from lines (suc n) d.state ls | suc m ↦ record { mistake = suc m; line = n; bytes = [] } ]

unfoldable pub assembled : List ℕ → Assembled
assembled text = let lines = lines_in text in assembled_from lines 1 start lines
