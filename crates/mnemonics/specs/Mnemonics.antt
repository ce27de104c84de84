-- NEC's mnemonics, as document 01 names the codes, and the kinds of their operands: one table beside the codes. An instruction as
-- people read it. Assumes nothing: these are definitions.
use Rattle.std.specs.Prelude.{ℕ, ◌+◌, ◌*◌, ◌/◌, ◌%◌, Bool, true, false, cond, List, [], ◌∷◌, ◌++◌, eqb, get_or, take, replicate}
use Prim.Native.String.{String}
use Rattle.upd546.specs.Sequences.{entries}
use Rattle.upd546.specs.TheMachine.{page_of}
use Rattle.upd546.specs.Reports.{space}
use Rattle.mnemonics.specs.Texts.{ascii, hex1, hex2, hex3}

-- WHAT AN OPERAND IS

-- "b is a 2-bit bit number, k a 4-bit and m a 2-bit operand." Of STM, LDI, CLI, CI and OCD it is the second byte, whole, though the
-- chip looks at its low bits only; of JMP and CAL "3 bits and the second byte", of CZP "4 times k", of JCP "low 6 bits of PC".
pub data Kind : Type 0 where
  without : Kind
  bits : Kind
  nibble : Kind
  byte : Kind
  far : Kind
  zero_page : Kind
  in_page : Kind
  no_instruction : Kind

-- the letter that stands for it in the table
abbrev pub kind_for : ℕ → Kind
kind_for letter =
    cond (eqb letter 98) bits
    (cond (eqb letter 107) nibble
    (cond (eqb letter 115) byte
    (cond (eqb letter 102) far (cond (eqb letter 122) zero_page (cond (eqb letter 112) in_page (cond (eqb letter 45) no_instruction without))))))

-- THE TABLE, by the high and then the low half of the code: the word, filled up to three letters, and the letter of its operand's
-- kind: b two bits of the code (b or m), k four bits, s the second byte, f far, z four times k, p in the page, - no instruction

abbrev pub fours : String → String → String → String → List String
fours a b c d = replicate 4 a ++ replicate 4 b ++ replicate 4 c ++ replicate 4 d

abbrev pub words : List (List String)
words =
    ("NOP " ∷ "DI  " ∷ "S   " ∷ "TIT " ∷ "TC  " ∷ "TTM " ∷ "DAA " ∷ "TAL " ∷ "AD  " ∷ "ADS " ∷ "DAS " ∷ "CLC " ∷ "CM  " ∷ "INC " ∷ "OP  " ∷ "DEC " ∷ [])
    ∷ ("CMA " ∷ "CIA " ∷ "TLA " ∷ "DED " ∷ "STMs" ∷ "LDIs" ∷ "CLIs" ∷ "CI s" ∷ "EXL " ∷ "ADC " ∷ "XC  " ∷ "STC " ∷ "   -" ∷ "INM " ∷ "OCDs" ∷ "DEM " ∷ [])
    ∷ fours "FBFb" "TABb" "XM b" "XMDb"
    ∷ (("RAR " ∷ "EI  " ∷ "IP  " ∷ "IND " ∷ []) ++ replicate 4 "CMBb" ++ replicate 4 "LM b" ++ replicate 4 "XMIb")
    ∷ ("IA  " ∷ "JPA " ∷ "TAZ " ∷ "TAW " ∷ "OE  " ∷ "   -" ∷ "TLY " ∷ "THX " ∷ "RT  " ∷ "RTS " ∷ "XAZ " ∷ "XAW " ∷ "XLS " ∷ "XHR " ∷ "XLY " ∷ "XHX " ∷ [])
    ∷ fours "TPBb" "TPAb" "TMBb" "FBTb"
    ∷ fours "RPBb" "REBb" "RMBb" "RFBb"
    ∷ fours "SPBb" "SEBb" "SMBb" "SFBb"
    ∷ replicate 16 "LDZk"
    ∷ replicate 16 "LI k"
    ∷ (replicate 8 "JMPf" ++ replicate 8 "CALf")
    ∷ replicate 16 "CZPz"
    ∷ []

-- the four letters of a code; C0 to FF are JCP
unfoldable pub entry_of : ℕ → List ℕ
entry_of code = ascii (get_or (get_or words (code / 16) (replicate 16 "JCPp")) (code % 16) "   -")

-- all 256 entries, one behind the other
unfoldable pub word_table : List ℕ
word_table = entries 1024 (λ i. get_or (entry_of (i / 4)) (i % 4) 0)

abbrev pub word_of : ℕ → List ℕ
word_of code = take 3 (entry_of code)

abbrev pub kind_of : ℕ → Kind
kind_of code = kind_for (get_or (entry_of code) 3 0)

-- AN INSTRUCTION AS TEXT

-- a jump or a call, whose operand is an address
abbrev pub leads_for : Kind → Bool
leads_for without = false
leads_for bits = false
leads_for nibble = false
leads_for byte = false
leads_for far = true
leads_for zero_page = true
leads_for in_page = true
leads_for no_instruction = false

-- it is none
abbrev pub none_for : Kind → Bool
none_for without = false
none_for bits = false
none_for nibble = false
none_for byte = false
none_for far = false
none_for zero_page = false
none_for in_page = false
none_for no_instruction = true

-- a second byte belongs to it
abbrev pub long_for : Kind → Bool
long_for without = false
long_for bits = false
long_for nibble = false
long_for byte = true
long_for far = true
long_for zero_page = false
long_for in_page = false
long_for no_instruction = false

-- where a jump or a call leads, from an address: what JMP, CAL, CZP and JCP make of the code and the second byte
abbrev pub target_of : Kind → ℕ → ℕ → ℕ → ℕ
target_of without at code second = 0
target_of bits at code second = 0
target_of nibble at code second = 0
target_of byte at code second = 0
target_of far at code second = 256 * (code % 8) + second
target_of zero_page at code second = 4 * (code % 16)
target_of in_page at code second = page_of at + code % 64
target_of no_instruction at code second = 0

-- a field of four letters
abbrev pub operand_text : Kind → ℕ → ℕ → ℕ → List ℕ
operand_text without at code second = ascii "    "
operand_text bits at code second = hex1 (code % 4) ++ ascii "   "
operand_text nibble at code second = hex1 code ++ ascii "   "
operand_text byte at code second = hex2 second ++ ascii "  "
operand_text far at code second = hex3 (target_of far at code second) ++ space
operand_text zero_page at code second = hex3 (target_of zero_page at code second) ++ space
operand_text in_page at code second = hex3 (target_of in_page at code second) ++ space
operand_text no_instruction at code second = ascii "    "

-- a byte that is no instruction
abbrev pub byte_text : ℕ → List ℕ
byte_text code = ascii "byte " ++ hex2 code ++ space

-- the instruction at an address: its word, a space, its operand; eight letters
abbrev pub text_by : Kind → ℕ → ℕ → ℕ → List ℕ
text_by kind at code second = cond (none_for kind) (byte_text code) (word_of code ++ space ++ operand_text kind at code second)

unfoldable pub instruction_text : ℕ → ℕ → ℕ → List ℕ
instruction_text at code second = text_by (kind_of code) at code second
