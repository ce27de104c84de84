-- Worked examples: text as a person writes it, and each mistake with its line. All are computed. Assumes nothing.
use mathlib.Core.Bool.{Bool, ◌&&◌}
use mathlib.Core.List.{List, [], ◌∷◌}
use Prim.Native.Nat.{ℕ}
use Prim.Native.String.{String}
use lib.Dec.{T, eqb}
use lib.ListN.{length}
use Rattle.upd546.specs.Sequences.{all_of, same_numbers}
use Rattle.mnemonics.specs.Texts.{ascii}
use Rattle.mnemonics.specs.Mnemonics.{entry_of}
use Rattle.assembly.specs.Grammar.{uppers, before, onwards, lines_of, parsed, parsed_all}
use Rattle.assembly.specs.Assembling.{number_from, number_up_to, code_from, code_for, action_for, place_from, address_of, coded, given_twice, placed, put, step, filled, assembled_from, assembled, no_mistake, text_behind, unknown_word, operand_missing, operand_unwanted, no_number, number_too_large, label_unknown, label_twice, not_in_page, no_czp_address, beyond_end, byte_twice, second_elsewhere, rom_not_first}

abbrev gives : String → List ℕ → Bool
gives text bytes = let a = assembled (ascii text) in eqb a.mistake no_mistake && same_numbers a.bytes bytes

abbrev fails : String → ℕ → ℕ → Bool
fails text m n = let a = assembled (ascii text) in eqb a.mistake m && eqb a.line n && eqb (length a.bytes) 0

cases : T (all_of (
    gives "rom 8\nstart:\tli 5 ; Acc\r\n op\n\n  jmp START\n wait: jcp wait\nbyte fF\r" (0x95 ∷ 0x0E ∷ 0xA0 ∷ 0x00 ∷ 0xC4 ∷ 0xFF ∷ 0 ∷ 0 ∷ [])
    ∷ gives "; no statement\nROM 00C\n org 4\nsub: TMB 3\nRT\norg 0\nCZP sub\nCAL sub\nNOP ; 003\norg 6\nSTM 83\nLDZ C\nCI 1\n" (0xB1 ∷ 0xA8 ∷ 0x04 ∷ 0x00 ∷ 0x5B ∷ 0x48 ∷ 0x14 ∷ 0x83 ∷ 0x8C ∷ 0x17 ∷ 0x01 ∷ 0x00 ∷ [])
    ∷ gives "rom 0" []
    ∷ fails "NOP NOP" operand_unwanted 1
    ∷ fails "LI 5 5" text_behind 1
    ∷ fails "a b: NOP" text_behind 1
    ∷ fails "NOP\nXYZ" unknown_word 2
    ∷ fails "LOAD 5" unknown_word 1
    ∷ fails "\n\nLI" operand_missing 3
    ∷ fails "LI G" no_number 1
    ∷ fails "LI 10" number_too_large 1
    ∷ fails "TMB 4" number_too_large 1
    ∷ fails "JMP 800" number_too_large 1
    ∷ fails "byte 10000000000000083" number_too_large 1
    ∷ fails "rom 7D1" number_too_large 1
    ∷ fails "JMP there" label_unknown 1
    ∷ fails "a: NOP\nA: NOP" label_twice 2
    ∷ fails "JCP 040" not_in_page 1
    ∷ fails "CZP 002" no_czp_address 1
    ∷ fails "CZP 040" no_czp_address 1
    ∷ fails "rom 1\nNOP\nNOP" beyond_end 3
    ∷ fails "rom 2\nNOP\nJMP 000" beyond_end 3
    ∷ fails "org 5\nNOP\norg 5\nNOP" byte_twice 4
    ∷ fails "org 0FF\nSTM 1" second_elsewhere 2
    ∷ fails "NOP\nrom 5" rom_not_first 2
    ∷ []))
unfolding all_of entry_of uppers before onwards lines_of parsed parsed_all number_from number_up_to code_from code_for action_for place_from address_of coded given_twice placed put step filled assembled_from assembled
cases = tt
