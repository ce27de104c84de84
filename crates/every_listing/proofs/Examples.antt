-- Examples, computed. Assumes nothing.
use mathlib.Core.Path.{◌≡◌, refl}
use mathlib.Core.Bool.{cond}
use mathlib.Core.List.{List, [], ◌∷◌, ◌++◌}
use Prim.Native.Nat.{ℕ}
use Rattle.upd546.specs.TheMachine.{follows}
use Rattle.upd546.specs.Instructions.{instruction}
use Rattle.mnemonics.specs.Texts.{ascii}
use Rattle.mnemonics.specs.Mnemonics.{entry_of}
use Rattle.listing.specs.Listing.{items_from, led_to, begins, lines_text, listing_text}
use Rattle.assembly.specs.Grammar.{uppers, before, onwards, lines_of, parsed, parsed_all}
use Rattle.assembly.specs.Assembling.{number_from, number_up_to, code_from, code_for, action_for, place_from, address_of, coded, given_twice, placed, put, step, filled, assembled_from, assembled}

small : List ℕ
small = 0x14 ∷ 0x83 ∷ 0xC5 ∷ 0x1C ∷ 0xB1 ∷ 0xA0 ∷ 0x02 ∷ 0xA7 ∷ 0xD0 ∷ 0x9F ∷ 0xC4 ∷ 0xA0 ∷ []

listed : listing_text small ≡
    ascii "rom 00C\n"
    ++ ascii "      STM 83   ; 000 14 83 2\n"
    ++ ascii "L002: JCP L005 ; 002 C5    1\n"
    ++ ascii "      byte 1C  ; 003 1C    0 no instruction\n"
    ++ ascii "L004: CZP L004 ; 004 B1    1\n"
    ++ ascii "L005: JMP L002 ; 005 A0 02 2\n"
    ++ ascii "      JMP 7D0  ; 007 A7 D0 2\n"
    ++ ascii "      LI  F    ; 009 9F    1\n"
    ++ ascii "      JCP L004 ; 00A C4    1\n"
    ++ ascii "      byte A0  ; 00B A0    2 second byte at 00C\n"
unfolding small items_from led_to begins lines_text listing_text entry_of instruction follows
listed = refl

back : (assembled (listing_text small)).bytes ≡ small
unfolding small items_from led_to begins lines_text listing_text entry_of instruction follows uppers before onwards lines_of parsed parsed_all number_from number_up_to code_from code_for action_for place_from address_of coded given_twice placed put step filled assembled_from assembled
back = refl
