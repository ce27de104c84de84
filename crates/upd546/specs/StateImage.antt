-- Document 01, "State image, 81 bytes"; with document 02, R-5, R-8 and R-11: "Images become version 2, 82 bytes, the count last".
-- Assumes nothing: these are definitions.
use Rattle.std.specs.Prelude.{ℕ, ◌+◌, ◌-◌, ◌*◌, ◌/◌, ◌%◌, Bool, true, false, ◌&&◌, ◌||◌, List, [], ◌∷◌, ◌++◌, eqb, leb, ltb, length, get_or, drop}
use Rattle.runs.specs.declared.Version.{Version}
use Rattle.runs.specs.declared.Version.TheVariants.{One, Two}
use Rattle.runs.specs.Refusals.{cycle_limit, first_of, unless}
use Rattle.upd546.specs.declared.Registers.{Registers}
use Rattle.upd546.specs.declared.Flow.{Flow}
use Rattle.upd546.specs.declared.Interrupt.{Interrupt}
use Rattle.upd546.specs.declared.Timer.{Timer}
use Rattle.upd546.specs.declared.Core.{Core}
use Rattle.upd546.specs.declared.State.{State}
use Rattle.upd546.specs.declared.Sheet.{Sheet}
use Rattle.upd546.specs.TheSheet.{row_exists}
use Rattle.upd546.specs.TheMachine.{addresses, stack_depth, latches, stored_rows, ram_length, place_of, dp_of, last_mark, reset_count}
use Rattle.upd546.specs.Sequences.{entries}
use Rattle.upd546.specs.Bytes.{bit_at, part, number_at, bytes_of}
use Rattle.upd546.specs.Sequences.{all_of, all_below, same_numbers}

-- "State image, 81 bytes"; R-8: "version 2, 82 bytes"
abbrev pub image_length : Version → ℕ
image_length One = 81
image_length Two = 82

-- Where each part begins: "0-2 the mark `U43`; 3-4 version 1; 5-6 PC; 7-12 stack, newest first"
abbrev pub image_mark_at : ℕ
image_mark_at = 0

abbrev pub version_at : ℕ
version_at = 3

abbrev pub pc_at : ℕ
pc_at = 5

abbrev pub stack_at : ℕ
stack_at = 7

-- "13 DP; 14 Acc; 15 bits 0 to 5: C, C', INT, INTE, TM, level; 16 mark 0 to 3 in the order above; 17 owed"; R-5 adds mark 4
abbrev pub dp_at : ℕ
dp_at = 13

abbrev pub acc_at : ℕ
acc_at = 14

abbrev pub flags_at : ℕ
flags_at = 15

abbrev pub mark_at : ℕ
mark_at = 16

abbrev pub owed_at : ℕ
owed_at = 17

-- "18 register, 0 when stopped; 19 counter, 0 when stopped"
abbrev pub register_at : ℕ
register_at = 18

abbrev pub counter_at : ℕ
counter_at = 19

-- "20-26 ports C to I; 27-74 RAM rows 0 to 4 and 7, even column in the high half; 75-80 cycle"
abbrev pub ports_at : ℕ
ports_at = 20

abbrev pub ram_at : ℕ
ram_at = 27

abbrev pub ram_bytes : ℕ
ram_bytes = ram_length / 2

abbrev pub cycle_at : ℕ
cycle_at = 75

-- R-8: "the count last"
abbrev pub count_at : ℕ
count_at = 81

-- "0-2 the mark `U43`"
abbrev pub image_mark : List ℕ
image_mark = 0x55 ∷ 0x34 ∷ 0x33 ∷ []

-- "3-4 version 1"; R-8: "version 2"
abbrev pub ordinal : Version → ℕ
ordinal One = 1
ordinal Two = 2

abbrev pub version_bytes : Version → List ℕ
version_bytes v = 0 ∷ ordinal v ∷ []

-- "7-12 stack, newest first": two bytes each
abbrev pub words_bytes : List ℕ → List ℕ
words_bytes [] = []
words_bytes (w ∷ ws) = bytes_of 2 w ++ words_bytes ws

-- "15 bits 0 to 5: C, C', INT, INTE, TM, level"
abbrev pub flags_byte : Core → ℕ
flags_byte c =
    c.registers.carry + 2 * c.registers.saved + 4 * c.interrupt.int + 8 * c.interrupt.inte + 16 * c.timer.tm + 32 * c.interrupt.level

-- "27-74 RAM rows 0 to 4 and 7, even column in the high half"
abbrev pub packed : List ℕ → List ℕ
packed [] = []
packed (a ∷ []) = (16 * a) ∷ []
packed (a ∷ b ∷ ws) = (16 * a + b) ∷ packed ws

-- "13 DP; 14 Acc; 15 ..; 16 mark 0 to 3 in the order above; 17 owed; 18 register, 0 when stopped; 19 counter, 0 when stopped"
abbrev pub core_bytes : Core → List ℕ
core_bytes c = dp_of c ∷ c.registers.acc ∷ flags_byte c ∷ c.mark ∷ c.owed ∷ c.timer.register ∷ c.timer.counter ∷ []

-- "5-6 PC; 7-12 stack, newest first; 13 DP; .. 20-26 ports C to I; 27-74 RAM ..; 75-80 cycle. Big-endian."
abbrev pub body_bytes : State → List ℕ
body_bytes s =
    bytes_of 2 s.core.flow.pc
    ++ words_bytes s.core.flow.stack
    ++ core_bytes s.core
    ++ s.ports
    ++ packed s.ram
    ++ bytes_of 6 s.cycle.0

-- R-8: "the count last"; version 1 has none
abbrev pub count_bytes : Version → ℕ → List ℕ
count_bytes One count = []
count_bytes Two count = count ∷ []

-- The image of a state, of either version: R-8: "Version 1 .. can be written for old boards".
unfoldable pub image_of : Version → State → List ℕ
image_of v s = image_mark ++ version_bytes v ++ body_bytes s ++ count_bytes v s.count

abbrev pub byte : List ℕ → ℕ → ℕ
byte image at = get_or image at 0

abbrev pub unpacked : List ℕ → List ℕ
unpacked [] = []
unpacked (b ∷ bs) = (b / 16) ∷ (b % 16) ∷ unpacked bs

-- The state of an image. R-8: "Version 1 is still restored, with count 0": it has no byte 81.
unfoldable pub of_image : List ℕ → State
of_image image = record {
  core = record {
    registers = record {
      acc = byte image acc_at;
      carry = bit_at (byte image flags_at) 0;
      saved = bit_at (byte image flags_at) 1;
      dph = byte image dp_at / 16;
      dpl = byte image dp_at % 16;
    };
    flow = record { pc = number_at image pc_at 2; stack = entries stack_depth (λ i. number_at image (stack_at + 2 * i) 2) };
    interrupt = record { int = bit_at (byte image flags_at) 2; inte = bit_at (byte image flags_at) 3; level = bit_at (byte image flags_at) 5 };
    timer = record { tm = bit_at (byte image flags_at) 4; register = byte image register_at; counter = byte image counter_at };
    mark = byte image mark_at;
    owed = byte image owed_at;
  };
  ports = part image ports_at latches;
  ram = unpacked (part image ram_at ram_bytes);
  count = byte image count_at;
  cycle = record { 0 = number_at image cycle_at 6 };
}

-- "A field above its width or rule is refused", part by part of a state.
-- "Acc: 4 bits. C, C': carry and saved carry"; "DPH 3 bits, DPL 4 bits"
unfoldable pub registers_sound : Registers → Bool
registers_sound r = all_of (ltb r.acc 16 ∷ ltb r.carry 2 ∷ ltb r.saved 2 ∷ ltb r.dph 8 ∷ ltb r.dpl 16 ∷ [])

-- "PC: 11 bits"; "Stack: three PCs."
unfoldable pub flow_sound : Flow → Bool
flow_sound f = all_of (ltb f.pc addresses ∷ eqb (length f.stack) stack_depth ∷ all_below addresses f.stack ∷ [])

-- "INT and INTE flip-flops; .. the INT level last seen"
unfoldable pub interrupt_sound : Interrupt → Bool
interrupt_sound i = all_of (ltb i.int 2 ∷ ltb i.inte 2 ∷ ltb i.level 2 ∷ [])

-- "The 6-bit polynomial register", the counter of 6 bits; "counter, 0 when stopped"
unfoldable pub timer_sound : Timer → Bool
timer_sound t = all_of (ltb t.tm 2 ∷ ltb t.register 64 ∷ ltb t.counter 64 ∷ (ltb 0 t.register || eqb t.counter 0) ∷ [])

-- "The mark gains the value 4 for LI in image byte 16, so 34 starts at 5 there"; "Owed: cycles 0 to 3"
unfoldable pub core_sound : Core → Bool
core_sound c =
    all_of (registers_sound c.registers ∷ flow_sound c.flow ∷ interrupt_sound c.interrupt ∷ timer_sound c.timer ∷ leb c.mark last_mark ∷ leb c.owed 3 ∷ [])

-- "Ports C to I: output latches, I of 3 bits."
unfoldable pub ports_sound : List ℕ → Bool
ports_sound ports = all_of (eqb (length ports) latches ∷ all_below 16 ports ∷ ltb (get_or ports (latches - 1) 0) 8 ∷ [])

-- "the 4-bit RAM word"
unfoldable pub ram_sound : List ℕ → Bool
ram_sound ram = all_of (eqb (length ram) ram_length ∷ all_below 16 ram ∷ [])

-- all fields of a state; R-8: "a count .., at most 4"; "Cycle number, at most 2^48 - 1."
unfoldable pub fields_sound : State → Bool
fields_sound s =
    all_of (core_sound s.core ∷ ports_sound s.ports ∷ ram_sound s.ram ∷ leb s.count reset_count ∷ leb s.cycle.0 cycle_limit ∷ [])

-- R-11: "An image, and a state given as a value, holds zeros for what is absent": of these rows, the words of those that don't exist
abbrev pub rows_zero : Sheet → List ℕ → List ℕ → Bool
rows_zero sheet [] ram = true
rows_zero sheet (r ∷ rs) ram = (row_exists sheet r || all_below 1 (part ram (place_of (16 * r)) 16)) && rows_zero sheet rs ram

-- and the stack's words below the levels that exist
abbrev pub levels_zero : Sheet → List ℕ → Bool
levels_zero sheet stack = all_below 1 (drop sheet.levels stack)

unfoldable pub absent_zero : Sheet → State → Bool
absent_zero sheet s = levels_zero sheet s.core.flow.stack && rows_zero sheet stored_rows s.ram

-- what the chip of a sheet takes
unfoldable pub state_sound : Sheet → State → Bool
state_sound sheet s = fields_sound s && absent_zero sheet s

-- "34 a field, also in a state given as a value"; R-11: "zeros for what is absent, else 34"
unfoldable pub state_number : Sheet → State → ℕ
state_number sheet s = unless (state_sound sheet s) 34

-- R-8: "54, in a save between 34 and 1, a version 1 image wanted while the count isn't 0"
unfoldable pub version_number : Version → State → ℕ
version_number One s = unless (eqb s.count 0) 54
version_number Two s = 0

-- of an image the flags byte has a width of its own: 6 bits
unfoldable pub fields_number : Sheet → List ℕ → ℕ
fields_number sheet image = unless (ltb (byte image flags_at) 64 && state_sound sheet (of_image image)) 34

-- the version that goes with an image's length: 82 bytes are version 2's, and of other lengths only version 1's is none of 31
abbrev pub version_by : Bool → Version
version_by true = Two
version_by false = One

abbrev pub version_of : List ℕ → Version
version_of image = version_by (eqb (length image) (image_length Two))

-- "31 length not 81; 32 bytes 0 to 2; 33 version; 34 a field"; R-8: "31 is now a length of neither 81 nor 82, 33 a version that
-- doesn't go with the length"
unfoldable pub image_number : Sheet → List ℕ → ℕ
image_number sheet image =
    first_of
    (unless (eqb (length image) (image_length (version_of image))) 31
    ∷ unless (same_numbers (part image image_mark_at 3) image_mark) 32
    ∷ unless (same_numbers (part image version_at 2) (version_bytes (version_of image))) 33
    ∷ fields_number sheet image
    ∷ [])
