-- Document 01, "Bench cases, and what misleads": the cases marked P by themselves, then rows of document 01's other sentences, then
-- those of document 02's requests, all in one table, `cases`. Assumes nothing: these are definitions.
use Rattle.std.specs.Prelude.{ℕ, ◌+◌, ◌-◌, ◌/◌, ◌%◌, Bool, true, ◌&&◌, List, [], ◌∷◌, ◌++◌, eqb, length, take, drop, replicate}
use Rattle.runs.specs.declared.Version.TheVariants.{One, Two}
use Rattle.runs.specs.TwoRunners.{number_of_end, RunAnswer, unbroken, run_number, save_number, restore_number, restore_answer, current_number, plain, skipping}
use Rattle.upd546.specs.declared.Core.{Core}
use Rattle.upd546.specs.declared.State.{State}
use Rattle.upd546.specs.declared.Sheet.{Sheet}
use Rattle.upd546.specs.TheSheet.{sheet_number}
use Rattle.upd546.specs.TheMachine.{fresh, newest}
use Rattle.upd546.specs.Parts.{with_core, with_count, state_of, with_flow, with_timer, set_acc, set_carry, set_dph, set_dpl, set_pc, set_int, set_inte, set_mark, set_owed}
use Rattle.upd546.specs.StateImage.{image_of, of_image}
use Rattle.upd546.specs.Sequences.{same_numbers}
use Rattle.upd546.specs.TwoRunners.{chip, upd546}
use Rattle.upd546.specs.Reports.{trace_text}

-- What is due stands in figures, and ROMs and states to start from do too, so that no definition is compared with itself.
--
-- A row is a test that passes. There are five kinds, each with its columns.

-- every one of the tests passes of x
abbrev pub all_pass : {A : Type 0} → List (A → Bool) → A → Bool
all_pass [] x = true
all_pass (t ∷ ts) x = t x && all_pass ts x

-- The machine cycle: so many cycles of a ROM with no schedule, and what the state then shows.
pub record MachineRow : Type 0 where
  pub rom : List ℕ
  pub start : State
  pub cycles : ℕ
  pub shows : List (State → Bool)

abbrev pub on_machine : MachineRow → Bool
on_machine r = all_pass r.shows (unbroken upd546 r.rom [] r.cycles r.start).state

-- The same with a schedule.
pub record LinesRow : Type 0 where
  pub rom : List ℕ
  pub schedule : List ℕ
  pub start : State
  pub cycles : ℕ
  pub shows : List (State → Bool)

abbrev pub on_lines : LinesRow → Bool
on_lines r = all_pass r.shows (unbroken upd546 r.rom r.schedule r.cycles r.start).state

-- A runner on ROM, schedule, state, log and n: what it answers, and what the state that it answers shows.
pub record RunnerRow : Type 0 where
  pub run : RunAnswer State
  pub answers : List (RunAnswer State → Bool)
  pub shows : List (State → Bool)

-- the run is an argument here, so that it is computed once
abbrev pub answer_passes : RunnerRow → RunAnswer State → Bool
answer_passes r a = all_pass r.answers a && all_pass r.shows a.state

abbrev pub on_runner : RunnerRow → Bool
on_runner r = answer_passes r r.run

-- Numbers, bytes or a text: what the definitions give, and what the document says.
pub record NumbersRow : Type 0 where
  pub given : List ℕ
  pub wanted : List ℕ

abbrev pub on_numbers : NumbersRow → Bool
on_numbers r = same_numbers r.given r.wanted

-- A state: what the definitions give, and what the document says.
pub record StateRow : Type 0 where
  pub given : State
  pub wanted : State

-- the fields of a state, one by one
abbrev pub core_numbers : Core → List ℕ
core_numbers c =
    c.registers.acc ∷ c.registers.carry ∷ c.registers.saved ∷ c.registers.dph ∷ c.registers.dpl
    ∷ c.flow.pc ∷ c.flow.stack
    ++ (c.interrupt.int ∷ c.interrupt.inte ∷ c.interrupt.level
    ∷ c.timer.tm ∷ c.timer.register ∷ c.timer.counter ∷ c.mark ∷ c.owed ∷ [])

abbrev pub state_numbers : State → List ℕ
state_numbers s = core_numbers s.core ++ s.ports ++ s.ram ++ (s.count ∷ s.cycle.0 ∷ [])

abbrev pub on_state : StateRow → Bool
on_state r = same_numbers (state_numbers r.given) (state_numbers r.wanted)

-- What a state shows.

abbrev pub pc_is : ℕ → State → Bool
pc_is v s = eqb s.core.flow.pc v

-- newest first
abbrev pub stack_is : List ℕ → State → Bool
stack_is v s = same_numbers s.core.flow.stack v

abbrev pub newest_is : ℕ → State → Bool
newest_is v s = eqb (newest s.core.flow.stack) v

abbrev pub acc_is : ℕ → State → Bool
acc_is v s = eqb s.core.registers.acc v

abbrev pub carry_is : ℕ → State → Bool
carry_is v s = eqb s.core.registers.carry v

abbrev pub dph_is : ℕ → State → Bool
dph_is v s = eqb s.core.registers.dph v

-- DPH and DPL, as 23 is DPH 2 and DPL 3
abbrev pub dp_is : ℕ → State → Bool
dp_is v s = eqb s.core.registers.dph (v / 16) && eqb s.core.registers.dpl (v % 16)

abbrev pub int_is : ℕ → State → Bool
int_is v s = eqb s.core.interrupt.int v

abbrev pub inte_is : ℕ → State → Bool
inte_is v s = eqb s.core.interrupt.inte v

-- the INT level last seen
abbrev pub level_is : ℕ → State → Bool
level_is v s = eqb s.core.interrupt.level v

abbrev pub tm_is : ℕ → State → Bool
tm_is v s = eqb s.core.timer.tm v

-- the timer's register and counter, 0 and 0 when it is stopped
abbrev pub timer_is : ℕ → ℕ → State → Bool
timer_is register counter s = eqb s.core.timer.register register && eqb s.core.timer.counter counter

-- 0 other, 1 LDI, 2 EI, 3 STM, 4 LI
abbrev pub mark_is : ℕ → State → Bool
mark_is v s = eqb s.core.mark v

abbrev pub owed_is : ℕ → State → Bool
owed_is v s = eqb s.core.owed v

-- latches C to I
abbrev pub ports_are : List ℕ → State → Bool
ports_are v s = same_numbers s.ports v

abbrev pub ram_is : List ℕ → State → Bool
ram_is v s = same_numbers s.ram v

-- the count of consecutive cycles with RES high
abbrev pub count_is : ℕ → State → Bool
count_is v s = eqb s.count v

-- What a run answers.

-- of a stop or a refusal, 0 of a run that finished
abbrev pub number_is : ℕ → RunAnswer State → Bool
number_is v a = eqb (number_of_end a.end) v

abbrev pub cycles_are : ℕ → RunAnswer State → Bool
cycles_are v a = eqb a.cycles v

abbrev pub clocks_are : ℕ → RunAnswer State → Bool
clocks_are v a = eqb a.clocks v

-- instructions begun
abbrev pub begun_are : ℕ → RunAnswer State → Bool
begun_are v a = eqb a.begun v

abbrev pub steps_are : ℕ → RunAnswer State → Bool
steps_are v a = eqb a.steps v

-- log bytes written
abbrev pub written_are : ℕ → RunAnswer State → Bool
written_are v a = eqb a.written v

-- the whole lent log, as it stands when the run returns
abbrev pub log_is : List ℕ → RunAnswer State → Bool
log_is v a = same_numbers a.log v

-- What a row is given.

-- a ROM of 2,000 bytes that has the bytes from an address on, else zeros
abbrev pub rom_at : ℕ → List ℕ → List ℕ
rom_at a bytes = replicate a 0 ++ bytes ++ replicate (2000 - (a + length bytes)) 0

-- a schedule of one record: from cycle 0 on these lines A and B, C and D, and INT high
abbrev pub lines_from0 : ℕ → ℕ → List ℕ
lines_from0 ab cd = replicate 6 0 ++ (ab ∷ cd ∷ 1 ∷ 0 ∷ [])

-- and of one in which INT falls at cycle n, which is below 256
abbrev pub fall_at : ℕ → List ℕ
fall_at n = replicate 5 0 ++ (n ∷ 0 ∷ 0 ∷ 0 ∷ 0 ∷ [])

-- a record at cycle n, which is below 256: ports 0, INT and RES
abbrev pub record_at : (n int res : ℕ) → List ℕ
record_at n int res = replicate 5 0 ++ (n ∷ 0 ∷ 0 ∷ int ∷ res ∷ [])

-- RES high from cycle 0 on, and from cycle 0 up to cycle n, with INT high
abbrev pub held : List ℕ
held = record_at 0 1 1

abbrev pub held_to : ℕ → List ℕ
held_to n = held ++ record_at n 1 0

-- the fresh state, whose fields a row has in figures, with another core
abbrev pub from : (Core → Core) → State
from f = with_core fresh (f fresh.core)

-- a RAM of zeros but for the word at a place: rows 0 to 4 and 7 one after the other, 16 words each, so X, word 7F, is at 95
abbrev pub ram_with : ℕ → ℕ → List ℕ
ram_with place v = replicate place 0 ++ v ∷ replicate (95 - place) 0

-- and with such a RAM
abbrev pub from_word : (Core → Core) → ℕ → ℕ → State
from_word f place v = state_of (f fresh.core) (ram_with place v) fresh.ports 0

-- and with latches C to I
abbrev pub driving : (Core → Core) → List ℕ → State
driving f ports = state_of (f fresh.core) fresh.ram ports 0

-- all zero, level high, with a mark and cycles owed: in figures
abbrev pub zeros_with : (mark owed : ℕ) → State
zeros_with mark owed = record {
  core = record {
    registers = record { acc = 0; carry = 0; saved = 0; dph = 0; dpl = 0 };
    flow = record { pc = 0; stack = 0 ∷ 0 ∷ 0 ∷ [] };
    interrupt = record { int = 0; inte = 0; level = 1 };
    timer = record { tm = 0; register = 0; counter = 0 };
    mark = mark;
    owed = owed;
  };
  ports = replicate 7 0;
  ram = replicate 96 0;
  count = 0;
  cycle = record { 0 = 0 };
}

-- its image: zeros but for `U43`, version 1, the level in byte 15, the mark in byte 16 and the cycles owed in byte 17
abbrev pub image_with : (mark owed : ℕ) → List ℕ
image_with mark owed = (0x55 ∷ 0x34 ∷ 0x33 ∷ 0 ∷ 1 ∷ []) ++ replicate 10 0 ++ (32 ∷ mark ∷ owed ∷ replicate 63 0)

-- its image of version 2, with a count
abbrev pub image_two_with : (count : ℕ) → List ℕ
image_two_with count = (0x55 ∷ 0x34 ∷ 0x33 ∷ 0 ∷ 2 ∷ []) ++ replicate 10 0 ++ (32 ∷ replicate 65 0) ++ (count ∷ [])

-- THE CASES MARKED P, twelve, in the document's order. A case with two parts has two rows.
abbrev pub p_cases : List Bool
p_cases =
    -- 1. "STM 80 at cycle 0: TTM at 64 doesn't skip, at 65 skips."
    on_machine (record { rom = rom_at 0 (0x14 ∷ 0x80 ∷ replicate 70 0x05); start = fresh; cycles = 65; shows = pc_is 65 ∷ [] })
    ∷ on_machine (record { rom = rom_at 0 (0x14 ∷ 0x80 ∷ replicate 70 0x05); start = fresh; cycles = 66; shows = pc_is 67 ∷ [] })
    -- 2. "STM BF: 4,033 and 4,034." NOP, and then TTM in the odd cycles; TTM in the even cycles
    ∷ on_machine (record { rom = rom_at 0 (0x14 ∷ 0xBF ∷ 0x00 ∷ 0x05 ∷ 0xC3 ∷ []); start = fresh; cycles = 4034; shows = pc_is 4 ∷ [] })
    ∷ on_machine (record { rom = rom_at 0 (0x14 ∷ 0xBF ∷ 0x05 ∷ 0xC2 ∷ []); start = fresh; cycles = 4035; shows = pc_is 4 ∷ [] })
    -- 3. "TC with C=1 before CI costs 3, before NOP 2." After its first cycle 2 are owed, and 1
    ∷ on_machine (record { rom = rom_at 0 (0x04 ∷ 0x17 ∷ []); start = from (set_carry 1); cycles = 1; shows = pc_is 3 ∷ owed_is 2 ∷ [] })
    ∷ on_machine (record { rom = rom_at 0 (0x04 ∷ 0x00 ∷ []); start = from (set_carry 1); cycles = 1; shows = pc_is 2 ∷ owed_is 1 ∷ [] })
    -- 4. "NOP at 1FF leads to 100."
    ∷ on_machine (record { rom = rom_at 0x1FF (0x00 ∷ []); start = from (set_pc 0x1FF); cycles = 1; shows = pc_is 0x100 ∷ [] })
    -- 5. "BF calls 03C."
    ∷ on_machine (record { rom = rom_at 0 (0xBF ∷ []); start = fresh; cycles = 1; shows = pc_is 0x03C ∷ stack_is (1 ∷ 0 ∷ 0 ∷ []) ∷ [] })
    -- 6. "DEM in row 5 skips, stores nothing."
    ∷ on_machine (record { rom = rom_at 0 (0x1F ∷ []); start = from (set_dph 5); cycles = 1; shows = pc_is 2 ∷ ram_is (replicate 96 0) ∷ [] })
    -- 7. "XHX with DPH 5, X 9: DPH 1, X 5."
    ∷ on_machine (record {
      rom = rom_at 0 (0x4F ∷ []);
      start = from_word (set_dph 5) 95 9;
      cycles = 1;
      shows = dph_is 1 ∷ ram_is (ram_with 95 5) ∷ [];
    })
    -- 8. "RAR of 1, C=0: Acc 0, C 1."
    ∷ on_machine (record { rom = rom_at 0 (0x30 ∷ []); start = from (set_acc 1); cycles = 1; shows = acc_is 0 ∷ carry_is 1 ∷ [] })
    -- 9. "ADS 9+8+1: Acc 2, C 1, skip."
    ∷ on_machine (record {
      rom = rom_at 0 (0x09 ∷ []);
      start = from_word (λ c. set_carry 1 (set_acc 9 c)) 0 8;
      cycles = 1;
      shows = acc_is 2 ∷ carry_is 1 ∷ pc_is 2 ∷ [];
    })
    -- 10. "JCP C5 at 03F goes to 005."
    ∷ on_machine (record { rom = rom_at 0x03F (0xC5 ∷ []); start = from (set_pc 0x03F); cycles = 1; shows = pc_is 0x005 ∷ [] })
    -- 11. "with INT set, EI then NOP: acceptance follows NOP." Not before NOP, and then
    ∷ on_machine (record { rom = rom_at 0 (0x31 ∷ 0x00 ∷ []); start = from (set_int 1); cycles = 2; shows = pc_is 2 ∷ [] })
    ∷ on_machine (record {
      rom = rom_at 0 (0x31 ∷ 0x00 ∷ []);
      start = from (set_int 1);
      cycles = 3;
      shows = pc_is 0x03C ∷ stack_is (2 ∷ 0 ∷ 0 ∷ []) ∷ int_is 0 ∷ inte_is 0 ∷ [];
    })
    -- 12. "a fourth call loses the first return." Calls at 000, 004, 008 and 00C
    ∷ on_machine (record {
      rom = rom_at 0 (0xB1 ∷ 0 ∷ 0 ∷ 0 ∷ 0xB2 ∷ 0 ∷ 0 ∷ 0 ∷ 0xB3 ∷ 0 ∷ 0 ∷ 0 ∷ 0xB4 ∷ []);
      start = fresh;
      cycles = 4;
      shows = stack_is (0x00D ∷ 0x009 ∷ 0x005 ∷ []) ∷ [];
    })
    ∷ []

-- THE REST OF DOCUMENT 01.
abbrev pub other_cases : List Bool
other_cases =
    -- "cycle limit reached exactly is taken", and one more is 2
    on_numbers (record { given = run_number upd546 (rom_at 0 []) [] fresh 281474976710655 ∷ []; wanted = 0 ∷ [] })
    ∷ on_numbers (record { given = run_number upd546 (rom_at 0 []) [] fresh 281474976710656 ∷ []; wanted = 2 ∷ [] })
    -- Misleading: "AD setting C". 9+8: Acc 1, C as it was, skip
    ∷ on_machine (record {
      rom = rom_at 0 (0x08 ∷ []);
      start = from_word (set_acc 9) 0 8;
      cycles = 1;
      shows = acc_is 1 ∷ carry_is 0 ∷ pc_is 2 ∷ [];
    })
    -- Misleading: "dropping owed cycles on save". The image of the fresh state with 2 cycles owed, and the state of these bytes
    ∷ on_numbers (record { given = image_of One (from (set_owed 2)); wanted = image_with 0 2 })
    ∷ on_state (record { given = of_image (image_with 0 2); wanted = zeros_with 0 2 })
    -- "Fresh state: all zero, level high, mark other, timer stopped"
    ∷ on_state (record { given = fresh; wanted = zeros_with 0 0 })
    -- "22 a byte above 7CF is needed (the second byte of an LDI that is a NOP counts)": LDI at 7CF with mark LDI, and no cycle
    ∷ on_runner (record {
      run = plain upd546 (rom_at 0x7CF (0x15 ∷ [])) [] (from (λ c. set_pc 0x7CF (set_mark 1 c))) [] 1;
      answers = number_is 22 ∷ cycles_are 0 ∷ [];
      shows = [];
    })
    -- "A run checks 21, 12, 11, 13/14, 34, 2": for n = 0 too
    ∷ on_runner (record { run = plain upd546 (replicate 1999 0) [] fresh [] 0; answers = number_is 21 ∷ []; shows = [] })
    -- What reports show: n = 10, "ROM 1E A5 93 44 1C then zeros, no schedule"; the five lines of the document, to the letter
    ∷ on_numbers (record {
      given = trace_text (0 ∷ 0 ∷ 0 ∷ 10 ∷ rom_at 0 (0x1E ∷ 0xA5 ∷ 0x93 ∷ 0x44 ∷ 0x1C ∷ []));
      wanted =
          (99 ∷ 121 ∷ 99 ∷ 108 ∷ 101 ∷ 32 ∷ 112 ∷ 111 ∷ 114 ∷ 116 ∷ 32 ∷ 118 ∷ 97 ∷ 108 ∷ 117 ∷ 101 ∷ 10 ∷ [])
          ++ (48 ∷ 32 ∷ 67 ∷ 32 ∷ 53 ∷ 10 ∷ [])
          ++ (48 ∷ 32 ∷ 68 ∷ 32 ∷ 65 ∷ 10 ∷ [])
          ++ (51 ∷ 32 ∷ 69 ∷ 32 ∷ 51 ∷ 10 ∷ [])
          ++ (101 ∷ 110 ∷ 100 ∷ 32 ∷ 53 ∷ 32 ∷ 51 ∷ 32 ∷ 50 ∷ 51 ∷ 10 ∷ []);
    })
    ∷ []

-- WHERE THE TIMER-SKIPPING RUNNER JUMPS. Document 01, "Two runners".
abbrev pub jump_cases : List Bool
jump_cases =
    -- STM 80 and then TTM and a JCP back to it: 2 steps for STM, a jump of 62 cycles, and then cycle by cycle; TTM skips at 66
    on_runner (record {
      run = skipping upd546 (rom_at 0 (0x14 ∷ 0x80 ∷ 0x05 ∷ 0xC2 ∷ [])) [] fresh (replicate 552 0) 68;
      answers = number_is 0 ∷ cycles_are 68 ∷ clocks_are 272 ∷ begun_are 66 ∷ steps_are 7 ∷ [];
      shows = pc_is 4 ∷ [];
    })
    -- The mark plays no part in a jump, and is other after it. TTM directly after STM 81: a jump of 126 cycles begins with mark STM
    ∷ on_runner (record {
      run = skipping upd546 (rom_at 0 (0x14 ∷ 0x81 ∷ 0x05 ∷ 0xC2 ∷ [])) [] fresh [] 128;
      answers = number_is 0 ∷ cycles_are 128 ∷ begun_are 127 ∷ steps_are 3 ∷ [];
      shows = pc_is 0x002 ∷ mark_is 0 ∷ tm_is 1 ∷ timer_is 0 0 ∷ int_is 0 ∷ inte_is 0 ∷ [];
    })
    -- TTM directly after EI, which stands after STM 80: a jump of 62 cycles begins with mark EI
    ∷ on_runner (record {
      run = skipping upd546 (rom_at 0 (0x14 ∷ 0x80 ∷ 0x31 ∷ 0x05 ∷ 0xC3 ∷ [])) [] fresh [] 65;
      answers = number_is 0 ∷ cycles_are 65 ∷ begun_are 64 ∷ steps_are 4 ∷ [];
      shows = pc_is 0x003 ∷ mark_is 0 ∷ tm_is 1 ∷ timer_is 0 0 ∷ int_is 0 ∷ inte_is 1 ∷ [];
    })
    -- TTM directly after LDI, which stands after STM 80: a jump of 60 cycles begins with mark LDI, and one tick is left
    ∷ on_runner (record {
      run = skipping upd546 (rom_at 0 (0x14 ∷ 0x80 ∷ 0x15 ∷ 0x25 ∷ 0x05 ∷ 0xC4 ∷ [])) [] fresh [] 64;
      answers = number_is 0 ∷ cycles_are 64 ∷ begun_are 62 ∷ steps_are 5 ∷ [];
      shows = pc_is 0x004 ∷ mark_is 0 ∷ tm_is 0 ∷ timer_is 32 0 ∷ int_is 0 ∷ inte_is 0 ∷ [];
    })
    -- INT and INTE both 1 with mark EI: no jump, though no interrupt is taken yet; TTM is begun, and acceptance follows it
    ∷ on_runner (record {
      run = skipping upd546 (rom_at 0 (0x14 ∷ 0x80 ∷ 0x31 ∷ 0x05 ∷ 0xC3 ∷ [])) [] (from (set_int 1)) [] 5;
      answers = number_is 0 ∷ cycles_are 5 ∷ begun_are 3 ∷ steps_are 5 ∷ [];
      shows = pc_is 0x03C ∷ mark_is 0 ∷ tm_is 0 ∷ timer_is 8 0 ∷ int_is 0 ∷ inte_is 0 ∷ [];
    })
    -- TTM at 03F: JCP FF at 040 leads to 07F and not back, so there is no jump
    ∷ on_runner (record {
      run = skipping upd546 (rom_at 0x03D (0x14 ∷ 0x80 ∷ 0x05 ∷ 0xFF ∷ [])) [] (from (set_pc 0x03D)) [] 4;
      answers = number_is 0 ∷ cycles_are 4 ∷ begun_are 3 ∷ steps_are 4 ∷ [];
      shows = pc_is 0x07F ∷ mark_is 0 ∷ tm_is 0 ∷ timer_is 4 0 ∷ int_is 0 ∷ inte_is 0 ∷ [];
    })
    -- TTM at 7CF: there is no next address, so no jump; 22 where a JCP would be due
    ∷ on_runner (record {
      run = skipping upd546 (rom_at 0x7CD (0x14 ∷ 0x80 ∷ 0x05 ∷ [])) [] (from (set_pc 0x7CD)) [] 10;
      answers = number_is 22 ∷ cycles_are 3 ∷ begun_are 2 ∷ steps_are 3 ∷ [];
      shows = pc_is 0x7D0 ∷ mark_is 0 ∷ tm_is 0 ∷ timer_is 2 0 ∷ int_is 0 ∷ inte_is 0 ∷ [];
    })
    ∷ []

-- R-2, "C and D read back what they drive."
abbrev pub read_back_cases : List Bool
read_back_cases =
    -- "On C and D a bit now reads 1 if the line or the latch is 1." C reads back a strobe while its lines are low: LDZ 2, LI 5, OP, IP
    on_machine (record { rom = rom_at 0 (0x82 ∷ 0x95 ∷ 0x0E ∷ 0x32 ∷ []); start = fresh; cycles = 4; shows = acc_is 5 ∷ [] })
    -- C reads a line that is high while the latch is low
    ∷ on_lines (record {
      rom = rom_at 0 (0x32 ∷ []);
      schedule = lines_from0 0 0xA0;
      start = from (set_dpl 2);
      cycles = 1;
      shows = acc_is 10 ∷ [];
    })
    -- line 3 or latch 5 is 7, and the latches are as before
    ∷ on_lines (record {
      rom = rom_at 0 (0x32 ∷ []);
      schedule = lines_from0 0 0x30;
      start = driving (set_dpl 2) (5 ∷ 8 ∷ replicate 5 0);
      cycles = 1;
      shows = acc_is 7 ∷ ports_are (5 ∷ 8 ∷ replicate 5 0) ∷ [];
    })
    -- D likewise, line 1 or latch 8 is 9
    ∷ on_lines (record {
      rom = rom_at 0 (0x32 ∷ []);
      schedule = lines_from0 0 0x31;
      start = driving (set_dpl 3) (5 ∷ 8 ∷ replicate 5 0);
      cycles = 1;
      shows = acc_is 9 ∷ [];
    })
    -- TPB 2 on C skips by the latch alone, TPB 1 doesn't
    ∷ on_machine (record { rom = rom_at 0 (0x52 ∷ []); start = driving (set_dpl 2) (5 ∷ replicate 6 0); cycles = 1; shows = pc_is 2 ∷ [] })
    ∷ on_machine (record { rom = rom_at 0 (0x51 ∷ []); start = driving (set_dpl 2) (5 ∷ replicate 6 0); cycles = 1; shows = pc_is 1 ∷ [] })
    -- TPB on D at 7CF needs a byte above it because of the latch: 22, and no cycle; with another bit it is begun
    ∷ on_runner (record {
      run = plain upd546 (rom_at 0x7CF (0x51 ∷ [])) [] (driving (λ c. set_pc 0x7CF (set_dpl 3 c)) (0 ∷ 2 ∷ replicate 5 0)) [] 1;
      answers = number_is 22 ∷ cycles_are 0 ∷ [];
      shows = [];
    })
    ∷ on_runner (record {
      run = plain upd546 (rom_at 0x7CF (0x51 ∷ [])) [] (driving (λ c. set_pc 0x7CF (set_dpl 3 c)) (2 ∷ 13 ∷ replicate 5 0)) [] 1;
      answers = number_is 0 ∷ cycles_are 1 ∷ [];
      shows = [];
    })
    -- "Only IP and TPB on C and D change": E still reads 0, although its latch is 15
    ∷ on_lines (record {
      rom = rom_at 0 (0x32 ∷ []);
      schedule = lines_from0 0xFF 0xFF;
      start = driving (λ c. set_acc 3 (set_dpl 4 c)) (0 ∷ 0 ∷ 15 ∷ replicate 4 0);
      cycles = 1;
      shows = acc_is 0 ∷ [];
    })
    -- IA still reads line A alone, here 9, with C named by DPL and both latches 15
    ∷ on_lines (record {
      rom = rom_at 0 (0x40 ∷ []);
      schedule = lines_from0 0x90 0;
      start = driving (set_dpl 2) (15 ∷ 15 ∷ replicate 5 0);
      cycles = 1;
      shows = acc_is 9 ∷ [];
    })
    ∷ []

-- R-5, "Load strings hold together."
abbrev pub load_cases : List Bool
load_cases =
    -- "an LI (CLA too) directly after an LI is a NOP that keeps its mark": LI 5, LI 9, the second an instruction of one cycle that
    -- changes nothing but PC
    on_machine (record { rom = rom_at 0 (0x95 ∷ 0x99 ∷ []); start = fresh; cycles = 1; shows = pc_is 1 ∷ acc_is 5 ∷ dp_is 0 ∷ mark_is 4 ∷ [] })
    ∷ on_machine (record { rom = rom_at 0 (0x95 ∷ 0x99 ∷ []); start = fresh; cycles = 2; shows = pc_is 2 ∷ acc_is 5 ∷ dp_is 0 ∷ mark_is 4 ∷ [] })
    ∷ on_runner (record {
      run = plain upd546 (rom_at 0 (0x95 ∷ 0x99 ∷ [])) [] fresh [] 2;
      answers = number_is 0 ∷ cycles_are 2 ∷ begun_are 2 ∷ [];
      shows = [];
    })
    -- so are the third and the fourth
    ∷ on_machine (record {
      rom = rom_at 0 (0x95 ∷ 0x99 ∷ 0x92 ∷ 0x9F ∷ []);
      start = fresh;
      cycles = 4;
      shows = pc_is 4 ∷ acc_is 5 ∷ dp_is 0 ∷ mark_is 4 ∷ [];
    })
    -- CLA is LI 0, before an LI and after it
    ∷ on_machine (record {
      rom = rom_at 0 (0x90 ∷ 0x97 ∷ []);
      start = from (set_acc 3);
      cycles = 2;
      shows = pc_is 2 ∷ acc_is 0 ∷ dp_is 0 ∷ mark_is 4 ∷ [];
    })
    ∷ on_machine (record { rom = rom_at 0 (0x97 ∷ 0x90 ∷ []); start = fresh; cycles = 2; shows = pc_is 2 ∷ acc_is 7 ∷ dp_is 0 ∷ mark_is 4 ∷ [] })
    -- LI 5, NOP, LI 9: both load
    ∷ on_machine (record {
      rom = rom_at 0 (0x95 ∷ 0x00 ∷ 0x99 ∷ []);
      start = fresh;
      cycles = 3;
      shows = pc_is 3 ∷ acc_is 9 ∷ dp_is 0 ∷ mark_is 4 ∷ [];
    })
    -- LDI 23, LDI 45: the second is a NOP of two cycles that keeps the mark LDI, as in document 01
    ∷ on_machine (record {
      rom = rom_at 0 (0x15 ∷ 0x23 ∷ 0x15 ∷ 0x45 ∷ []);
      start = fresh;
      cycles = 4;
      shows = pc_is 4 ∷ acc_is 0 ∷ dp_is 0x23 ∷ mark_is 1 ∷ [];
    })
    -- LDI 23, LI 5, LDI 45, LI 9: LI after LDI loads, and LDI after LI
    ∷ on_machine (record {
      rom = rom_at 0 (0x15 ∷ 0x23 ∷ 0x95 ∷ []);
      start = fresh;
      cycles = 3;
      shows = pc_is 3 ∷ acc_is 5 ∷ dp_is 0x23 ∷ mark_is 4 ∷ [];
    })
    ∷ on_machine (record {
      rom = rom_at 0 (0x15 ∷ 0x23 ∷ 0x95 ∷ 0x15 ∷ 0x45 ∷ 0x99 ∷ []);
      start = fresh;
      cycles = 6;
      shows = pc_is 6 ∷ acc_is 9 ∷ dp_is 0x45 ∷ mark_is 4 ∷ [];
    })
    -- "Panel firmware enters tables in the middle of a string of loads": JCP 003 enters LI 1, LI 2, LI 3, LI 4 at its third load, also
    -- with mark LI before it: LI 7, JCP 003
    ∷ on_machine (record {
      rom = rom_at 0 (0xC3 ∷ 0x91 ∷ 0x92 ∷ 0x93 ∷ 0x94 ∷ []);
      start = fresh;
      cycles = 3;
      shows = pc_is 5 ∷ acc_is 3 ∷ dp_is 0 ∷ mark_is 4 ∷ [];
    })
    ∷ on_machine (record {
      rom = rom_at 0 (0x97 ∷ 0xC3 ∷ 0x92 ∷ 0x93 ∷ 0x94 ∷ []);
      start = fresh;
      cycles = 4;
      shows = pc_is 5 ∷ acc_is 3 ∷ dp_is 0 ∷ mark_is 4 ∷ [];
    })
    -- a skipped LI isn't begun: LI 5, TC with C=1 over LI 9, LI 3, which loads
    ∷ on_machine (record {
      rom = rom_at 0 (0x95 ∷ 0x04 ∷ 0x99 ∷ 0x93 ∷ []);
      start = from (set_carry 1);
      cycles = 4;
      shows = pc_is 4 ∷ acc_is 3 ∷ dp_is 0 ∷ mark_is 4 ∷ [];
    })
    -- LI 9 at 7CF with mark LI is a NOP of one byte: it is begun, and the byte above 7CF is needed one cycle later
    ∷ on_runner (record {
      run = plain upd546 (rom_at 0x7CF (0x99 ∷ [])) [] (from (λ c. set_pc 0x7CF (set_mark 4 c))) [] 1;
      answers = number_is 0 ∷ cycles_are 1 ∷ [];
      shows = pc_is 0x7D0 ∷ acc_is 0 ∷ dp_is 0 ∷ mark_is 4 ∷ [];
    })
    ∷ on_runner (record {
      run = plain upd546 (rom_at 0x7CF (0x99 ∷ [])) [] (from (λ c. set_pc 0x7CF (set_mark 4 c))) [] 2;
      answers = number_is 22 ∷ cycles_are 1 ∷ [];
      shows = [];
    })
    -- LI 5, a switch-off, LI 9: the string goes on
    ∷ on_machine (record {
      rom = rom_at 0 (0x95 ∷ 0x99 ∷ []);
      start = of_image (image_of One (unbroken upd546 (rom_at 0 (0x95 ∷ 0x99 ∷ [])) [] 1 fresh).state);
      cycles = 1;
      shows = pc_is 2 ∷ acc_is 5 ∷ dp_is 0 ∷ mark_is 4 ∷ [];
    })
    ∷ []

-- "No interrupt is accepted while the mark is LDI or LI", "with cases for an edge between two loads"
abbrev pub edge_cases : List Bool
edge_cases =
    -- INT falls between LI 5 and LI 9, in cycle 1. The interrupt isn't accepted before NOP, and follows it
    on_lines (record {
      rom = rom_at 0 (0x95 ∷ 0x99 ∷ []);
      schedule = fall_at 1;
      start = from (set_inte 1);
      cycles = 3;
      shows = pc_is 3 ∷ newest_is 0 ∷ acc_is 5 ∷ int_is 1 ∷ inte_is 1 ∷ [];
    })
    ∷ on_lines (record {
      rom = rom_at 0 (0x95 ∷ 0x99 ∷ []);
      schedule = fall_at 1;
      start = from (set_inte 1);
      cycles = 4;
      shows = pc_is 0x03C ∷ newest_is 3 ∷ acc_is 5 ∷ int_is 0 ∷ inte_is 0 ∷ [];
    })
    -- so on the plain runner and on the timer-skipping one
    ∷ on_runner (record {
      run = plain upd546 (rom_at 0 (0x95 ∷ 0x99 ∷ [])) (fall_at 1) (from (set_inte 1)) [] 4;
      answers = number_is 0 ∷ [];
      shows = pc_is 0x03C ∷ newest_is 3 ∷ acc_is 5 ∷ int_is 0 ∷ inte_is 0 ∷ [];
    })
    ∷ on_runner (record {
      run = skipping upd546 (rom_at 0 (0x95 ∷ 0x99 ∷ [])) (fall_at 1) (from (set_inte 1)) [] 4;
      answers = number_is 0 ∷ [];
      shows = pc_is 0x03C ∷ newest_is 3 ∷ acc_is 5 ∷ int_is 0 ∷ inte_is 0 ∷ [];
    })
    -- also after a single LI, here in cycle 0
    ∷ on_lines (record {
      rom = rom_at 0 (0x95 ∷ []);
      schedule = fall_at 0;
      start = from (set_inte 1);
      cycles = 2;
      shows = pc_is 2 ∷ newest_is 0 ∷ acc_is 5 ∷ int_is 1 ∷ inte_is 1 ∷ [];
    })
    ∷ on_lines (record {
      rom = rom_at 0 (0x95 ∷ []);
      schedule = fall_at 0;
      start = from (set_inte 1);
      cycles = 3;
      shows = pc_is 0x03C ∷ newest_is 2 ∷ acc_is 5 ∷ int_is 0 ∷ inte_is 0 ∷ [];
    })
    -- between two LDI, in cycle 2
    ∷ on_lines (record {
      rom = rom_at 0 (0x15 ∷ 0x23 ∷ 0x15 ∷ 0x45 ∷ []);
      schedule = fall_at 2;
      start = from (set_inte 1);
      cycles = 5;
      shows = pc_is 5 ∷ newest_is 0 ∷ acc_is 0 ∷ int_is 1 ∷ inte_is 1 ∷ [];
    })
    ∷ on_lines (record {
      rom = rom_at 0 (0x15 ∷ 0x23 ∷ 0x15 ∷ 0x45 ∷ []);
      schedule = fall_at 2;
      start = from (set_inte 1);
      cycles = 6;
      shows = pc_is 0x03C ∷ newest_is 5 ∷ acc_is 0 ∷ int_is 0 ∷ inte_is 0 ∷ [];
    })
    -- with EI at the string's end, LI 5, LI 9, EI: the NOP after EI is begun first
    ∷ on_lines (record {
      rom = rom_at 0 (0x95 ∷ 0x99 ∷ 0x31 ∷ []);
      schedule = fall_at 1;
      start = from (set_inte 1);
      cycles = 4;
      shows = pc_is 4 ∷ newest_is 0 ∷ acc_is 5 ∷ int_is 1 ∷ inte_is 1 ∷ [];
    })
    ∷ on_lines (record {
      rom = rom_at 0 (0x95 ∷ 0x99 ∷ 0x31 ∷ []);
      schedule = fall_at 1;
      start = from (set_inte 1);
      cycles = 5;
      shows = pc_is 0x03C ∷ newest_is 4 ∷ acc_is 5 ∷ int_is 0 ∷ inte_is 0 ∷ [];
    })
    -- EI, LI 5 with INT set: acceptance follows the NOP after LI
    ∷ on_machine (record {
      rom = rom_at 0 (0x31 ∷ 0x95 ∷ []);
      start = from (set_int 1);
      cycles = 3;
      shows = pc_is 3 ∷ newest_is 0 ∷ acc_is 5 ∷ int_is 1 ∷ inte_is 1 ∷ [];
    })
    ∷ on_machine (record {
      rom = rom_at 0 (0x31 ∷ 0x95 ∷ []);
      start = from (set_int 1);
      cycles = 4;
      shows = pc_is 0x03C ∷ newest_is 3 ∷ acc_is 5 ∷ int_is 0 ∷ inte_is 0 ∷ [];
    })
    -- TTM directly after LI, which stands after STM 80: a jump of 62 cycles begins with mark LI
    ∷ on_runner (record {
      run = skipping upd546 (rom_at 0 (0x14 ∷ 0x80 ∷ 0x95 ∷ 0x05 ∷ 0xC3 ∷ [])) [] fresh [] 65;
      answers = number_is 0 ∷ cycles_are 65 ∷ begun_are 64 ∷ steps_are 4 ∷ [];
      shows = pc_is 0x003 ∷ mark_is 0 ∷ tm_is 1 ∷ timer_is 0 0 ∷ int_is 0 ∷ inte_is 0 ∷ [];
    })
    -- STM 80, EI, LI 5 with INT set: at TTM the mark is LI and INT and INTE are both 1, so there is no jump; TTM is begun, and
    -- acceptance follows it
    ∷ on_runner (record {
      run = skipping upd546 (rom_at 0 (0x14 ∷ 0x80 ∷ 0x31 ∷ 0x95 ∷ 0x05 ∷ 0xC4 ∷ [])) [] (from (set_int 1)) [] 6;
      answers = number_is 0 ∷ cycles_are 6 ∷ begun_are 4 ∷ steps_are 6 ∷ [];
      shows = pc_is 0x03C ∷ mark_is 0 ∷ tm_is 0 ∷ timer_is 16 0 ∷ int_is 0 ∷ inte_is 0 ∷ [];
    })
    ∷ []

-- "The mark gains the value 4 for LI in image byte 16, so 34 starts at 5 there."
abbrev pub mark_cases : List Bool
mark_cases =
    -- it is written, and read back
    on_numbers (record { given = image_of One (from (set_mark 4)); wanted = image_with 4 0 })
    ∷ on_state (record { given = of_image (image_with 4 0); wanted = zeros_with 4 0 })
    -- marks 0 to 4 are restored, 5 is 34; of a state given as a value too
    ∷ on_numbers (record { given = upd546.image_number (image_with 0 0) ∷ []; wanted = 0 ∷ [] })
    ∷ on_numbers (record { given = upd546.image_number (image_with 1 0) ∷ []; wanted = 0 ∷ [] })
    ∷ on_numbers (record { given = upd546.image_number (image_with 2 0) ∷ []; wanted = 0 ∷ [] })
    ∷ on_numbers (record { given = upd546.image_number (image_with 3 0) ∷ []; wanted = 0 ∷ [] })
    ∷ on_numbers (record { given = upd546.image_number (image_with 4 0) ∷ []; wanted = 0 ∷ [] })
    ∷ on_numbers (record { given = upd546.image_number (image_with 5 0) ∷ []; wanted = 34 ∷ [] })
    ∷ on_numbers (record { given = upd546.state_number (from (set_mark 4)) ∷ []; wanted = 0 ∷ [] })
    ∷ on_numbers (record { given = upd546.state_number (from (set_mark 5)) ∷ []; wanted = 34 ∷ [] })
    ∷ []

-- R-8, "The reset line." The count.
abbrev pub count_cases : List Bool
count_cases =
    -- "a count of consecutive cycles with RES high, at most 4": with RES high from cycle 0 on, cycles 0 to 2 are ordinary ones, here NOPs
    on_lines (record { rom = rom_at 0 []; schedule = held; start = fresh; cycles = 1; shows = pc_is 1 ∷ count_is 1 ∷ [] })
    ∷ on_lines (record { rom = rom_at 0 []; schedule = held; start = fresh; cycles = 2; shows = pc_is 2 ∷ count_is 2 ∷ [] })
    ∷ on_lines (record { rom = rom_at 0 []; schedule = held; start = fresh; cycles = 3; shows = pc_is 3 ∷ count_is 3 ∷ [] })
    -- "A cycle with RES high that brings or finds the count at 4 is a reset cycle": cycle 3 brings it there, later ones find it
    ∷ on_lines (record { rom = rom_at 0 []; schedule = held; start = fresh; cycles = 4; shows = pc_is 0 ∷ count_is 4 ∷ [] })
    ∷ on_lines (record { rom = rom_at 0 []; schedule = held; start = fresh; cycles = 5; shows = pc_is 0 ∷ count_is 4 ∷ [] })
    ∷ on_lines (record { rom = rom_at 0 []; schedule = held; start = fresh; cycles = 9; shows = pc_is 0 ∷ count_is 4 ∷ [] })
    -- "low makes the count 0": RES high for three cycles is no reset, and three more after one with RES low are none
    ∷ on_lines (record { rom = rom_at 0 []; schedule = held_to 3; start = fresh; cycles = 4; shows = pc_is 4 ∷ count_is 0 ∷ [] })
    ∷ on_lines (record {
      rom = rom_at 0 [];
      schedule = held_to 3 ++ record_at 4 1 1;
      start = fresh;
      cycles = 7;
      shows = pc_is 7 ∷ count_is 3 ∷ [];
    })
    -- after a reset too
    ∷ on_lines (record { rom = rom_at 0 []; schedule = held_to 5; start = fresh; cycles = 6; shows = pc_is 1 ∷ count_is 0 ∷ [] })
    -- in an owed cycle and in one of an acceptance as well
    ∷ on_machine (record { rom = rom_at 0 []; start = with_count 3 (from (set_owed 2)); cycles = 1; shows = owed_is 1 ∷ count_is 0 ∷ [] })
    ∷ on_machine (record {
      rom = rom_at 0 [];
      start = with_count 3 (from (λ c. set_int 1 (set_inte 1 c)));
      cycles = 1;
      shows = pc_is 0x03C ∷ count_is 0 ∷ [];
    })
    -- and these count RES, as any other
    ∷ on_lines (record { rom = rom_at 0 []; schedule = held; start = from (set_owed 2); cycles = 1; shows = owed_is 1 ∷ count_is 1 ∷ [] })
    ∷ on_lines (record {
      rom = rom_at 0 [];
      schedule = held;
      start = with_count 2 (from (λ c. set_int 1 (set_inte 1 c)));
      cycles = 1;
      shows = pc_is 0x03C ∷ count_is 3 ∷ [];
    })
    -- "The schedule's tenth byte becomes RES, 0 or 1, .. and 13 is amended so"
    ∷ on_numbers (record { given = run_number upd546 (rom_at 0 []) (record_at 0 1 0) fresh 1 ∷ []; wanted = 0 ∷ [] })
    ∷ on_numbers (record { given = run_number upd546 (rom_at 0 []) (record_at 0 1 1) fresh 1 ∷ []; wanted = 0 ∷ [] })
    ∷ on_numbers (record { given = run_number upd546 (rom_at 0 []) (record_at 0 1 2) fresh 1 ∷ []; wanted = 13 ∷ [] })
    ∷ []

-- A state with no field 0, but for its cycle number; and what a reset cycle leaves of it, INT being high.
abbrev pub busy : (count : ℕ) → State
busy count = record {
  core = record {
    registers = record { acc = 9; carry = 1; saved = 1; dph = 5; dpl = 6 };
    flow = record { pc = 0x123; stack = 0x456 ∷ 0x321 ∷ 0x100 ∷ [] };
    interrupt = record { int = 1; inte = 1; level = 1 };
    timer = record { tm = 1; register = 7; counter = 8 };
    mark = 1;
    owed = 2;
  };
  ports = 1 ∷ 2 ∷ 3 ∷ 4 ∷ 5 ∷ 6 ∷ 7 ∷ [];
  ram = replicate 96 11;
  count = count;
  cycle = record { 0 = 0 };
}

abbrev pub after_reset : State
after_reset = record {
  core = record {
    registers = record { acc = 9; carry = 1; saved = 1; dph = 5; dpl = 6 };
    flow = record { pc = 0; stack = 0x456 ∷ 0x321 ∷ 0x100 ∷ [] };
    interrupt = record { int = 0; inte = 0; level = 1 };
    timer = record { tm = 0; register = 0; counter = 0 };
    mark = 0;
    owed = 0;
  };
  ports = replicate 7 0;
  ram = replicate 96 11;
  count = 4;
  cycle = record { 0 = 1 };
}

-- The reset cycle.
abbrev pub reset_cases : List Bool
reset_cases =
    -- "PC, owed, INT, INTE, TM, timer and ports become 0 and the mark other; RAM, Acc, DP, carries and stack are kept", on reaching 4 and
    -- where 4 is found
    on_state (record { given = (unbroken upd546 (rom_at 0 []) held 1 (busy 3)).state; wanted = after_reset })
    ∷ on_state (record { given = (unbroken upd546 (rom_at 0 []) held 1 (busy 4)).state; wanted = after_reset })
    -- "lines are taken first": a fall of INT in a reset cycle is lost, and a level that stays low falls no second time
    ∷ on_lines (record {
      rom = rom_at 0 [];
      schedule = record_at 0 0 1;
      start = with_count 3 fresh;
      cycles = 1;
      shows = int_is 0 ∷ level_is 0 ∷ [];
    })
    ∷ on_lines (record {
      rom = rom_at 0 [];
      schedule = record_at 0 0 1 ++ record_at 1 0 0;
      start = with_count 3 fresh;
      cycles = 3;
      shows = int_is 0 ∷ level_is 0 ∷ pc_is 2 ∷ [];
    })
    -- "nothing is accepted or executed": an interrupt that is due is gone, and so is the instruction, here LI 5
    ∷ on_lines (record {
      rom = rom_at 0 (0x95 ∷ []);
      schedule = held;
      start = with_count 3 (from (λ c. set_int 1 (set_inte 1 c)));
      cycles = 1;
      shows = pc_is 0 ∷ stack_is (0 ∷ 0 ∷ 0 ∷ []) ∷ int_is 0 ∷ inte_is 0 ∷ acc_is 0 ∷ [];
    })
    -- it is a cycle and a step, and no instruction; no byte of the ROM is needed, so 22 doesn't come at 7D0, nor 23 at 1C
    ∷ on_runner (record {
      run = plain upd546 (rom_at 0 (0x1C ∷ [])) held (with_count 4 (from (set_pc 0x7D0))) [] 2;
      answers = number_is 0 ∷ cycles_are 2 ∷ begun_are 0 ∷ steps_are 2 ∷ written_are 0 ∷ [];
      shows = pc_is 0 ∷ count_is 4 ∷ [];
    })
    -- the mark is other after it, so a string of loads starts afresh: LI 9 at 000 loads, though the mark was LI
    ∷ on_lines (record {
      rom = rom_at 0 (0x99 ∷ []);
      schedule = held_to 1;
      start = with_count 3 (from (λ c. set_acc 5 (set_mark 4 c)));
      cycles = 2;
      shows = pc_is 1 ∷ acc_is 9 ∷ mark_is 4 ∷ count_is 0 ∷ [];
    })
    -- and latches are 0, so C then reads its lines alone: IP at 000, with latch 5 before the reset
    ∷ on_lines (record {
      rom = rom_at 0 (0x32 ∷ []);
      schedule = held_to 1;
      start = with_count 3 (driving (λ c. set_acc 3 (set_dpl 2 c)) (5 ∷ replicate 6 0));
      cycles = 2;
      shows = acc_is 0 ∷ [];
    })
    ∷ []

-- Its record.
abbrev pub reset_record_cases : List Bool
reset_record_cases =
    -- "On reaching 4 it appends one record with port 0, value 0": in cycle 3, and none while RES stays high
    on_runner (record {
      run = plain upd546 (rom_at 0 []) held fresh (replicate 9 7) 8;
      answers = number_is 0 ∷ cycles_are 8 ∷ begun_are 3 ∷ steps_are 8 ∷ written_are 8 ∷ log_is (0 ∷ 0 ∷ 0 ∷ 0 ∷ 0 ∷ 3 ∷ 0 ∷ 0 ∷ 7 ∷ []) ∷ [];
      shows = pc_is 0 ∷ count_is 4 ∷ [];
    })
    -- and one more after RES was low, in cycle 9
    ∷ on_runner (record {
      run = plain upd546 (rom_at 0 []) (held_to 5 ++ record_at 6 1 1) fresh (replicate 16 7) 11;
      answers =
          number_is 0 ∷ begun_are 7 ∷ written_are 16
          ∷ log_is (0 ∷ 0 ∷ 0 ∷ 0 ∷ 0 ∷ 3 ∷ 0 ∷ 0 ∷ 0 ∷ 0 ∷ 0 ∷ 0 ∷ 0 ∷ 9 ∷ 0 ∷ 0 ∷ []) ∷ [];
      shows = pc_is 0 ∷ count_is 4 ∷ [];
    })
    -- "and stop 3 covers it": nothing of the cycle happens, so the count stays 3
    ∷ on_runner (record {
      run = plain upd546 (rom_at 0 []) held fresh (replicate 7 7) 8;
      answers = number_is 3 ∷ cycles_are 3 ∷ begun_are 3 ∷ steps_are 3 ∷ written_are 0 ∷ log_is (replicate 7 7) ∷ [];
      shows = pc_is 3 ∷ count_is 3 ∷ [];
    })
    -- and a run that goes on with a new log counts that cycle once
    ∷ on_runner (record {
      run = plain upd546 (rom_at 0 []) held (plain upd546 (rom_at 0 []) held fresh (replicate 7 7) 8).state (replicate 8 7) 1;
      answers = number_is 0 ∷ cycles_are 1 ∷ begun_are 0 ∷ written_are 8 ∷ log_is (0 ∷ 0 ∷ 0 ∷ 0 ∷ 0 ∷ 3 ∷ 0 ∷ 0 ∷ []) ∷ [];
      shows = pc_is 0 ∷ count_is 4 ∷ [];
    })
    -- a stop with 23 counts nothing either, with RES high or low
    ∷ on_runner (record {
      run = plain upd546 (rom_at 0 (0x1C ∷ [])) held (with_count 2 fresh) [] 1;
      answers = number_is 23 ∷ cycles_are 0 ∷ [];
      shows = count_is 2 ∷ [];
    })
    ∷ on_runner (record {
      run = plain upd546 (rom_at 0 (0x1C ∷ [])) [] (with_count 2 fresh) [] 1;
      answers = number_is 23 ∷ cycles_are 0 ∷ [];
      shows = count_is 2 ∷ [];
    })
    -- "A reset can cut OCD short": OCD, a reset in its second cycle, OCD again: 40 bytes in 3 cycles
    ∷ on_runner (record {
      run = plain upd546 (rom_at 0 (0x1E ∷ 0xA5 ∷ [])) (held_to 2) (with_count 2 fresh) (replicate 48 0) 3;
      answers = number_is 0 ∷ cycles_are 3 ∷ begun_are 2 ∷ written_are 40 ∷ [];
      shows = owed_is 1 ∷ count_is 0 ∷ [];
    })
    -- "`trace` letters it R": four cycles with RES high
    ∷ on_numbers (record {
      given = trace_text ((0 ∷ 0 ∷ 0 ∷ 4 ∷ rom_at 0 []) ++ held);
      wanted =
          (99 ∷ 121 ∷ 99 ∷ 108 ∷ 101 ∷ 32 ∷ 112 ∷ 111 ∷ 114 ∷ 116 ∷ 32 ∷ 118 ∷ 97 ∷ 108 ∷ 117 ∷ 101 ∷ 10 ∷ [])
          ++ (51 ∷ 32 ∷ 82 ∷ 32 ∷ 48 ∷ 10 ∷ [])
          ++ (101 ∷ 110 ∷ 100 ∷ 32 ∷ 52 ∷ 32 ∷ 51 ∷ 32 ∷ 48 ∷ 10 ∷ []);
    })
    ∷ []

-- at TTM with a JCP back to it, and 63 ticks left
abbrev pub waiting : State
waiting = from (λ c. with_timer c (record { tm = 0; register = 1; counter = 0 }))

-- "The timer jump needs RES low and a count of 0."
abbrev pub reset_jump_cases : List Bool
reset_jump_cases =
    -- with both, one step
    on_runner (record {
      run = skipping upd546 (rom_at 0 (0x05 ∷ 0xC0 ∷ [])) [] waiting [] 40;
      answers = number_is 0 ∷ cycles_are 40 ∷ begun_are 40 ∷ steps_are 1 ∷ [];
      shows = pc_is 0 ∷ [];
    })
    -- RES high: three steps for three cycles
    ∷ on_runner (record {
      run = skipping upd546 (rom_at 0 (0x05 ∷ 0xC0 ∷ [])) held waiting [] 3;
      answers = number_is 0 ∷ cycles_are 3 ∷ begun_are 3 ∷ steps_are 3 ∷ [];
      shows = pc_is 1 ∷ count_is 3 ∷ [];
    })
    -- a count left over: TTM and JCP by themselves, and then a jump of 38
    ∷ on_runner (record {
      run = skipping upd546 (rom_at 0 (0x05 ∷ 0xC0 ∷ [])) [] (with_count 1 waiting) [] 40;
      answers = number_is 0 ∷ cycles_are 40 ∷ begun_are 40 ∷ steps_are 3 ∷ [];
      shows = pc_is 0 ∷ count_is 0 ∷ [];
    })
    ∷ []

-- "Images become version 2, 82 bytes, the count last"
abbrev pub version_cases : List Bool
version_cases =
    on_numbers (record { given = image_of Two (with_count 3 fresh); wanted = image_two_with 3 })
    ∷ on_state (record { given = of_image (image_two_with 3); wanted = with_count 3 (zeros_with 0 0) })
    -- "Version 1 is still restored, with count 0, and can be written for old boards"
    ∷ on_numbers (record { given = upd546.image_number (image_with 0 0) ∷ []; wanted = 0 ∷ [] })
    ∷ on_state (record { given = of_image (image_with 0 0); wanted = zeros_with 0 0 })
    ∷ on_numbers (record { given = image_of One fresh; wanted = image_with 0 0 })
    -- a count up to 4 is taken, and 5 is 34, in byte 81 and in a state given as a value
    ∷ on_numbers (record { given = upd546.image_number (image_two_with 4) ∷ upd546.image_number (image_two_with 5) ∷ []; wanted = 0 ∷ 34 ∷ [] })
    ∷ on_numbers (record { given = upd546.state_number (with_count 4 fresh) ∷ []; wanted = 0 ∷ [] })
    ∷ on_numbers (record { given = upd546.state_number (with_count 5 fresh) ∷ []; wanted = 34 ∷ [] })
    -- "31 is now a length of neither 81 nor 82": 80 and 83 bytes
    ∷ on_numbers (record { given = upd546.image_number (take 80 (image_with 0 0)) ∷ []; wanted = 31 ∷ [] })
    ∷ on_numbers (record { given = upd546.image_number (image_two_with 0 ++ (0 ∷ [])) ∷ []; wanted = 31 ∷ [] })
    -- "33 a version that doesn't go with the length": version 1 with 82 bytes, version 2 with 81
    ∷ on_numbers (record { given = upd546.image_number (image_with 0 0 ++ (0 ∷ [])) ∷ []; wanted = 33 ∷ [] })
    ∷ on_numbers (record { given = upd546.image_number (take 81 (image_two_with 0)) ∷ []; wanted = 33 ∷ [] })
    -- and 32 before it
    ∷ on_numbers (record { given = upd546.image_number (0 ∷ drop 1 (take 81 (image_two_with 0))) ∷ []; wanted = 32 ∷ [] })
    -- "54, in a save between 34 and 1, a version 1 image wanted while the count isn't 0"; version 2 takes it
    ∷ on_numbers (record { given = save_number upd546 One (with_count 1 fresh) (replicate 82 0) ∷ []; wanted = 54 ∷ [] })
    ∷ on_numbers (record { given = save_number upd546 One (with_count 1 fresh) [] ∷ []; wanted = 54 ∷ [] })
    ∷ on_numbers (record { given = save_number upd546 One (with_count 5 fresh) [] ∷ []; wanted = 34 ∷ [] })
    ∷ on_numbers (record { given = save_number upd546 Two (with_count 1 fresh) (replicate 82 0) ∷ []; wanted = 0 ∷ [] })
    -- "1 a buffer under the version's length": 81 bytes hold version 1, and not version 2
    ∷ on_numbers (record { given = save_number upd546 One fresh (replicate 81 0) ∷ []; wanted = 0 ∷ [] })
    ∷ on_numbers (record { given = save_number upd546 One fresh (replicate 80 0) ∷ []; wanted = 1 ∷ [] })
    ∷ on_numbers (record { given = save_number upd546 Two fresh (replicate 82 0) ∷ []; wanted = 0 ∷ [] })
    ∷ on_numbers (record { given = save_number upd546 Two fresh (replicate 81 0) ∷ []; wanted = 1 ∷ [] })
    ∷ []

-- R-11, "The smaller relatives." A sheet of ROM bytes, rows and levels; a ROM of so many bytes.
abbrev pub sheet_of : (rom rows levels : ℕ) → Sheet
sheet_of rom rows levels = record { rom = rom; rows = rows; levels = levels }

abbrev pub rom_of : (size a : ℕ) → List ℕ → List ℕ
rom_of size a bytes = take size (rom_at a bytes)

-- 1,000 bytes, rows 0 and 1, two levels; and the least that is legal
abbrev pub smaller : Sheet
smaller = sheet_of 1000 3 2

abbrev pub least : Sheet
least = sheet_of 1 0 1

-- the fresh state with this stack, newest first
abbrev pub stacked : List ℕ → State
stacked stack = from (λ c. with_flow c (record { pc = 0; stack = stack }))

-- "Errors: 71 .. a sheet outside these limits", judged at full width
abbrev pub sheet_cases : List Bool
sheet_cases =
    on_numbers (record { given = sheet_number (sheet_of 2000 31 3) ∷ sheet_number smaller ∷ sheet_number least ∷ []; wanted = 0 ∷ 0 ∷ 0 ∷ [] })
    -- "ROM bytes (1 to 2,000)"
    ∷ on_numbers (record { given = sheet_number (sheet_of 0 31 3) ∷ sheet_number (sheet_of 2001 31 3) ∷ []; wanted = 71 ∷ 71 ∷ [] })
    -- "(bit i for row i, at most 31 ..)"
    ∷ on_numbers (record { given = sheet_number (sheet_of 2000 32 3) ∷ sheet_number (sheet_of 2000 256 3) ∷ []; wanted = 71 ∷ 71 ∷ [] })
    -- "stack levels (1 to 3)"
    ∷ on_numbers (record {
      given = sheet_number (sheet_of 2000 31 0) ∷ sheet_number (sheet_of 2000 31 4) ∷ sheet_number (sheet_of 2000 31 257) ∷ [];
      wanted = 71 ∷ 71 ∷ 71 ∷ [];
    })
    ∷ on_numbers (record {
      given =
          sheet_number (sheet_of 18446744073709551615 31 3) ∷ sheet_number (sheet_of 2000 18446744073709551615 3)
          ∷ sheet_number (sheet_of 2000 31 18446744073709551615) ∷ [];
      wanted = 71 ∷ 71 ∷ 71 ∷ [];
    })
    -- "71, before all else": of a run with no ROM, a schedule of one byte, a mark of 5 and n above the limit, which answers the state given
    ∷ on_runner (record {
      run = plain (chip (sheet_of 2001 31 3)) [] (0 ∷ []) (from (set_mark 5)) (7 ∷ []) 281474976710656;
      answers = number_is 71 ∷ cycles_are 0 ∷ begun_are 0 ∷ steps_are 0 ∷ written_are 0 ∷ log_is (7 ∷ []) ∷ [];
      shows = mark_is 5 ∷ [];
    })
    ∷ on_runner (record {
      run = skipping (chip (sheet_of 2000 32 3)) [] (0 ∷ []) (from (set_mark 5)) [] 281474976710656;
      answers = number_is 71 ∷ cycles_are 0 ∷ [];
      shows = mark_is 5 ∷ [];
    })
    -- of a save, before 34, 54 and 1; of a restore, before 31, which answers the fresh state; where version 2 is due, before 31
    ∷ on_numbers (record { given = save_number (chip (sheet_of 2000 31 4)) One (with_count 5 fresh) [] ∷ []; wanted = 71 ∷ [] })
    ∷ on_numbers (record {
      given = restore_number (chip (sheet_of 0 31 3)) [] ∷ current_number (chip (sheet_of 0 31 3)) [] ∷ restore_number (chip smaller) [] ∷ [];
      wanted = 71 ∷ 71 ∷ 31 ∷ [];
    })
    ∷ on_state (record { given = (restore_answer (chip (sheet_of 0 31 3)) (image_with 4 0)).state; wanted = zeros_with 0 0 })
    ∷ []

-- "7CF and 2,000 read as the sheet's last address and length"
abbrev pub sheet_rom_cases : List Bool
sheet_rom_cases =
    -- "21": of another length, longer too
    on_numbers (record {
      given = run_number (chip smaller) (rom_of 1000 0 []) [] fresh 1 ∷ run_number (chip smaller) (rom_of 999 0 []) [] fresh 1 ∷ [];
      wanted = 0 ∷ 21 ∷ [];
    })
    ∷ on_numbers (record {
      given = run_number (chip smaller) (rom_of 1001 0 []) [] fresh 1 ∷ run_number (chip smaller) (rom_at 0 []) [] fresh 1 ∷ [];
      wanted = 21 ∷ 21 ∷ [];
    })
    -- NOP at 3E7, the last address: it is begun, and 22 is at 3E8
    ∷ on_runner (record {
      run = plain (chip smaller) (rom_of 1000 0 []) [] (from (set_pc 0x3E7)) [] 2;
      answers = number_is 22 ∷ cycles_are 1 ∷ [];
      shows = pc_is 0x3E8 ∷ [];
    })
    -- 22 for a second byte, here LDI's, and for a byte that is skipped, here TC's with C=1
    ∷ on_runner (record {
      run = plain (chip smaller) (rom_of 1000 0x3E7 (0x15 ∷ [])) [] (from (set_pc 0x3E7)) [] 1;
      answers = number_is 22 ∷ cycles_are 0 ∷ [];
      shows = [];
    })
    ∷ on_runner (record {
      run = plain (chip smaller) (rom_of 1000 0x3E7 (0x04 ∷ [])) [] (from (λ c. set_pc 0x3E7 (set_carry 1 c))) [] 1;
      answers = number_is 22 ∷ cycles_are 0 ∷ [];
      shows = [];
    })
    -- "Only the low 8 bits count up", whatever the length: of 256 bytes, 0FF is followed by 000; of 64, 03F by 040, which isn't there
    ∷ on_runner (record {
      run = plain (chip (sheet_of 256 31 3)) (rom_of 256 0 []) [] (from (set_pc 0x0FF)) [] 2;
      answers = number_is 0 ∷ [];
      shows = pc_is 0x001 ∷ [];
    })
    ∷ on_runner (record {
      run = plain (chip (sheet_of 64 31 3)) (rom_of 64 0 []) [] (from (set_pc 0x03F)) [] 2;
      answers = number_is 22 ∷ cycles_are 1 ∷ [];
      shows = pc_is 0x040 ∷ [];
    })
    -- PC and stack words above the last address aren't absent: they are taken, and 22 is at the fetch; RT leads to 7FF and then 22
    ∷ on_runner (record {
      run = plain (chip least) (0x48 ∷ []) [] (stacked (0x7FF ∷ 0 ∷ 0 ∷ [])) [] 3;
      answers = number_is 22 ∷ cycles_are 2 ∷ [];
      shows = pc_is 0x7FF ∷ stack_is (0x7FF ∷ 0 ∷ 0 ∷ []) ∷ [];
    })
    -- 03C may be absent: an acceptance leads to 22 there, and so does CZP 15
    ∷ on_runner (record {
      run = plain (chip (sheet_of 60 31 3)) (rom_of 60 0 []) [] (from (λ c. set_int 1 (set_inte 1 c))) [] 2;
      answers = number_is 22 ∷ cycles_are 1 ∷ begun_are 0 ∷ [];
      shows = pc_is 0x03C ∷ int_is 0 ∷ inte_is 0 ∷ [];
    })
    ∷ on_runner (record {
      run = plain (chip (sheet_of 60 31 3)) (rom_of 60 0 (0xBF ∷ [])) [] fresh [] 2;
      answers = number_is 22 ∷ cycles_are 1 ∷ begun_are 1 ∷ [];
      shows = pc_is 0x03C ∷ stack_is (1 ∷ 0 ∷ 0 ∷ []) ∷ [];
    })
    -- TTM and JCP back to it: one step where JCP stands at the last address; none where the ROM ends with TTM
    ∷ on_runner (record {
      run = skipping (chip (sheet_of 2 31 3)) (0x05 ∷ 0xC0 ∷ []) [] waiting [] 40;
      answers = number_is 0 ∷ cycles_are 40 ∷ begun_are 40 ∷ steps_are 1 ∷ [];
      shows = pc_is 0 ∷ [];
    })
    ∷ on_runner (record {
      run = skipping (chip (sheet_of 1 31 3)) (0x05 ∷ []) [] waiting [] 40;
      answers = number_is 22 ∷ cycles_are 1 ∷ steps_are 1 ∷ [];
      shows = pc_is 1 ∷ [];
    })
    ∷ []

-- "stack levels (1 to 3)"
abbrev pub level_cases : List Bool
level_cases =
    -- "A push shifts down and loses the oldest": of two levels the third call, and of one the second. Calls at 000, 004 and 008
    on_runner (record {
      run = plain (chip smaller) (rom_of 1000 0 (0xB1 ∷ 0 ∷ 0 ∷ 0 ∷ 0xB2 ∷ 0 ∷ 0 ∷ 0 ∷ 0xB3 ∷ [])) [] fresh [] 3;
      answers = number_is 0 ∷ [];
      shows = stack_is (0x009 ∷ 0x005 ∷ 0 ∷ []) ∷ [];
    })
    ∷ on_runner (record {
      run = plain (chip (sheet_of 12 0 1)) (rom_of 12 0 (0xB1 ∷ 0 ∷ 0 ∷ 0 ∷ 0xB2 ∷ [])) [] fresh [] 2;
      answers = number_is 0 ∷ [];
      shows = stack_is (0x005 ∷ 0 ∷ 0 ∷ []) ∷ [];
    })
    -- "a pop shifts up and the lowest keeps its value": RT with two levels, and with one, where the word stays
    ∷ on_runner (record {
      run = plain (chip smaller) (rom_of 1000 0 (0x48 ∷ [])) [] (stacked (0x010 ∷ 0x020 ∷ 0 ∷ [])) [] 2;
      answers = number_is 0 ∷ [];
      shows = pc_is 0x010 ∷ stack_is (0x020 ∷ 0x020 ∷ 0 ∷ []) ∷ [];
    })
    ∷ on_runner (record {
      run = plain (chip (sheet_of 32 0 1)) (rom_of 32 0 (0x48 ∷ [])) [] (stacked (0x010 ∷ 0 ∷ 0 ∷ [])) [] 2;
      answers = number_is 0 ∷ [];
      shows = pc_is 0x010 ∷ stack_is (0x010 ∷ 0 ∷ 0 ∷ []) ∷ [];
    })
    -- an acceptance pushes by the same rule
    ∷ on_runner (record {
      run =
          plain (chip smaller) (rom_of 1000 0 []) []
          (with_core fresh (set_pc 0x123 (set_int 1 (set_inte 1 (stacked (1 ∷ 2 ∷ 0 ∷ [])).core)))) [] 1;
      answers = number_is 0 ∷ [];
      shows = pc_is 0x03C ∷ stack_is (0x123 ∷ 1 ∷ 0 ∷ []) ∷ [];
    })
    ∷ []

-- "absent rows behave like 5 and 6"
abbrev pub row_cases : List Bool
row_cases =
    -- "bit i for row i": LDI, LI 5 and S into row 4, which rows 16 have and rows 15 don't, and into row 0, which rows 1 have
    on_runner (record {
      run = plain (chip (sheet_of 8 16 1)) (rom_of 8 0 (0x15 ∷ 0x43 ∷ 0x95 ∷ 0x02 ∷ [])) [] fresh [] 4;
      answers = number_is 0 ∷ [];
      shows = ram_is (ram_with 67 5) ∷ [];
    })
    ∷ on_runner (record {
      run = plain (chip (sheet_of 8 15 1)) (rom_of 8 0 (0x15 ∷ 0x43 ∷ 0x95 ∷ 0x02 ∷ 0x38 ∷ [])) [] fresh [] 5;
      answers = number_is 0 ∷ [];
      shows = acc_is 0 ∷ ram_is (replicate 96 0) ∷ [];
    })
    ∷ on_runner (record {
      run = plain (chip (sheet_of 8 1 1)) (rom_of 8 0 (0x95 ∷ 0x02 ∷ [])) [] fresh [] 2;
      answers = number_is 0 ∷ [];
      shows = ram_is (ram_with 0 5) ∷ [];
    })
    -- "a skip looks at the computed value": in row 0, which isn't there, INM doesn't skip and DEM does, and neither stores
    ∷ on_runner (record {
      run = plain (chip (sheet_of 8 30 3)) (rom_of 8 0 (0x1D ∷ [])) [] fresh [] 1;
      answers = number_is 0 ∷ [];
      shows = pc_is 1 ∷ ram_is (replicate 96 0) ∷ [];
    })
    ∷ on_runner (record {
      run = plain (chip (sheet_of 8 30 3)) (rom_of 8 0 (0x1F ∷ [])) [] fresh [] 1;
      answers = number_is 0 ∷ [];
      shows = pc_is 2 ∷ ram_is (replicate 96 0) ∷ [];
    })
    -- "row 7 always": the flag word and X with no other row, SFB 3, and THX with DPH 5
    ∷ on_runner (record {
      run = plain (chip (sheet_of 8 0 3)) (rom_of 8 0 (0x7F ∷ [])) [] fresh [] 2;
      answers = number_is 0 ∷ [];
      shows = ram_is (ram_with 89 8) ∷ [];
    })
    ∷ on_runner (record {
      run = plain (chip (sheet_of 8 0 3)) (rom_of 8 0 (0x47 ∷ [])) [] (from (set_dph 5)) [] 2;
      answers = number_is 0 ∷ [];
      shows = ram_is (ram_with 95 5) ∷ [];
    })
    ∷ []

-- "An image, and a state given as a value, holds zeros for what is absent, else 34."
abbrev pub absent_cases : List Bool
absent_cases =
    -- a word in row 2, which rows 3 lack: its last, and the last of row 1; in row 7
    on_numbers (record {
      given = (chip smaller).state_number (from_word (set_acc 0) 47 1) ∷ (chip smaller).state_number (from_word (set_acc 0) 31 1) ∷ [];
      wanted = 34 ∷ 0 ∷ [];
    })
    ∷ on_numbers (record {
      given = (chip smaller).state_number (from_word (set_acc 0) 79 15) ∷ (chip smaller).state_number (from_word (set_acc 0) 80 15) ∷ [];
      wanted = 34 ∷ 0 ∷ [];
    })
    -- the third word of a stack of two levels, and the second of one
    ∷ on_numbers (record {
      given =
          (chip smaller).state_number (stacked (1 ∷ 2 ∷ 1 ∷ [])) ∷ (chip smaller).state_number (stacked (1 ∷ 2 ∷ 0 ∷ []))
          ∷ (chip least).state_number (stacked (1 ∷ 1 ∷ 0 ∷ [])) ∷ [];
      wanted = 34 ∷ 0 ∷ 34 ∷ [];
    })
    -- of an image too, and in a run and a save; a state of one sheet may be 34 under another
    ∷ on_numbers (record {
      given =
          (chip smaller).image_number (image_of Two (from_word (set_acc 0) 47 1))
          ∷ upd546.image_number (image_of Two (from_word (set_acc 0) 47 1))
          ∷ (chip smaller).image_number (image_of One (stacked (1 ∷ 2 ∷ 1 ∷ [])))
          ∷ upd546.image_number (image_of One (stacked (1 ∷ 2 ∷ 1 ∷ [])))
          ∷ [];
      wanted = 34 ∷ 0 ∷ 34 ∷ 0 ∷ [];
    })
    ∷ on_numbers (record {
      given =
          run_number (chip smaller) (rom_of 1000 0 []) [] (from_word (set_acc 0) 47 1) 1
          ∷ save_number (chip smaller) Two (from_word (set_acc 0) 47 1) (replicate 82 0) ∷ [];
      wanted = 34 ∷ 34 ∷ [];
    })
    -- the fresh state is legal under every sheet
    ∷ on_numbers (record { given = (chip least).state_number fresh ∷ (chip smaller).state_number fresh ∷ []; wanted = 0 ∷ 0 ∷ [] })
    ∷ []

-- THE TABLE. Its theorem is `cases_hold`.
abbrev pub cases : List Bool
cases =
    p_cases ++ other_cases ++ jump_cases ++ read_back_cases ++ load_cases ++ edge_cases ++ mark_cases ++ count_cases ++ reset_cases
    ++ reset_record_cases ++ reset_jump_cases ++ version_cases ++ sheet_cases ++ sheet_rom_cases ++ level_cases ++ row_cases ++ absent_cases
