-- The theorems about the machine cycle a second time, for every argument, with the documents' figures in place of names: one that
-- holds of fewer arguments, assumes more or says less doesn't give its line. Assumes nothing: these are definitions.
use Rattle.std.specs.Prelude.{ℕ, suc, ◌+◌, ◌*◌, min, max, ◌<◌, ◌≤◌, ◌≡◌, true, false, List, [], ◌∷◌, ◌++◌, length, get_or, drop}
use Rattle.std.proofs.Math.Option.{none}
use Rattle.runs.specs.Machine.{went}
use Rattle.runs.specs.TwoRunners.{Ran, unbroken, within}
use Rattle.runs.specs.Laws.{Bytes}
use Rattle.runs.specs.Lists.{Each}
use Rattle.upd546.specs.declared.Core.{Core}
use Rattle.upd546.specs.declared.Lines.{Lines}
use Rattle.upd546.specs.declared.State.{State}
use Rattle.upd546.specs.declared.Sheet.{Sheet}
use Rattle.upd546.specs.declared.Timer.{Timer}
use Rattle.upd546.specs.Bytes.{bit_at, bytes_of}
use Rattle.upd546.specs.TheSheet.{sheet_number}
use Rattle.upd546.specs.TheMachine.{stored_rows, past, fresh}
use Rattle.upd546.specs.Parts.{set_inte}
use Rattle.upd546.specs.TheLineSchedule.{schedule_number, lines_at, no_record}
use Rattle.upd546.specs.Timer.{tick, register_after, position_of, ticks_left}
use Rattle.upd546.specs.Ports.{latch_of, read_port}
use Rattle.upd546.specs.Instructions as codes
use Rattle.upd546.specs.Instructions.{instruction}
use Rattle.upd546.specs.OneMachineCycle.{accepts, cycle}
use Rattle.upd546.specs.StateImage.{rows_zero, absent_zero, state_number}
use Rattle.upd546.specs.BenchCases.{rom_at, from, record_at}
use Rattle.upd546.specs.TwoRunners.{chip, upd546, jump_length}
use Rattle.laws.specs.Timer.{timer_left}
use Rattle.laws.specs.Jump.{state_after_jump}
use Rattle.laws.specs.Valid.{Valid}
use Rattle.laws.specs.Reset.{no_reset}
use Rattle.claims.specs.Strings.{Stand, FallsIn}
use Rattle.claims.specs.Interval.{StmDue, without_stm}
use Rattle.witness.specs.Calls as calls

-- R-2, `CAndDReadBack`: a bit of C or D is the greater of line and latch
pub record OfEveryPort (l : Lines) (ports : List ℕ) : Type 0 where
  pub a : read_port l ports 0 ≡ l.a
  pub b : read_port l ports 1 ≡ l.b
  pub c : (k : ℕ) → bit_at (read_port l ports 2) k ≡ max (bit_at l.c k) (bit_at (latch_of ports 2) k)
  pub d : (k : ℕ) → bit_at (read_port l ports 3) k ≡ max (bit_at l.d k) (bit_at (latch_of ports 3) k)
  pub others : (p : ℕ) → 4 ≤ p → read_port l ports p ≡ 0

-- R-5, `MarksHoldBack`: mark LDI, EI or LI
pub record OfEveryMark (c : Core) : Type 0 where
  pub ldi : c.mark ≡ 1 → accepts c ≡ false
  pub ei : c.mark ≡ 2 → accepts c ≡ false
  pub li : c.mark ≡ 4 → accepts c ≡ false

-- what n cycles from s come to that begin k loads and pass them over, with PC at `to`: timer, INT, the level, the count and the cycle
-- number are those of t, and all else is as it was
abbrev pub passed_loads : (k n to : ℕ) → (s t : State) → Ran State
passed_loads k n to s t = record {
  state = record {
    core = record {
      registers = s.core.registers;
      flow = record { pc = to; stack = s.core.flow.stack };
      interrupt = record { int = t.core.interrupt.int; inte = s.core.interrupt.inte; level = t.core.interrupt.level };
      timer = t.core.timer;
      mark = s.core.mark;
      owed = 0;
    };
    ports = s.ports;
    ram = s.ram;
    count = t.count;
    cycle = t.cycle;
  };
  bytes = [];
  cycles = n;
  begun = k;
  number = none;
}

-- R-5, `LoadStringsHoldTogether`: of a run r, all but these five, and an INT that is set
pub record OfEveryString (k n to : ℕ) (s : State) (r : Ran State) : Type 0 where
  pub whole : r ≡ passed_loads k n to s r.state
  pub int : s.core.interrupt.int ≡ 1 → r.state.core.interrupt.int ≡ 1

-- R-5, `LoadStringsKeepFalls`: INT at the boundary behind the string, in n cycles from s, and where the run goes on from there: the
-- next cycle, from t to u, begins an instruction that isn't TIT, with INTE 1 and none of the marks LDI, EI and LI behind it, and no
-- cycle from t up to the acceptance is a reset cycle
pub record OfEveryFall (sheet : Sheet) (rom sched : List ℕ) (n to : ℕ) (s : State) : Type 0 where
  pub number : (unbroken (chip sheet) rom sched n s).number ≡ none
  pub cycles : (unbroken (chip sheet) rom sched n s).cycles ≡ n
  pub pc : (unbroken (chip sheet) rom sched n s).state.core.flow.pc ≡ to
  pub int : (unbroken (chip sheet) rom sched n s).state.core.interrupt.int ≡ 1
  pub inte : (unbroken (chip sheet) rom sched n s).state.core.interrupt.inte ≡ s.core.interrupt.inte
  pub held : accepts (unbroken (chip sheet) rom sched n s).state.core ≡ false
  pub accepted : (t u : State) (r : Ran State) → t ≡ (unbroken (chip sheet) rom sched n s).state
      → u ≡ (unbroken (chip sheet) rom sched (n + 1) s).state
      → r ≡ unbroken (chip sheet) rom sched (n + 1 + u.core.owed + 1) s
      → no_reset sched (1 + u.core.owed + 1) t.cycle.0 t.count ≡ true
      → (unbroken (chip sheet) rom sched (n + 1) s).number ≡ none
      → (instruction (get_or rom to 0) ≡ codes.tit → ⊥) → u.core.interrupt.inte ≡ 1
      → (u.core.mark ≡ 1 → ⊥) → (u.core.mark ≡ 2 → ⊥) → (u.core.mark ≡ 4 → ⊥)
      → (r.number ≡ none) × (r.state.core.flow.pc ≡ 0x03C) × (get_or r.state.core.flow.stack 0 0 ≡ u.core.flow.pc)
      × (r.state.core.interrupt.inte ≡ 0)

-- "TM is set 63(I + 1) cycles after STM's end.": `TmIsSetAfterStm`
pub record OfEveryStm (i k : ℕ) (r : Ran State) : Type 0 where
  pub cycles : r.cycles ≡ 2 + k
  pub before : k < 63 * (i + 1) → r.state.core.timer.tm ≡ 0
  pub from : 63 * (i + 1) ≤ k → r.state.core.timer.tm ≡ 1

-- R-8, `EveryCycleCountsRes`: of a cycle from s to t that appends w and begins b instructions, where RES is 0 or not

-- what a reset cycle leaves of s, with the INT level of the lines: "PC, owed, INT, INTE, TM, timer and ports become 0 and the mark
-- other; RAM, Acc, DP, carries and stack are kept"
abbrev pub after_reset : (level : ℕ) → State → State
after_reset level s = record {
  core = record {
    registers = s.core.registers;
    flow = record { pc = 0; stack = s.core.flow.stack };
    interrupt = record { int = 0; inte = 0; level = level };
    timer = record { tm = 0; register = 0; counter = 0 };
    mark = 0;
    owed = 0;
  };
  ports = 0 ∷ 0 ∷ 0 ∷ 0 ∷ 0 ∷ 0 ∷ 0 ∷ [];
  ram = s.ram;
  count = 4;
  cycle = record { 0 = s.cycle.0 + 1 };
}

pub record OfEveryReset (l : Lines) (s t : State) (w : List ℕ) (b : ℕ) : Type 0 where
  pub state : t ≡ after_reset l.int s
  pub begins_none : b ≡ 0
  pub reaching : (s.count ≡ 4 → ⊥) → w ≡ bytes_of 6 s.cycle.0 ++ (0 ∷ 0 ∷ [])
  pub staying : s.count ≡ 4 → w ≡ []

pub record OfEveryCount (l : Lines) (s t : State) (w : List ℕ) (b : ℕ) : Type 0 where
  pub rises : t.cycle.0 ≡ s.cycle.0 + 1
  pub low : l.res ≡ 0 → t.count ≡ 0
  pub high : l.res ≡ 1 → t.count ≡ min 4 (s.count + 1)
  pub reset : t.count ≡ 4 → OfEveryReset l s t w b

-- the fields of a state, each with what it is below
abbrev pub fields : State → List (ℕ × ℕ)
fields s =
    (s.core.registers.acc, 16)
    ∷ (s.core.registers.carry, 2)
    ∷ (s.core.registers.saved, 2)
    ∷ (s.core.registers.dph, 8)
    ∷ (s.core.registers.dpl, 16)
    ∷ (s.core.flow.pc, 2048)
    ∷ (s.core.interrupt.int, 2)
    ∷ (s.core.interrupt.inte, 2)
    ∷ (s.core.interrupt.level, 2)
    ∷ (s.core.timer.tm, 2)
    ∷ (s.core.timer.register, 64)
    ∷ (s.core.timer.counter, 64)
    ∷ (s.core.mark, 5)
    ∷ (s.core.owed, 4)
    ∷ (get_or s.ports 6 0, 8)
    ∷ (s.count, 5)
    ∷ (s.cycle.0, 281474976710656)
    ∷ []

-- `Valid`: every field keeps its width
pub record Widths (s : State) : Type 0 where
  pub numbers : Each (λ w. w.0 < w.1) (fields s)
  pub stopped : s.core.timer.counter ≤ 63 * s.core.timer.register
  pub stack : (length s.core.flow.stack ≡ 3) × ((i : ℕ) → get_or s.core.flow.stack i 0 < 2048)
  pub latches : (length s.ports ≡ 7) × ((i : ℕ) → get_or s.ports i 0 < 16)
  pub ram : (length s.ram ≡ 96) × ((i : ℕ) → get_or s.ram i 0 < 16)

-- a jump of j cycles: the state, no log, j cycles, j instructions
abbrev pub jumped : ℕ → State → Ran State
jumped j s = record { state = state_after_jump j s; bytes = []; cycles = j; begun = j; number = none }

pub record CycleFacts (sheet : Sheet) : Type 0 where
  pub ports : (l : Lines) (latches : List ℕ) → OfEveryPort l latches
  pub marks : (c : Core) → OfEveryMark c
  pub li : (rom sched : List ℕ) (k : ℕ) (s : State) → s.core.owed ≡ 0 → s.core.mark ≡ 4 → Stand sheet rom codes.li k s.core.flow.pc
      → no_reset sched (1 * k) s.cycle.0 s.count ≡ true
      → OfEveryString k (1 * k) (past (1 * k) s.core.flow.pc) s (unbroken (chip sheet) rom sched (1 * k) s)
  pub ldi : (rom sched : List ℕ) (k : ℕ) (s : State) → s.core.owed ≡ 0 → s.core.mark ≡ 1
      → Stand sheet rom codes.ldi k s.core.flow.pc
      → no_reset sched (2 * k) s.cycle.0 s.count ≡ true
      → OfEveryString k (2 * k) (past (2 * k) s.core.flow.pc) s (unbroken (chip sheet) rom sched (2 * k) s)
  pub li_falls : (rom sched : List ℕ) (k m : ℕ) (s : State) → sheet_number sheet ≡ 0 → s.core.owed ≡ 0 → s.core.interrupt.int ≡ 0
      → Stand sheet rom codes.li k s.core.flow.pc → m < 1 * k → FallsIn sched s m
      → no_reset sched (1 * k) s.cycle.0 s.count ≡ true
      → OfEveryFall sheet rom sched (1 * k) (past (1 * k) s.core.flow.pc) s
  pub ldi_falls : (rom sched : List ℕ) (k m : ℕ) (s : State) → sheet_number sheet ≡ 0 → s.core.owed ≡ 0 → s.core.interrupt.int ≡ 0
      → Stand sheet rom codes.ldi k s.core.flow.pc → m < 2 * k → FallsIn sched s m
      → no_reset sched (2 * k) s.cycle.0 s.count ≡ true
      → OfEveryFall sheet rom sched (2 * k) (past (2 * k) s.core.flow.pc) s
  pub tm : (rom sched : List ℕ) (s : State) (i k : ℕ) → StmDue sheet rom sched s i
      → without_stm sheet rom sched k (unbroken (chip sheet) rom sched 2 s).state ≡ true
      → OfEveryStm i k (unbroken (chip sheet) rom sched (2 + k) s)
  -- `accepted-valid`, `valid_accepted`, `cycle_keeps`, `begins_one`
  pub accepted : (s : State) → state_number sheet s ≡ 0 → Widths s
  pub valid : (s : State) → Valid s → absent_zero sheet s ≡ true → state_number sheet s ≡ 0
  pub keeps : sheet.levels ≤ 3 → (rom sched : List ℕ) (s t : State) (w : List ℕ) (b : ℕ) → Bytes rom → Bytes sched
      → schedule_number sched ≡ 0 → Valid s
      → s.cycle.0 < 281474976710655 → cycle sheet rom sched s ≡ went t w b
      → Valid t × (t.cycle.0 ≡ suc s.cycle.0) × (length w ≤ 16)
      × (drop sheet.levels t.core.flow.stack ≡ drop sheet.levels s.core.flow.stack)
      × (rows_zero sheet stored_rows s.ram ≡ true → rows_zero sheet stored_rows t.ram ≡ true)
  pub begins_one : (rom sched : List ℕ) (s t : State) (w : List ℕ) (b : ℕ) → cycle sheet rom sched s ≡ went t w b → b ≤ 1
  -- `EveryCycleCountsRes`, `EveryRunCountsRes`
  pub counts : (rom sched : List ℕ) (s t : State) (w : List ℕ) (b : ℕ) → cycle sheet rom sched s ≡ went t w b
      → OfEveryCount (lines_at sched s.cycle.0) s t w b
  pub runs_count : (rom sched : List ℕ) (k : ℕ) (s : State) → s.count ≤ 4 → (unbroken (chip sheet) rom sched k s).cycles ≡ k
      → ((i : ℕ) → i < k → (lines_at sched (s.cycle.0 + i)).res ≡ 1)
      → (unbroken (chip sheet) rom sched k s).state.count ≡ min 4 (s.count + k)
  -- `lines_same`
  pub lines : (sched : List ℕ) (n m : ℕ) → n ≤ m → no_record sched (n + 1) (m + 1) ≡ true → lines_at sched m ≡ lines_at sched n
  -- `register_at`, `position_at`, `tick_left`, `running_left`
  pub register_at : (r : ℕ) → 0 < r → r < 64 → register_after (position_of r) ≡ r
  pub position_at : (p : ℕ) → p < 63 → position_of (register_after p) ≡ p
  pub tick_left : (tm k : ℕ) → tick (timer_left tm (suc k)) ≡ timer_left tm k
  pub running_left : (t : Timer) → 0 < t.register → t.register < 64 → t ≡ timer_left t.tm (ticks_left t)
  -- `jump_unbroken`, `jump_in_room`
  pub jump_unbroken : (rom sched : List ℕ) (s : State) (left j : ℕ) → jump_length sheet rom sched s left ≡ j → (j ≡ 0 → ⊥) → Valid s
      → unbroken (chip sheet) rom sched j s ≡ jumped j s
  pub jump_in_room : (rom sched : List ℕ) (s : State) (left j : ℕ) → jump_length sheet rom sched s left ≡ j → (j ≡ 0 → ⊥) → Valid s
      → (room : ℕ)
      → within (chip sheet) rom sched room j s ≡ jumped j s

-- IN FIGURES: the premises of six of them, as they are met

-- LI 9, LI 2, LI 5, and from 003 on LDI 45, LDI 67
abbrev pub loads : List ℕ
loads = rom_at 0 (0x99 ∷ 0x92 ∷ 0x95 ∷ 0x15 ∷ 0x45 ∷ 0x15 ∷ 0x67 ∷ [])

-- LI 5, LI 9 and NOPs, with INTE 1; INT falls between the two, in cycle 1, and RES is high from there on: in cycle 3, that of the
-- acceptance, the count becomes 3
abbrev pub edge : List ℕ
edge = rom_at 0 (0x95 ∷ 0x99 ∷ [])

abbrev pub edge_lines : List ℕ
edge_lines = record_at 1 0 1

abbrev pub edge_after : ℕ → State
edge_after n = (unbroken upd546 edge edge_lines n (from (set_inte 1))).state

-- STM 80, and a JCP to itself
abbrev pub waits : List ℕ
waits = rom_at 0 (0x14 ∷ 0x80 ∷ 0xC2 ∷ [])

-- so many cycles of a ROM from the fresh state
abbrev pub after : List ℕ → ℕ → State
after rom n = (unbroken upd546 rom [] n fresh).state

-- the panel of the list of calls before cycle k, and n cycles of it from there: RES is high from cycle 1 to cycle 5
abbrev pub panel_at : ℕ → State
panel_at k = (unbroken upd546 calls.rom calls.sched k fresh).state

abbrev pub panel_from : (k n : ℕ) → Ran State
panel_from k n = unbroken upd546 calls.rom calls.sched n (panel_at k)

pub record CycleFigures : Type 0 where
  -- behind LI 9 two more; behind LDI 45 one more, of two cycles
  pub li_9 : (unbroken upd546 loads [] 2 (after loads 1)).state.core.registers.acc ≡ 9
  pub ldi_45 : (unbroken upd546 loads [] 2 (after loads 5)).state.core.registers.dpl ≡ 5
  pub ldi_begun : (unbroken upd546 loads [] 2 (after loads 5)).begun ≡ 1
  -- kept behind LI 9, and accepted behind the NOP at 002
  pub edge_kept : (edge_after 2).core.interrupt.int ≡ 1
  pub edge_accepted : (edge_after 4).core.flow.pc ≡ 0x03C
  pub edge_return : get_or (edge_after 4).core.flow.stack 0 0 ≡ 3
  -- the count is 3 before the reset, 4 after it and while it is held
  pub count_3 : (panel_from 1 3).state.count ≡ 3
  pub count_4 : (panel_from 1 5).state.count ≡ 4
  -- cycle 4, the second of OE, is the first reset cycle: its record, nothing begun, latch E 0 and Acc still 3; cycle 5 appends nothing
  pub reset_record : (panel_from 4 1).bytes ≡ 0 ∷ 0 ∷ 0 ∷ 0 ∷ 0 ∷ 4 ∷ 0 ∷ 0 ∷ []
  pub reset_begun : (panel_from 4 1).begun ≡ 0
  pub reset_latch : get_or (panel_from 4 1).state.ports 2 0 ≡ 0
  pub reset_acc : (panel_from 4 1).state.core.registers.acc ≡ 3
  pub held_bytes : (panel_from 5 1).bytes ≡ []
  -- I = 0
  pub tm_before : (after waits 64).core.timer.tm ≡ 0
  pub tm_from : (after waits 65).core.timer.tm ≡ 1
