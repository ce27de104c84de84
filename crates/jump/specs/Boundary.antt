-- What a runner has at a boundary, and what a jump's length and its core say of the runner's state. Assumes nothing: these are
-- definitions.
use Rattle.std.specs.Prelude.{◌≡◌, Bool, true, false, List, ℕ, ◌+◌, ◌<◌, ◌≤◌, length}
use Rattle.upd546.specs.declared.Core.{Core}
use Rattle.upd546.specs.declared.Interrupt.{Interrupt}
use Rattle.upd546.specs.declared.Timer.{Timer}
use Rattle.upd546.specs.declared.State.{State}
use Rattle.upd546.specs.declared.Sheet.{Sheet}
use Rattle.upd546.specs.TheMachine.{rom_length}
use Rattle.upd546.specs.TheLineSchedule.{lines_at, no_record}
use Rattle.upd546.specs.Timer.{ticks_left}
use Rattle.upd546.specs.TwoRunners.{wait_length}
use Rattle.tables.specs.Tables.{position_table, register_table}

-- what a jump's length asks
pub record Boundary (rom positions : List ℕ) (timer : Timer) : Type 0 where
  pub rom_length_is : length rom ≤ rom_length
  pub table : positions ≡ position_table
  pub register : timer.register < 64

-- what a jump's length takes from a state, besides the ROM: registers, stack, mark, RAM and latches don't matter
pub record Shows (s : State) (pc owed : ℕ) (interrupt : Interrupt) (timer : Timer) : Type 0 where
  pub pc_is : s.core.flow.pc ≡ pc
  pub owed_is : s.core.owed ≡ owed
  pub interrupt_is : s.core.interrupt ≡ interrupt
  pub timer_is : s.core.timer ≡ timer

-- and from the schedule: the INT line at cycle n, and that no record comes before `left` cycles are over
pub record Steady (sched : List ℕ) (n level left : ℕ) : Type 0 where
  pub level_is : (lines_at sched n).int ≡ level
  pub no_record_is : no_record sched (n + 1) (n + left) ≡ true

-- the cycles that the next step jumps by document 01's conditions: of the timer-skipping runner where `skips` is true, else of the
-- plain one
abbrev pub jump_by : Bool → Sheet → List ℕ → List ℕ → State → ℕ → ℕ
jump_by false sheet rom sched s left = 0
jump_by true sheet rom sched s left = wait_length sheet rom sched s left

-- r is that number for every such state and schedule, and every sheet with a ROM of that length
pub record JumpsBy (skips : Bool) (rom : List ℕ) (pc owed : ℕ) (interrupt : Interrupt) (timer : Timer) (level left r : ℕ) : Type 0 where
  pub length_is : (sheet : Sheet) → sheet.rom ≡ length rom → (sched : List ℕ) (s : State) → Shows s pc owed interrupt timer → Steady sched s.cycle.0 level left → r ≡ jump_by skips sheet rom sched s left

-- the code of TTM where it is watched for, else what no byte is
abbrev pub watch_code : Bool → ℕ
watch_code false = 256
watch_code true = 0x05

-- a core with a running timer that has j ticks left at least
pub record Jumpable (positions registers : List ℕ) (core : Core) (j : ℕ) : Type 0 where
  pub position_table_is : positions ≡ position_table
  pub register_table_is : registers ≡ register_table
  pub runs : 0 < core.timer.register
  pub register : core.timer.register < 64
  pub ticks : j ≤ ticks_left core.timer
