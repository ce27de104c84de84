-- Either runner, for the loop that both go through. Assumes nothing: these are definitions.
use Rattle.std.specs.Prelude.{◌≡◌, Bool, true, false, List, ℕ}
use Rattle.runs.specs.TwoRunners.{RunAnswer, run_number, plain, skipping}
use Rattle.upd546.specs.declared.Sheet.{Sheet}
use Rattle.upd546.specs.declared.State.{State}
use Rattle.upd546.specs.TwoRunners.{chip}
use Rattle.tables.specs.Tables.{instruction_table, row_table, position_table, register_table}
use Rattle.schedule.specs.declared.Cursor.{Cursor}
use Rattle.schedule.specs.Cursor.{Stands}

-- the timer-skipping runner where `skips` is true, else the plain one
abbrev pub run_by : Bool → Sheet → List ℕ → List ℕ → State → List ℕ → ℕ → RunAnswer State
run_by false sheet rom sched s log n = plain (chip sheet) rom sched s log n
run_by true sheet rom sched s log n = skipping (chip sheet) rom sched s log n

-- what the loop starts with: a run that isn't refused, the tables, and a cursor that stands at the state's cycle
pub record Set (sheet : Sheet) (rom sched table rows positions registers : List ℕ) (s : State) (first : Cursor) (n : ℕ) : Type 0 where
  pub not_refused_is : run_number (chip sheet) rom sched s n ≡ 0
  pub instructions : table ≡ instruction_table
  pub row_table_is : rows ≡ row_table sheet
  pub position_table_is : positions ≡ position_table
  pub register_table_is : registers ≡ register_table
  pub stands : Stands sched s.cycle.0 first
