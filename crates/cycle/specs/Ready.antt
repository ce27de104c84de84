-- What an instruction asks of what it is given. Assumes nothing: these are definitions.
use Rattle.std.specs.Prelude.{ℕ, ◌<◌, ◌≤◌, ◌≡◌, List}
use Rattle.upd546.specs.TheMachine.{stack_depth}
use Rattle.runs.specs.Refusals.{cycle_limit}
use Rattle.runs.specs.Laws.{Bytes}
use Rattle.upd546.specs.declared.Lines.{Lines}
use Rattle.upd546.specs.declared.State.{State}
use Rattle.tables.specs.Tables.{instruction_table, Rows}
use Rattle.laws.specs.Valid.{Valid, ValidLines}

-- what an instruction asks of its ROM, tables, levels, lines and state
pub record Ready (rom table rows : List ℕ) (levels : ℕ) (l : Lines) (s : State) : Type 0 where
  pub rom_bytes : Bytes rom
  pub sizes : table ≡ instruction_table
  pub rows_are : Rows rows
  pub some_level : 1 ≤ levels
  pub three_levels : levels ≤ stack_depth
  pub lines : ValidLines l
  pub valid : Valid s
  pub below : s.cycle.0 < cycle_limit
