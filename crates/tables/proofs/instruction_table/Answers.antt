-- The table is the instruction list's bytes and base cycles: all 256 entries are computed. Assumes nothing.
use mathlib.Core.Path.{refl}
use Rattle.upd546.specs.Instructions.{instruction}
use Rattle.tables.specs.Tables.{size_of, instruction_table}
use Rattle.tables.proofs.instruction_table.Goals as goal

pub returns : goal.returns
unfolding instruction_table size_of instruction
returns c = refl
