-- The table is the register after each number of steps from 1: all 63 entries are computed. Assumes nothing.
use mathlib.Core.Path.{refl}
use Rattle.upd546.specs.Timer.{step_register, register_after}
use Rattle.tables.specs.Tables.{register_table}
use Rattle.tables.proofs.register_table.Goals as goal

pub returns : goal.returns
unfolding register_table register_after step_register
returns c = refl
