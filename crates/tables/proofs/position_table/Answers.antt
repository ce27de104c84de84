-- The table is the steps from 1 to each register: all 63 entries are computed. Assumes nothing.
use mathlib.Core.Path.{refl}
use Rattle.upd546.specs.Timer.{step_register, steps_to, position_of}
use Rattle.tables.specs.Tables.{position_table}
use Rattle.tables.proofs.position_table.Goals as goal

pub returns : goal.returns
unfolding position_table position_of steps_to step_register
returns c = refl
