-- The timer that has j ticks fewer left; a counter of 8 bits is below 256. Assumes nothing.
use native.Mathlib.Omega.{arith}
use Rattle.upd546.specs.Timer.{ticks_left}
use Rattle.laws.specs.Jump.{core_after_jump}
use Rattle.jump.proofs.core_after_jump.Goals as goal

pub timer_left-left-requires : goal.timer_left-left-requires
unfolding ticks_left
timer_left-left-requires c = (c.requires.register_table_is, omega arith)

pub returns : goal.returns
unfolding core_after_jump
returns c =
    rw (c.copy_core-next.ensures, c.timer_left-left.ensures, c.ticks_left.ensures)
