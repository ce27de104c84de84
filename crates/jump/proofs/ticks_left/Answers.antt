-- 63 minus position plus 63 times counter; a position is below 63. Assumes nothing.
use native.Mathlib.Omega.{arith}
use Rattle.upd546.specs.Timer.{ticks_left}
use Rattle.laws.proofs.Timer.{position_small}
use Rattle.jump.proofs.ticks_left.Goals as goal

pub overflow_sub-result : goal.overflow_sub-result
overflow_sub-result c =
    omega (arith, position_small c.args.t.register c.requires.1 c.requires.2)

pub returns : goal.returns
unfolding ticks_left
returns c = rw c.position-position.ensures
