-- The timer has ended, or its register is the table's entry. Assumes nothing.
use Rattle.laws.specs.Timer.{timer_left}
use Rattle.jump.proofs.Leaving.{left_some}
use Rattle.jump.proofs.timer_left.Goals as goal

pub returns-then-ticks-eq0 : goal.returns-then-ticks-eq0
unfolding timer_left
returns-then-ticks-eq0 c = rw c.if-ticks-eq0.true

pub returns : goal.returns
returns c =
    left_some c.args.tm c.args.ticks c.register_at-register.result c.if-ticks-eq0.false c.register_at-register.ensures
