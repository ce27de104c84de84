-- One or two bytes on. Assumes nothing.
use mathlib.Core.Path.{◌≡◌, ◌∙◌, ap}
use native.Mathlib.Omega.{arith}
use Rattle.upd546.specs.TheMachine.{follows as followsOf, past}
use Rattle.fetch.proofs.past_bytes.Goals as goal

pub returns-then-bytes-eq1 : goal.returns-then-bytes-eq1
unfolding past
returns-then-bytes-eq1 c = rw c.if-bytes-eq1.true c.follows-next.ensures

pub returns : goal.returns
unfolding past
returns c =
    let two : c.args.bytes ≡ 2 = omega arith in
    rw two (c.follows.ensures ∙ ap followsOf c.follows-next.ensures)
