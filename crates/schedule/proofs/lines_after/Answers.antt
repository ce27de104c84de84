-- `lines_after` gives the lines of the last record taken, or those of no record. Assumes nothing.
use mathlib.Core.Path.{◌≡◌, ◌∙◌, sym}
use Prim.Native.Nat.{◌+◌, ◌-◌}
use native.Mathlib.Omega.{arith}
use Rattle.schedule.specs.Cursor.{lines_after}
use Rattle.schedule.proofs.Standing.{after_one}
use Rattle.schedule.proofs.lines_after.Goals as goal

pub returns-then-taken-eq0 : goal.returns-then-taken-eq0
unfolding lines_after
returns-then-taken-eq0 c = rw c.if-taken-eq0.true

pub returns-else-taken-eq0 : goal.returns-else-taken-eq0
returns-else-taken-eq0 c =
    let a = c.args in
    let e : a.taken - 1 + 1 ≡ a.taken = omega arith in
    c.lines_at.ensures ∙ sym (rw e at (after_one a.sched.now (a.taken - 1)))
