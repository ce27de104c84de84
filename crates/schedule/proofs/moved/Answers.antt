-- `moved` keeps the cursor up to its next record, and takes that record on its cycle. Assumes nothing.
use mathlib.Core.Path.{◌∙◌, sym}
use Prim.Native.Nat.{◌+◌}
use native.Mathlib.Omega.{arith}
use Rattle.schedule.proofs.Standing.{next_some, after_one, stands, stays, takes_record}
use Rattle.schedule.proofs.moved.Goals as goal

pub returns-then-n-cursor : goal.returns-then-n-cursor
returns-then-n-cursor c =
    let a = c.args in
    let p = c.requires in
    stays a.sched.now p.0 a.n.0 (a.n.0 + 1) a.cursor p.1 (omega arith) (omega arith)

pub lines_at-lines-requires : goal.lines_at-lines-requires
lines_at-lines-requires c =
    let a = c.args in
    next_some a.sched.now a.cursor.index (omega arith)

pub returns : goal.returns
returns c =
    let a = c.args in
    let p = c.requires in
    let s = a.sched.now in
    stands s p.0 (a.n.0 + 1) _ (omega arith) (takes_record s p.0 a.n.0 a.cursor.index p.1.counted (omega arith) (omega arith))
    c.next_at-next.ensures (c.lines_at-lines.ensures ∙ sym (after_one s a.cursor.index))
