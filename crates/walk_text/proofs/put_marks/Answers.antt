-- Three pieces. Assumes nothing.
use native.Mathlib.Omega.{arith}
use mathlib.Core.Path.{◌∙◌, ap}
use lib.ListN.{length}
use Rattle.text.proofs.Writing.{told, then}
use Rattle.walk_text.proofs.Joined.{mark_length, owed_length, timer_length, marks_same}
use Rattle.walk_text.proofs.put_marks.Goals as goal

pub returns : goal.returns
returns c =
    let s = c.args.s in
    let mark = c.mark_column.ensures in
    let owed = c.owed_column.ensures in
    let timer = c.timer_column.ensures in
    let five = ap length mark ∙ mark_length s.core.mark in
    let seven = ap length owed ∙ owed_length s in
    let four = ap length timer ∙ timer_length s.core.timer in (
      told (marks_same s mark owed timer) (then (then c.push.ensures c.push-2.ensures) c.push-3.ensures),
      omega (arith, c.push.ensures.appended.ends, c.push-2.ensures.appended.ends, c.push-3.ensures.appended.ends, five, seven, four),
    )
