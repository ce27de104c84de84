-- A bar is put behind the others or joined to the last; no wait is lost. Assumes nothing.
use Rattle.std.proofs.Common.{◌≡◌, ◌<◌, arith, length, rules}
use Rattle.bar_rows.proofs.Rows.{pushed, joined}
use Rattle.bar_rows.proofs.Row.add.Goals as goal
use Rattle.bar_rows.proofs.Row.add.Goals.{in-Some+else-self-eq-BARS+else-is_some_and, in_default}

pub returns-then-self-eq-BARS-clause-kept : goal.returns-then-self-eq-BARS-clause-kept
returns-then-self-eq-BARS-clause-kept c = λ h.
    let row = c.args.self.now in
    let long : length row.all ≡ 2048 = search rules in
    joined row.all row.count c.in-Some.k c.args.bar.waits _ _ (omega (arith, c.in-Some.ensures)) (omega (arith, c.in-Some.ensures, row.within)) c.with.ensures h

pub returns-clause-kept : goal.returns-clause-kept
returns-clause-kept c = λ h.
    let row = c.args.self.now in
    let long : length row.all ≡ 2048 = search rules in
    let room : row.count < 2048 =
    elim c.match-checked_sub.branch [
      | in-Some+else-self-eq-BARS+else-is_some_and w ↦ omega (arith, w.if-self-eq-BARS.false, row.within)
      | in_default w ↦ omega (arith, w.in_default.ensures)
    ] in
    pushed row.all row.count c.args.bar (omega (arith, room))
