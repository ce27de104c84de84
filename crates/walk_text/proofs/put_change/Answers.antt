-- A line that changed, and one that stayed. Assumes nothing.
use native.Mathlib.Omega.{arith}
use Rattle.text.proofs.Writing.{told, then, none}
use Rattle.walk_text.proofs.Joined.{change_none, change_some}
use Rattle.walk_text.proofs.put_change.Goals as goal

pub returns-then-last-new : goal.returns-then-last-new
returns-then-last-new c =
    let a = c.args in
    let word = c.push.ensures in
    let name = c.push-then-last-new.ensures in
    let level = c.push-then-last-new-2.ensures in (
      told (change_some a.name.now a.last a.new c.if-last-new.true c.hex_digit.ensures) (then (then word name) level),
      omega (arith, word.appended.ends, name.appended.ends, level.appended.ends, c.requires.1),
    )

pub returns-else-last-new : goal.returns-else-last-new
returns-else-last-new c =
    let a = c.args in
    (told (change_none a.name.now a.last a.new c.if-last-new.false) (none a.text.now), omega arith)
