-- The heading, and the lines of the first landings. Assumes nothing.
use Rattle.std.proofs.Common.{◌+◌, ◌*◌, ◌≤◌, ◌++◌, take}
use Rattle.upd546.specs.Reports.{newline}
use Rattle.text.specs.Writing.{Pushed}
use Rattle.waits_text.specs.Texts.{waits_heading, landings_text}
use Rattle.waits_text.proofs.put_report.Given as goal

abbrev pub invariant-loop-i : goal.invariant-loop-i
invariant-loop-i l =
    Pushed l.fn.text (waits_heading ++ newline ++ landings_text 0 (take l.i l.fn.carried.landings)) l.text
    × (l.text.size ≤ l.fn.text.size + 35 + 105 * l.i)
