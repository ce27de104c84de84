-- A ROM that is too long, and one that is listed. Assumes nothing.
use mathlib.Core.Path.{ap}
use lib.ListN.{take}
use Rattle.text.proofs.Writing.{then}
use Rattle.listing.proofs.Turns.{too_long, whole}
use Rattle.listing.proofs.list.Goals as goal

pub returns-then-length-gt-ROM_LENGTH : goal.returns-then-length-gt-ROM_LENGTH
returns-then-length-gt-ROM_LENGTH c = let a = c.args in too_long a.rom.now a.out.now c.if-length-gt-ROM_LENGTH.true

pub returns : goal.returns
returns c =
    let t = c.new-text.ensures in
    let head = then (then c.push.ensures c.push-2.ensures) c.push-3.ensures in
    whole c.args.rom.now c.if-length-gt-ROM_LENGTH.false t.same_bytes t.empty (ap (take 3) c.three.ensures) (then head c.put_lines.ensures) c.len.ensures
