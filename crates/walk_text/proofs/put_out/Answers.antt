-- A port, and the record of a reset. Assumes nothing.
use native.Mathlib.Omega.{arith}
use Rattle.text.proofs.Writing.{told, then, none}
use Rattle.walk_text.proofs.Joined.{out_none, out_some}
use Rattle.walk_text.proofs.put_out.Goals as goal

pub returns-then-port-ne0 : goal.returns-then-port-ne0
returns-then-port-ne0 c =
    let words = c.push.ensures in
    let port = c.push-then-port-ne0.ensures in
    (told (out_some c.args.log.now c.args.i c.if-port-ne0.true c.port_letter.ensures c.hex_digit-digit.ensures) (then words port), omega (arith, words.appended.ends, port.appended.ends))

pub returns-else-port-ne0 : goal.returns-else-port-ne0
returns-else-port-ne0 c = (told (out_none c.args.log.now c.args.i c.if-port-ne0.false) (none c.args.text.now), omega arith)
