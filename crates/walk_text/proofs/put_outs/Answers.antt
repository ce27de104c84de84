-- None, one or two records. Assumes nothing.
use native.Mathlib.Omega.{arith}
use Rattle.text.proofs.Writing.{told, then, none}
use Rattle.walk_text.proofs.Joined.{outs_none, outs_one, outs_two}
use Rattle.walk_text.proofs.put_outs.Goals as goal

pub returns-then-written-lt8 : goal.returns-then-written-lt8
returns-then-written-lt8 c =
    (told (outs_none c.args.log.now c.args.written c.if-written-lt8.true) (none c.args.text.now), omega arith)

pub returns-then-written-lt16 : goal.returns-then-written-lt16
returns-then-written-lt16 c =
    let first = c.put_out.ensures in
    (told (outs_one c.args.log.now c.args.written c.if-written-lt8.false c.if-written-lt16.true) first.0, omega (arith, first.1))

pub returns : goal.returns
returns c =
    let first = c.put_out.ensures in
    let second = c.put_out-2.ensures in (
      told (outs_two c.args.log.now c.args.written c.if-written-lt8.false c.if-written-lt16.false) (then first.0 second.0),
      omega (arith, first.1, second.1),
    )
