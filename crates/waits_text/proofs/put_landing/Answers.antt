-- Five numbers, one behind the other. Assumes nothing.
use Rattle.std.proofs.Common.{arith}
use Rattle.text.proofs.Writing.{told, then}
use Rattle.waits_text.proofs.Texts.{line_same}
use Rattle.waits_text.proofs.put_landing.Goals as goal

pub returns : goal.returns
returns c =
    let closed = then c.push_number.ensures.0 c.push_number-2.ensures.0 in
    let longest = then (then closed c.push_number-3.ensures.0) c.push_number-4.ensures.0 in (
      told (line_same c.args.i c.args.landing) (then longest c.push_number-5.ensures.0),
      omega (
        arith,
        c.push_number.ensures.1,
        c.push_number-2.ensures.1,
        c.push_number-3.ensures.1,
        c.push_number-4.ensures.1,
        c.push_number-5.ensures.1,
      ),
    )
