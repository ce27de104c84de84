-- A record's cycle, and its letter and digit behind it. Assumes nothing.
use native.Mathlib.Omega.{arith}
use Rattle.text.proofs.Writing.{told, then}
use Rattle.trace_text.proofs.Writing.{line_same}
use Rattle.trace_text.proofs.put_line.Goals as goal

pub returns : goal.returns
returns c =
    let number = c.push_number.ensures in
    let same =
    line_same c.args.bytes.now 0 c.number_at.ensures.0 c.port_letter-letter.ensures c.requires.2 c.hex_digit-digit.ensures in
    (told same (then number.0 c.push.ensures), omega (arith, number.1, c.push.ensures.appended.ends))
