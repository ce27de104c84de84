-- The word, and three numbers behind it. Assumes nothing.
use Rattle.text.proofs.Writing.{told, then}
use Rattle.trace_text.proofs.Writing.{end_same}
use Rattle.trace_text.proofs.put_end.Goals as goal

pub returns : goal.returns
returns c =
    let e = c.args.ended in
    let counts = then (then c.push.ensures c.push_number.ensures.0) c.push_number-2.ensures.0 in
    told (end_same e.cycles.0 e.begun e.number) (then counts c.push_number-3.ensures.0)
