-- After i turns the lines of the first i records stand there. Assumes nothing.
use native.Mathlib.Omega.{arith}
use lib.ListN.{length-take}
use Rattle.text.proofs.Writing.{none, told, then}
use Rattle.trace_text.proofs.Writing.{chunk_at, same_record, port_of, value_of, no_lines, next_line}
use Rattle.trace_text.proofs.put_lines.Goals as goal

pub loop-bytes-init : goal.loop-bytes-init
loop-bytes-init c = (told (no_lines c.args.log.now) (none c.args.text.now), omega arith)

pub put_line-requires : goal.put_line-requires
put_line-requires c =
    let log = c.args.log.now in
    let i = c.loop-bytes.bytes-index in
    let taken = length-take c.args.count c.as_chunks.result.0.now in
    let here = chunk_at log c.args.count i c.as_chunks.ensures.front (omega (arith, taken)) c.requires.1 in (
      omega (arith, c.loop-bytes.invariant.1),
      rw (here, port_of log i) (c.requires.2.port i (omega arith)),
      rw (here, value_of log i) (c.requires.2.value i (omega (arith, taken))),
    )

pub loop-bytes-preserved : goal.loop-bytes-preserved
loop-bytes-preserved c =
    let log = c.args.log.now in
    let i = c.loop-bytes.bytes-index in
    let taken = length-take c.args.count c.as_chunks.result.0.now in
    let here = chunk_at log c.args.count i c.as_chunks.ensures.front (omega (arith, taken)) c.requires.1 in
    let line = c.put_line.ensures in (
      told (next_line log i) (then c.loop-bytes.invariant.0 (told (same_record log i here (omega (arith, taken, c.requires.1))) line.0)),
      omega (arith, c.loop-bytes.invariant.1, line.1),
    )
