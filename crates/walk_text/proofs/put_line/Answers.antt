-- Piece behind piece. Assumes nothing.
use Rattle.text.proofs.Writing.{told, then}
use Rattle.walk_text.proofs.Joined.{line_same}
use Rattle.walk_text.proofs.put_line.Goals as goal

pub returns : goal.returns
returns c =
    let e = c.args in
    let state = then (then c.put_head.ensures.0 c.put_registers.ensures.0) c.put_marks.ensures.0 in
    told (line_same e.rom.now e.w e.log.now e.written)
    (then (then (then state c.put_outs.ensures.0) c.put_changes.ensures.0) c.push.ensures)
