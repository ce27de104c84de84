-- Piece behind piece. Assumes nothing.
use native.Mathlib.Omega.{arith}
use Rattle.listing.specs.Listed.{item_by}
use Rattle.text.proofs.Writing.{told, then}
use Rattle.listing.proofs.Lines.{columns-same, columns-length}
use Rattle.listing.proofs.put_columns.Goals as goal

pub returns : goal.returns
returns c =
    let i = item_by c.args.item in
    let text = then (then (then c.push.ensures c.push-2.ensures) c.push-3.ensures) c.push-4.ensures in
    let all = told (columns-same i c.three.ensures c.bytes_shown.ensures c.cycles_shown.ensures) text in
    (all, omega (arith, all.appended.ends, columns-length i))
