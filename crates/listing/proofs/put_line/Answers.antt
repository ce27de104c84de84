-- Label, statement, columns, remark, newline. Assumes nothing.
use mathlib.Core.Path.{◌∙◌, ap}
use native.Mathlib.Omega.{arith}
use lib.ListN.{length}
use Rattle.listing.specs.Listed.{item_by}
use Rattle.listing.specs.Listing.{items_of}
use Rattle.text.proofs.Writing.{told, then}
use Rattle.listing.proofs.Lines.{line_of, label_length}
use Rattle.listing.proofs.put_line.Goals as goal

pub returns : goal.returns
returns c =
    let a = c.args in
    let columns = c.put_columns.ensures in
    let remark = c.put_remark.ensures in
    let same = line_of (items_of a.rom.bytes.now) (item_by a.item) c.label.ensures c.led_to.ensures c.statement.ensures.0 in
    let text = then (then (then (then c.push.ensures c.push-2.ensures) columns.0) remark.0) c.push-3.ensures in
    let front = ap length c.label.ensures ∙ label_length c.led_to.result a.item.at in (
      told same text,
      omega (
        arith,
        front,
        c.statement.ensures.1,
        c.push.ensures.appended.ends,
        c.push-2.ensures.appended.ends,
        columns.1,
        remark.1,
        c.push-3.ensures.appended.ends,
      ),
    )
