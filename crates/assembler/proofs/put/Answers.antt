-- The bytes passed are put; the rest is still to be put. Assumes nothing.
use mathlib.Core.Path.{◌∙◌, sym}
use Rattle.assembler.specs.Answers.{state_of}
use Rattle.assembler.proofs.Puts.{put_beyond, put_within, put_good, put_state, rest_twice, rest_given, rest_placed, rest_shorter}
use Rattle.assembler.proofs.put.Goals as goal

pub returns-then-is_beyond : goal.returns-then-is_beyond
returns-then-is_beyond c =
    let a = c.args in
    put_beyond (state_of a.place a.cells.now) a.bytes.now (sym c.is_beyond.ensures ∙ c.if-is_beyond.true)

pub returns-then-cell-ne-NO_BYTE : goal.returns-then-cell-ne-NO_BYTE
returns-then-cell-ne-NO_BYTE c =
    let a = c.args in
    let l = c.loop-byte in
    let s = state_of a.place a.cells.now in
    put_within s a.bytes.now (sym c.is_beyond.ensures ∙ c.if-is_beyond.false)
    (sym l.invariant.1 ∙ rest_twice l.cells l.at a.bytes.now l.byte-index c.loop-byte-test.true (λ e. c.if-cell-ne-NO_BYTE.true (c.cell.ensures ∙ e)))

pub loop-byte-preserved : goal.loop-byte-preserved
loop-byte-preserved c =
    let a = c.args in
    let l = c.loop-byte in
    let free = sym c.cell.ensures ∙ c.if-cell-ne-NO_BYTE.false in
    let h = c.loop-byte-test.true in (
      rest_shorter l.at a.bytes.now l.byte-index h ∙ l.invariant.0,
      rw c.store.ensures (rest_given l.cells l.at a.bytes.now l.byte-index h free ∙ l.invariant.1),
      rw c.store.ensures (rest_placed l.cells l.at a.bytes.now l.byte-index h ∙ l.invariant.2),
    )

pub returns : goal.returns
returns c =
    let a = c.args in
    let l = c.loop-byte in
    let s = state_of a.place a.cells.now in
    let h = sym c.is_beyond.ensures ∙ c.if-is_beyond.false in
    let e = c.loop-byte-test.false in (
      put_good s a.bytes.now h l.cells l.at l.byte-index e l.invariant.1,
      put_state s a.bytes.now h l.cells l.at l.byte-index e l.invariant.2 l.invariant.0,
    )
