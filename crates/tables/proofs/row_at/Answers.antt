-- A row that the sheet has, and one that it lacks. Assumes nothing.
use mathlib.Core.Path.{◌∙◌, sym, ap}
use Prim.Native.Nat.{ℕ}
use Rattle.upd546.specs.Bytes.{bit_at}
use Rattle.tables.proofs.Rows.{row_low, row_absent}
use Rattle.tables.proofs.row_at.Goals as goal

pub returns-then-row_bit-eq1 : goal.returns-then-row_bit-eq1
returns-then-row_bit-eq1 c sheet same =
    let i = c.args.i in
    row_low sheet i c.requires (ap (λ (k : ℕ). bit_at k i) same ∙ sym c.row_bit.ensures ∙ c.if-row_bit-eq1.true)

pub returns : goal.returns
returns c sheet same =
    let i = c.args.i in
    row_absent sheet i c.requires (λ e. c.if-row_bit-eq1.false (c.row_bit.ensures ∙ sym (ap (λ (k : ℕ). bit_at k i) same) ∙ e))
