-- A code's instruction is that of its row. Assumes nothing.
use Rattle.upd546.specs.Instructions as chip
use Rattle.upd546.specs.Instructions.{instruction}
use Rattle.decode.proofs.Keys.{past}
use Rattle.decode.proofs.Rows.{one_row, past_rows}
use Rattle.std.proofs.Common.{arith}
use Rattle.std.proofs.lemmas.Grind.{common_steps}
use Rattle.decode.proofs.decode.Goals as goal

pub returns-in-0 : goal.returns-in-0
unfolding instruction
returns-in-0 c = rw c.in-0.is c.row0.ensures

pub returns-in-1 : goal.returns-in-1
unfolding instruction
returns-in-1 c = rw c.in-1.is c.row1.ensures

pub returns-in-2 : goal.returns-in-2
unfolding instruction
returns-in-2 c = rw c.in-2.is c.row2.ensures

pub returns-in-3 : goal.returns-in-3
unfolding instruction
returns-in-3 c = rw c.in-3.is c.row3.ensures

pub returns-in-4 : goal.returns-in-4
unfolding instruction
returns-in-4 c = rw c.in-4.is c.row4.ensures

pub returns-in-5 : goal.returns-in-5
unfolding instruction
returns-in-5 c = rw c.in-5.is c.row5.ensures

pub returns-in-6 : goal.returns-in-6
unfolding instruction
returns-in-6 c = rw c.in-6.is c.row6.ensures

pub returns-in-7 : goal.returns-in-7
unfolding instruction
returns-in-7 c = rw c.in-7.is c.row7.ensures

pub returns-in-8 : goal.returns-in-8
unfolding instruction
returns-in-8 c = rw c.in-8.is (one_row chip.ldz c.args.code)

pub returns-in-9 : goal.returns-in-9
unfolding instruction
returns-in-9 c = rw c.in-9.is (one_row chip.li c.args.code)

pub returns-in-10 : goal.returns-in-10
unfolding instruction
returns-in-10 c = rw c.in-10.is c.row10.ensures

pub returns-in-11 : goal.returns-in-11
unfolding instruction
returns-in-11 c = rw c.in-11.is (one_row chip.czp c.args.code)

pub returns-in_default : goal.returns-in_default
returns-in_default c = grind (arith, common_steps, past_rows, past)
