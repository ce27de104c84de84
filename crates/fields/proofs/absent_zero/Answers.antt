-- `absent_zero` joins the answers for the stack and for the RAM. Assumes nothing.
use Rattle.upd546.specs.StateImage.{absent_zero}
use Rattle.fields.proofs.absent_zero.Goals as goal

pub returns : goal.returns
unfolding absent_zero
returns c = rw (c.rows_zero.ensures, c.levels_zero.ensures)
