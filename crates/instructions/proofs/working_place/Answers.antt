-- The places of Z, W, S, R, Y and X. Assumes nothing.
use Rattle.upd546.specs.TheSheet.{row_exists}
use Rattle.upd546.specs.TheMachine.{place_of, place_in}
use Rattle.instructions.proofs.working_place.Goals as goal

pub returns-in-Taz : goal.returns-in-Taz
unfolding place_in place_of row_exists
returns-in-Taz c sheet s = rw c.in-Taz.is

pub returns-in-Taw : goal.returns-in-Taw
unfolding place_in place_of row_exists
returns-in-Taw c sheet s = rw c.in-Taw.is

pub returns-in-Tly : goal.returns-in-Tly
unfolding place_in place_of row_exists
returns-in-Tly c sheet s = rw c.in-Tly.is

pub returns-in-Thx : goal.returns-in-Thx
unfolding place_in place_of row_exists
returns-in-Thx c sheet s = rw c.in-Thx.is

pub returns-in-Xaz : goal.returns-in-Xaz
unfolding place_in place_of row_exists
returns-in-Xaz c sheet s = rw c.in-Xaz.is

pub returns-in-Xaw : goal.returns-in-Xaw
unfolding place_in place_of row_exists
returns-in-Xaw c sheet s = rw c.in-Xaw.is

pub returns-in-Xls : goal.returns-in-Xls
unfolding place_in place_of row_exists
returns-in-Xls c sheet s = rw c.in-Xls.is

pub returns-in-Xhr : goal.returns-in-Xhr
unfolding place_in place_of row_exists
returns-in-Xhr c sheet s = rw c.in-Xhr.is

pub returns-in-Xly : goal.returns-in-Xly
unfolding place_in place_of row_exists
returns-in-Xly c sheet s = rw c.in-Xly.is

pub returns-in-Xhx : goal.returns-in-Xhx
unfolding place_in place_of row_exists
returns-in-Xhx c sheet s = rw c.in-Xhx.is
