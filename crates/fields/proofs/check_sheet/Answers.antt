-- `check_sheet` answers the number of what `is_legal` finds. Assumes nothing.
use Rattle.upd546.specs.TheSheet.{sheet_number}
use Rattle.fields.proofs.check_sheet.Goals as goal

pub returns-then-is_legal : goal.returns-then-is_legal
unfolding sheet_number
returns-then-is_legal c = rw (← c.is_legal.ensures, c.if-is_legal.true)

pub returns-else-is_legal : goal.returns-else-is_legal
unfolding sheet_number
returns-else-is_legal c = rw (← c.is_legal.ensures, c.if-is_legal.false)
