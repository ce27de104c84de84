-- `rows_zero` joins the answers for rows 0 to 4. Assumes nothing.
use Rattle.fields.proofs.Absent.{rows_tests}
use Rattle.fields.proofs.rows_zero.Goals as goal

pub returns : goal.returns
returns c =
    rows_tests _ _ _ _ _ _ _ c.row_fits.ensures c.row_fits-2.ensures c.row_fits-3.ensures c.row_fits-4.ensures
    c.row_fits-5.ensures
