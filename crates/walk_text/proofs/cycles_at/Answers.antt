-- By the table. Assumes nothing.
use Rattle.tables.specs.Tables.{size_of}
use Rattle.walk_text.proofs.cycles_at.Goals as goal

pub returns : goal.returns
unfolding size_of
returns c = rw (c.size_of-size.ensures, c.byte_at.ensures)
