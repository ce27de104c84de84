-- `position` reads the entry of its register. Assumes nothing.
use Rattle.tables.proofs.Entries.{position_at}
use Rattle.tables.proofs.position.Goals as goal

pub returns : goal.returns
returns c = rw c.requires.0 (position_at c.args.register c.requires.1 c.requires.2)
