-- `register_at` reads the entry of its position. Assumes nothing.
use Rattle.tables.proofs.Entries.{register_at}
use Rattle.tables.proofs.register_at.Goals as goal

pub returns : goal.returns
returns c = rw c.requires.0 (register_at c.args.position c.requires.1)
