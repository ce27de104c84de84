-- `size_of` takes the code's half of its entry apart. Assumes nothing.
use borrow.Author.Rules.{rules}
use Rattle.tables.proofs.Entries.{size_at}
use Rattle.tables.proofs.size_of.Goals as goal

pub returns : goal.returns
returns c = rw (c.half_for-half.ensures, c.requires) (size_at c.args.code (search rules))
