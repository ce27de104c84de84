-- The three letters of a word are the first of its code's four. Assumes nothing.
use mathlib.Core.Path.{ap}
use lib.ListN.{take}
use borrow.Author.Rules.{rules}
use Rattle.mnemonics.proofs.Table.{entry_at}
use Rattle.mnemonics.proofs.letters.Goals as goal

pub returns : goal.returns
returns c = rw c.word_table-table.ensures (ap (take 3) (entry_at c.args.code (search rules)))
