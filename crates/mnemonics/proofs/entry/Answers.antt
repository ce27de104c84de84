-- The four letters of a code stand together. Assumes nothing.
use mathlib.Core.Path.{◌∙◌, ap}
use mathlib.Core.List.{List}
use Prim.Native.Nat.{ℕ}
use lib.ListN.{get_or}
use borrow.Author.Rules.{rules}
use Rattle.mnemonics.specs.Mnemonics.{kind_for}
use Rattle.mnemonics.proofs.Table.{entry_at}
use Rattle.mnemonics.proofs.entry.Goals as goal

pub returns-clause-kind : goal.returns-clause-kind
returns-clause-kind c =
    let letters = rw (← c.word_table-table.ensures) at (entry_at c.args.code (search rules)) in
    c.from.ensures ∙ ap (λ (l : List ℕ). kind_for (get_or l 3 0)) letters
