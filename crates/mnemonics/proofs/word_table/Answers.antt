-- All 1,024 letters are computed. Assumes nothing.
use mathlib.Core.Path.{refl}
use Rattle.mnemonics.specs.Mnemonics.{entry_of, word_table}
use Rattle.mnemonics.proofs.word_table.Goals as goal

pub returns : goal.returns
unfolding word_table entry_of
returns c = refl
