-- `ram_sound` tests all words. Assumes nothing.
use mathlib.Core.Path.{◌≡◌}
use mathlib.Core.Bool.{and-true}
use lib.ListN.{length}
use borrow.Author.Rules.{rules}
use borrow.Author.Tests.{eq-eqb}
use Rattle.upd546.specs.TheMachine.{ram_length}
use Rattle.upd546.specs.Sequences.{all_of}
use Rattle.upd546.specs.StateImage.{ram_sound}
use Rattle.fields.proofs.ram_sound.Goals as goal

pub returns : goal.returns
unfolding all_of ram_sound
returns c =
    let count : length c.args.words ≡ ram_length = search rules in
    rw (eq-eqb _ _ count, c.all_below.ensures, and-true)
