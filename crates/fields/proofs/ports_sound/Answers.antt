-- `ports_sound` tests all latches and the last once more. Assumes nothing.
use mathlib.Core.Path.{◌≡◌}
use mathlib.Core.Bool.{and-true}
use lib.ListN.{length}
use borrow.Author.Rules.{rules}
use borrow.Author.Tests.{eq-eqb}
use Rattle.upd546.specs.TheMachine.{latches}
use Rattle.upd546.specs.Sequences.{all_of}
use Rattle.upd546.specs.StateImage.{ports_sound}
use Rattle.fields.proofs.ports_sound.Goals as goal

pub returns : goal.returns
unfolding all_of ports_sound
returns c =
    let count : length c.args.latches ≡ latches = search rules in
    rw (eq-eqb _ _ count, c.all_below.ensures, and-true)
