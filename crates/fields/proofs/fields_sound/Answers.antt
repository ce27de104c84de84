-- `fields_sound` joins the answers for its parts and the tests of the count and the cycle number. Assumes nothing.
use mathlib.Core.Bool.{and_assoc, and-true}
use Rattle.upd546.specs.Sequences.{all_of}
use Rattle.upd546.specs.StateImage.{fields_sound}
use Rattle.fields.proofs.fields_sound.Goals as goal

pub returns : goal.returns
unfolding all_of fields_sound
returns c =
    simp (and_assoc, and-true) (rw (c.ram_sound.ensures, c.ports_sound.ensures, c.core_sound.ensures))
