-- `registers_sound` joins the tests of its definition. Assumes nothing.
use mathlib.Core.Bool.{and_assoc, and-true}
use Rattle.upd546.specs.Sequences.{all_of}
use Rattle.upd546.specs.StateImage.{registers_sound}
use Rattle.fields.proofs.registers_sound.Goals as goal

pub returns : goal.returns
unfolding all_of registers_sound
returns c = simp (and_assoc, and-true)
