-- `interrupt_sound` joins the tests of its definition. Assumes nothing.
use mathlib.Core.Bool.{and_assoc, and-true}
use Rattle.upd546.specs.Sequences.{all_of}
use Rattle.upd546.specs.StateImage.{interrupt_sound}
use Rattle.fields.proofs.interrupt_sound.Goals as goal

pub returns : goal.returns
unfolding all_of interrupt_sound
returns c = simp (and_assoc, and-true)
