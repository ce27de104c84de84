-- `core_sound` joins the answers for its parts and two tests. Assumes nothing.
use mathlib.Core.Bool.{and_assoc, and-true}
use Rattle.upd546.specs.Sequences.{all_of}
use Rattle.upd546.specs.StateImage.{core_sound}
use Rattle.fields.proofs.core_sound.Goals as goal

pub returns : goal.returns
unfolding all_of core_sound
returns c =
    simp (and_assoc, and-true)
    (rw (c.timer_sound.ensures, c.interrupt_sound.ensures, c.flow_sound.ensures, c.registers_sound.ensures))
