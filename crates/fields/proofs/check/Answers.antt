-- `check` answers the number of what `fields_sound` and `absent_zero` find. Assumes nothing.
use Rattle.upd546.specs.StateImage.{state_sound, state_number}
use Rattle.fields.proofs.check.Goals as goal

pub returns-then-fields_sound-absent_zero : goal.returns-then-fields_sound-absent_zero
unfolding state_number state_sound
returns-then-fields_sound-absent_zero c = rw (← c.absent_zero.ensures, ← c.fields_sound.ensures, c.if-fields_sound-absent_zero.true)

pub returns-else-fields_sound-absent_zero : goal.returns-else-fields_sound-absent_zero
unfolding state_number state_sound
returns-else-fields_sound-absent_zero c = rw (← c.absent_zero.ensures, ← c.fields_sound.ensures, c.if-fields_sound-absent_zero.false)
