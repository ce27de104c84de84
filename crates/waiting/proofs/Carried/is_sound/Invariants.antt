-- `is_sound` tests the landings one by one. Assumes nothing.
use Rattle.waiting.proofs.Landings.{SoundTo}
use Rattle.waiting.proofs.Carried.is_sound.Given as goal

abbrev pub invariant-loop-i : goal.invariant-loop-i
invariant-loop-i l = SoundTo l.fn.self l.i
