-- The front of the ROM is as the cells have it, byte by byte. Assumes nothing.
use mathlib.Core.Path.{◌≡◌}
use lib.Seq.{paste}
use Rattle.assembly.specs.Assembling.{filled}
use Rattle.assembler.proofs.fill.Given as goal

abbrev pub invariant-loop-i : goal.invariant-loop-i
invariant-loop-i l = l.rom ≡ paste l.initial.rom 0 (filled l.cells) l.i
