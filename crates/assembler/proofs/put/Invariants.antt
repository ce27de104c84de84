-- The bytes passed are put; the rest is still to be put. Assumes nothing.
use mathlib.Core.Path.{◌≡◌}
use Prim.Native.Nat.{◌+◌}
use lib.ListN.{length, drop}
use Rattle.assembly.specs.Assembling.{given_twice, placed}
use Rattle.assembler.proofs.put.Given as goal

abbrev pub invariant-loop-byte : goal.invariant-loop-byte
invariant-loop-byte l =
    (l.at + length (drop l.byte-index l.bytes) ≡ l.initial.at + length l.bytes)
    × (given_twice l.cells l.at (drop l.byte-index l.bytes) ≡ given_twice l.initial.cells l.initial.at l.bytes)
    × (placed l.cells l.at (drop l.byte-index l.bytes) ≡ placed l.initial.cells l.initial.at l.bytes)
