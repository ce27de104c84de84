-- Byte by byte. Assumes nothing.
use mathlib.Core.Path.{◌≡◌}
use Prim.Native.Nat.{◌^◌, ◌<◌}
use Rattle.upd546.specs.Bytes.{number_at}
use Rattle.big_endian.proofs.number_at.Given as goal

abbrev pub invariant-loop-i : goal.invariant-loop-i
invariant-loop-i l = (l.number ≡ number_at l.bytes l.at l.i) × (l.number < 256 ^ l.i)
