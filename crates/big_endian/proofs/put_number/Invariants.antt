-- From the lowest byte up: what stands before them and behind is as before. Assumes nothing.
use Rattle.std.proofs.Common.{◌≡◌, ◌++◌, ◌-◌, ◌/◌, take, drop}
use Prim.Native.Nat.{◌^◌}
use Rattle.upd546.specs.Bytes.{bytes_of}
use Rattle.big_endian.proofs.put_number.Given as goal

abbrev pub invariant-loop-k : goal.invariant-loop-k
invariant-loop-k g l =
    (l.rest ≡ l.n / 256 ^ l.k) × (l.bytes ≡ take (g.row.N - l.k) l.initial.bytes ++ bytes_of l.k l.n ++ drop g.row.N l.initial.bytes)
