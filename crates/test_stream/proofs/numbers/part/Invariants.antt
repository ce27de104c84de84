-- Byte after byte, from the front. Assumes nothing.
use Rattle.std.proofs.Common.{◌≡◌, ◌+◌, ◌≤◌, length, drop, ◌++◌, slice_index}
use Rattle.upd546.specs.Sequences.{entries}
use Rattle.test_stream.proofs.numbers.part.Given as goal

abbrev pub invariant-loop-i : goal.invariant-loop-i
invariant-loop-i g l = record {
  within : l.i ≤ length l.initial.x-items;
  filled : l.x-items ≡ entries l.i (λ i. slice_index l.bytes (l.at + i)) ++ drop l.i l.initial.x-items;
}
