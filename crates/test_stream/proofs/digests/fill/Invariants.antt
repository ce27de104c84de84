-- What a log holds before the run: one turn a byte. Assumes nothing.
use Rattle.std.proofs.Common.{◌≡◌, ◌≤◌, length, drop, ◌++◌}
use Rattle.upd546.specs.Sequences.{entries}
use Rattle.test_stream.specs.Streams.{pattern_at}
use Rattle.test_stream.proofs.digests.fill.Given as goal

abbrev pub invariant-loop-i : goal.invariant-loop-i
invariant-loop-i l = record {
  within : l.i ≤ length l.initial.bytes;
  filled : l.bytes ≡ entries l.i pattern_at ++ drop l.i l.initial.bytes;
}
