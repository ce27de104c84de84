-- The digest of the bytes passed, with those to come, is the digest of all; it stays below its modulus. Assumes nothing.
use Rattle.std.proofs.Common.{◌≡◌, ◌%◌, ◌<◌, drop}
use Rattle.test_stream.specs.Streams.{digest_from}
use Rattle.test_stream.proofs.digests.digest.Given as goal

abbrev pub invariant-loop-x : goal.invariant-loop-x
invariant-loop-x l = record {
  small : l.d < 1000000007;
  rest : digest_from l.d (drop l.x-index l.bytes) ≡ digest_from (l.h % 1000000007) l.bytes;
}
