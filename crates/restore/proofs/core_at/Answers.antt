-- The fields of the core, byte by byte. Assumes nothing.
use mathlib.Core.Path.{◌≡◌}
use Prim.Native.Nat.{◌/◌}
use native.Mathlib.Omega.{arith}
use lib.ListN.{get_or}
use Rattle.upd546.specs.StateImage.{flags_at, of_image}
use Rattle.restore.specs.Head.{core_of}
use Rattle.restore.proofs.core_at.Goals as goal

pub returns : goal.returns
unfolding core_of of_image
returns c =
    let flags = get_or c.args.bytes.now flags_at 0 in
    let one : flags / 1 ≡ flags = omega arith in
    rw (
      c.word_at-4.ensures,
      c.word_at-3.ensures,
      c.word_at-2.ensures,
      c.word_at.ensures,
      one,
    )
