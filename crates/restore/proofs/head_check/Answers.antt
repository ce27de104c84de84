-- 31, 32, 33, and 34 of the flags. Assumes nothing.
use mathlib.Core.Path.{◌∙◌, sym}
use mathlib.Core.List.{List}
use Prim.Native.Nat.{ℕ}
use native.Mathlib.Omega.{arith}
use Rattle.runs.specs.declared.Version.{Version}
use Rattle.restore.proofs.Reading.{by_length, by_mark, by_version, by_flags, by_none}
use Rattle.std.proofs.lemmas.Grind.{common_steps}
use Rattle.restore.proofs.head_check.Goals as goal
use Rattle.restore.proofs.head_check.Goals.{Then-bytes-image_length}

-- the image, and the version that goes with its length
abbrev image : Then-bytes-image_length → List ℕ
image c = c.args.bytes.now

abbrev version : Then-bytes-image_length → Version
version c = c.version_of-version.result

pub returns-then-bytes-image_length : goal.returns-then-bytes-image_length
returns-then-bytes-image_length c =
    by_length (image c) (version c) c.version_of-version.ensures
    (λ e. c.if-bytes-image_length.true (e ∙ sym c.image_length.ensures))

pub returns-then-not-stands_at : goal.returns-then-not-stands_at
returns-then-not-stands_at c = grind (arith, common_steps, by_mark)

pub returns-then-not-stands_at-2 : goal.returns-then-not-stands_at-2
returns-then-not-stands_at-2 c = grind (arith, common_steps, by_version)

pub returns-then-bytes-ge-FLAGS : goal.returns-then-bytes-ge-FLAGS
returns-then-bytes-ge-FLAGS c = grind (arith, common_steps, by_flags)

pub returns : goal.returns
returns c = grind (arith, common_steps, by_none)
