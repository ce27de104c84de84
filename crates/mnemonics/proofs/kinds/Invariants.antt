-- After some turns the kinds of the codes passed stand there. Assumes nothing.
use mathlib.Core.Path.{◌≡◌}
use Prim.Native.Nat.{ℕ, ◌<◌}
use lib.ListN.{length, get_or}
use Rattle.mnemonics.specs.Mnemonics.{kind_of}
use Rattle.mnemonics.specs.Kinds.{kind_by}
use Rattle.mnemonics.specs.declared.Kind.TheVariants.{Without}
use Rattle.mnemonics.proofs.kinds.Given as goal

abbrev pub invariant-loop-code : goal.invariant-loop-code
invariant-loop-code l = (length l.kinds ≡ 256) × ((code : ℕ) → code < l.code → kind_by (get_or l.kinds code Without) ≡ kind_of code)
