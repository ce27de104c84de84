-- `half_for` takes the low half below code 80, and the high half from there on. Assumes nothing.
use mathlib.Core.Path.{◌≡◌, refl}
use mathlib.Core.Bool.{Bool, true, false, cond}
use Prim.Native.Nat.{ℕ, ◌*◌, ◌/◌, ◌%◌, ◌^◌, ◌<◌}
use native.Mathlib.Omega.{arith}
use lib.Dec.{ltb}
use borrow.Author.Tests.{ltb-true, ltb-false}
use Rattle.tables.specs.Tables.{half_for}
use Rattle.tables.proofs.half_for.Goals as goal

-- the half by a shift is the half by the code's place
shifted : (code entry : ℕ) → code < 256 → entry < 256 → (entry / 2 ^ (code / 128 * 4)) % 16 ≡ half_for code entry
unfolding half_for
shifted code entry h k = go (ltb code 128) refl
  where
    go : (t : Bool) → ltb code 128 ≡ t → (entry / 2 ^ (code / 128 * 4)) % 16 ≡ cond t (entry % 16) (entry / 16)
    go true e =
        let z : code / 128 * 4 ≡ 0 = omega (arith, ltb-true code 128 e) in
        rw z (omega arith)
    go false e =
        let z : code / 128 * 4 ≡ 4 = omega (arith, ltb-false code 128 e) in
        rw z (omega arith)

pub returns : goal.returns
returns c = shifted c.args.code c.args.entry (omega arith) (omega arith)
