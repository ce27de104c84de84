-- Six lines. Assumes nothing.
use native.Mathlib.Omega.{arith}
use Rattle.text.proofs.Writing.{told, then}
use Rattle.walk_text.proofs.Joined.{changes_same}
use Rattle.walk_text.proofs.put_changes.Goals as goal

pub returns : goal.returns
returns c =
    let a = c.put_change.ensures in
    let b = c.put_change-2.ensures in
    let c₁ = c.put_change-3.ensures in
    let d = c.put_change-4.ensures in
    let i = c.put_change-5.ensures in
    let r = c.put_change-6.ensures in (
      told (changes_same c.args.last c.args.new) (then (then (then (then (then a.0 b.0) c₁.0) d.0) i.0) r.0),
      omega (arith, a.1, b.1, c₁.1, d.1, i.1, r.1),
    )
