-- Two pieces. Assumes nothing.
use native.Mathlib.Omega.{arith}
use mathlib.Core.Path.{◌∙◌, ap, ap₂}
use mathlib.Core.List.{List, ◌++◌}
use Prim.Native.Nat.{ℕ}
use lib.ListN.{length}
use Rattle.text.proofs.Writing.{told, then}
use Rattle.walk_text.proofs.Joined.{registers_length, interrupt_length}
use Rattle.walk_text.proofs.put_registers.Goals as goal

pub returns : goal.returns
returns c =
    let left = c.register_columns.ensures in
    let right = c.interrupt_columns.ensures in
    let eleven = ap length left ∙ registers_length c.args.s in
    let ten = ap length right ∙ interrupt_length c.args.s in (
      told (ap₂ (λ (x y : List ℕ). x ++ y) left right) (then c.push.ensures c.push-2.ensures),
      omega (arith, c.push.ensures.appended.ends, c.push-2.ensures.appended.ends, eleven, ten),
    )
