-- The code of the turn has its kind, and those passed keep theirs. Assumes nothing.
use mathlib.Core.Path.{◌∙◌, sym, ap}
use mathlib.Core.Logic.{⊎_elim}
use Prim.Native.Nat.{◌<◌}
use native.Mathlib.Nat.{eq-or-lt_of_le}
use native.Mathlib.Omega.{arith}
use lib.ListN.{length, length-set}
use Rattle.std.proofs.lemmas.List.{get_or-set_other}
use Rattle.std.proofs.lemmas.Grind.{get_or-set_at}
use Rattle.mnemonics.specs.Mnemonics.{kind_of}
use Rattle.mnemonics.specs.Kinds.{kind_by}
use Rattle.mnemonics.specs.declared.Kind.TheVariants.{Without}
use Rattle.mnemonics.proofs.kinds.Goals as goal

pub loop-code-preserved : goal.loop-code-preserved
loop-code-preserved c =
    let kinds = c.loop-code.kinds in
    let i = c.loop-code.code in
    let kind = c.entry.result.kind in
    let (long, passed) = c.loop-code.invariant in
    let inside : i < length kinds = omega (arith, long, c.loop-code-test.true) in (
      length-set kinds i kind ∙ long,
      λ code below.
          ⊎_elim (λ e. ap kind_by (get_or-set_at kinds i code kind Without e inside) ∙ c.entry.ensures.kind ∙ ap kind_of (sym e))
          (λ l. ap kind_by (get_or-set_other kinds i code kind Without (λ e. omega (arith, l, e))) ∙ passed code l)
          (eq-or-lt_of_le (omega (arith, below))),
    )
