-- Base cycles are 0 to 2. Assumes nothing.
use mathlib.Core.Path.{◌≡◌, ap}
use Prim.Native.Nat.{◌+◌}
use native.Mathlib.Omega.{arith}
use Rattle.tables.specs.declared.Size.{Size}
use Rattle.upd546.specs.Instructions.{instruction}
use Rattle.tables.specs.Tables.{size_of}
use Rattle.listing.proofs.Lines.{few_cycles}
use borrow.Author.Rules.{rules}
use Rattle.listing.proofs.rom.Rom.cycles_shown.Goals as goal

pub overflow_add-result : goal.overflow_add-result
unfolding size_of
overflow_add-result c =
    let code = c.args.code in
    let same : c.size_of-size.result.cycles ≡ (instruction code).cycles = ap (λ (s : Size). s.cycles) c.size_of-size.ensures in
    omega (arith, same, few_cycles code (search rules))

pub returns : goal.returns
unfolding size_of
returns c = ap (λ (s : Size). 48 + s.cycles) c.size_of-size.ensures
