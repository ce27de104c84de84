-- The letters up to the place. Assumes nothing.
use mathlib.Core.Path.{◌∙◌, ap}
use Prim.Native.Nat.{ℕ}
use lib.ListN.{take}
use Rattle.std.proofs.Common.{rules, tests}
use Rattle.std.proofs.lemmas.Iterator.{YieldsList-from_slice}
use Rattle.std.proofs.lemmas.Iterator.Search.{position_from_yields_List}
use Rattle.assembly.specs.Grammar.{is_semicolon}
use Rattle.assembly.proofs.Parts.{found, take-before}
use Rattle.assembly.proofs.told.Goals as goal

pub returns : goal.returns
returns c =
    let line = c.args.line.now in
    let place = position_from_yields_List is_semicolon _ _ _ c.position.ensures.ran (YieldsList-from_slice line cc) (λ x b q k. search (rules, tests)) in
    ap (λ (k : ℕ). take k line) (found is_semicolon line place c.unwrap_or-to.ensures) ∙ take-before is_semicolon line
