-- There is a colon, or none. Assumes nothing.
use mathlib.Core.Path.{◌∙◌}
use Prim.Native.Nat.{◌+◌}
use Rattle.std.proofs.Common.{rules, tests}
use Rattle.std.proofs.lemmas.Iterator.{YieldsList-from_slice}
use Rattle.std.proofs.lemmas.Iterator.Search.{position_from_yields_List}
use Rattle.assembly.specs.Grammar.{is_colon}
use Rattle.assembly.proofs.Parts.{found_some, found_none, take_rest, front_there, front_none, statement_there, statement_none}
use Rattle.assembly.proofs.halves.Goals as goal

pub returns-in-Some : goal.returns-in-Some
returns-in-Some c =
    let line = c.args.line.now in
    let told = c.told-told.result.now in
    let place = position_from_yields_List is_colon _ _ _ c.position.ensures.ran (YieldsList-from_slice told cc) (λ x b q k. search (rules, tests)) in
    let colon = found_some is_colon told place c.in-Some.is in (
      front_there line c.told-told.ensures colon.0 colon.1,
      take_rest (c.in-Some.colon + 1) told ∙ statement_there line c.told-told.ensures colon.0 colon.1,
    )

pub returns-in-None : goal.returns-in-None
returns-in-None c =
    let line = c.args.line.now in
    let told = c.told-told.result.now in
    let place = position_from_yields_List is_colon _ _ _ c.position.ensures.ran (YieldsList-from_slice told cc) (λ x b q k. search (rules, tests)) in
    let none = found_none is_colon told place c.in-None.is in
    (front_none line c.told-told.ensures none, statement_none line c.told-told.ensures none)
