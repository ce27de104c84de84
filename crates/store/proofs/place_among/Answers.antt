-- Entry by entry, up to the first of that name. Assumes nothing.
use mathlib.Core.Path.{◌∙◌, refl, sym, ap}
use native.Mathlib.Omega.{arith}
use Rattle.store.specs.Entries.{place_of}
use Rattle.store.proofs.Entries.{from_none, place_here, place_next}
use Rattle.store.proofs.place_among.Goals as goal

pub returns-then-has_name : goal.returns-then-has_name
returns-then-has_name c =
    let name = c.args.name.now in
    let here = place_here _ c.loop-i.i _ c.loop-i-test.true refl name (sym c.has_name.ensures ∙ c.if-has_name.true) in
    omega (arith, here, c.loop-i.invariant)

pub loop-i-preserved : goal.loop-i-preserved
loop-i-preserved c =
    let name = c.args.name.now in
    let next = place_next _ c.loop-i.i _ c.loop-i-test.true refl name (sym c.has_name.ensures ∙ c.if-has_name.false) in
    omega (arith, next, c.loop-i.invariant)

pub returns : goal.returns
returns c =
    let none = ap (place_of c.args.name.now) (from_none c.args.entries.now c.loop-i.i (omega (arith, c.loop-i-test.false))) in
    omega (arith, none, c.loop-i.invariant)
