-- Entry by entry, each name looked for among those behind it. Assumes nothing.
use mathlib.Core.Path.{◌∙◌, refl, sym, ap}
use Prim.Native.Nat.{◌+◌}
use native.Mathlib.Omega.{arith}
use Rattle.std.proofs.lemmas.List.{take_rest}
use Rattle.store.specs.Entries.{distinct}
use Rattle.store.proofs.Entries.{from_none, once, twice}
use Rattle.store.proofs.names_differ.Goals as goal

pub returns-then-place_among-later : goal.returns-then-place_among-later
returns-then-place_among-later c =
    twice c.args.entries.now c.loop-i.i _ c.loop-i-test.true refl _ (take_rest c.args.entries.now (c.loop-i.i + 1)) _ c.place_among.ensures c.if-place_among-later.true
    ∙ c.loop-i.invariant

pub loop-i-preserved : goal.loop-i-preserved
loop-i-preserved c =
    let differs = once c.args.entries.now c.loop-i.i _ c.loop-i-test.true refl _ (take_rest c.args.entries.now (c.loop-i.i + 1)) _ c.place_among.ensures c.if-place_among-later.false in
    differs ∙ c.loop-i.invariant

pub returns : goal.returns
returns c = sym (ap distinct (from_none c.args.entries.now c.loop-i.i (omega (arith, c.loop-i-test.false)))) ∙ c.loop-i.invariant
