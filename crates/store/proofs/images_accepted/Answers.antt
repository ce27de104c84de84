-- Entry by entry. Assumes nothing.
use mathlib.Core.Path.{◌∙◌, refl, sym, ap}
use mathlib.Core.List.{[]}
use native.Mathlib.Omega.{arith}
use lib.ListN.{get_or, drop, length-drop}
use lib.Seq.{take_all}
use Rattle.upd546.specs.TwoRunners.{chip}
use Rattle.store.specs.Entries.{all_accepted}
use Rattle.store.proofs.Entries.{from_none, accepted_next, accepted_not}
use Rattle.store.proofs.images_accepted.Goals as goal

pub returns-then-not-is_accepted : goal.returns-then-not-is_accepted
returns-then-not-is_accepted c =
    let i = c.loop-entry.entry-index in
    let image = take_all 82 (drop 8 (get_or c.args.entries.now i [])) (omega (arith, length-drop 8 (get_or c.args.entries.now i []), c.told-entries i c.loop-entry-test.true)) in
    accepted_not c.args.entries.now i _ c.loop-entry-test.true refl (chip c.args.sheet)
    (sym (rw image at c.is_accepted.ensures) ∙ c.if-not-is_accepted.true)
    ∙ c.loop-entry.invariant

pub loop-entry-preserved : goal.loop-entry-preserved
loop-entry-preserved c =
    let i = c.loop-entry.entry-index in
    let image = take_all 82 (drop 8 (get_or c.args.entries.now i [])) (omega (arith, length-drop 8 (get_or c.args.entries.now i []), c.told-entries i c.loop-entry-test.true)) in
    let taken = accepted_next c.args.entries.now i _ c.loop-entry-test.true refl (chip c.args.sheet)
    (sym (rw image at c.is_accepted.ensures) ∙ c.if-not-is_accepted.false) in
    taken ∙ c.loop-entry.invariant

pub returns : goal.returns
returns c =
    sym (ap (all_accepted (chip c.args.sheet)) (from_none c.args.entries.now c.loop-entry.entry-index (omega (arith, c.loop-entry-test.false)))) ∙ c.loop-entry.invariant
