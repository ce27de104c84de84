-- After some turns the lines of the items passed stand there. Assumes nothing.
use mathlib.Core.Path.{◌∙◌, ap}
use mathlib.Core.Bool.{false}
use mathlib.Core.List.{List}
use native.Mathlib.Omega.{arith}
use lib.ListN.{length}
use Rattle.listing.specs.Listing.{Item, items_of}
use Rattle.listing.specs.Listed.{items_left}
use Rattle.listing.proofs.Items.{few_items}
use Rattle.listing.proofs.Turns.{none_yet, one_more, all_there}
use Rattle.listing.proofs.put_lines.Goals as goal

pub loop-item-init : goal.loop-item-init
loop-item-init c =
    let rom = c.args.rom.bytes.now in
    let same = c.into_iter-item-iterator.ensures.into_iter_gives in
    let left = ap items_left same ∙ c.items-item-items.ensures.1 in
    let count = ap (λ (is : List Item). length is) left in
    (tt, none_yet (items_of rom) c.args.text.now left, omega (arith, count, few_items false 0 rom))

pub loop-item-preserved : goal.loop-item-preserved
loop-item-preserved c =
    let before = c.loop-item.invariant in
    let next = c.in-Some.ensures.steps in
    let count = ap (λ (is : List Item). length is) next in
    let line = c.put_line.ensures in
    (tt, one_more (items_of c.args.rom.bytes.now) next before.1 line.0, omega (arith, count, line.1, before.2))

pub put_line-requires : goal.put_line-requires
put_line-requires c =
    let before = c.loop-item.invariant in
    let count = ap (λ (is : List Item). length is) c.in-Some.ensures.steps in
    omega (arith, count, before.2, before.1.stands.same_size, c.requires)

pub returns : goal.returns
returns c = all_there (items_of c.args.rom.bytes.now) c.in-None.ensures.steps.0 c.loop-item.invariant.1
