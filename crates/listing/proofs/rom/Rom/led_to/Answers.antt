-- Every item is asked. Assumes nothing.
use mathlib.Core.Path.{◌∙◌}
use mathlib.Core.Bool.{◌&&◌}
use lib.Dec.{eqb}
use Rattle.std.proofs.Common.{rules, tests}
use Rattle.std.proofs.lemmas.Iterator.Consumers.{YieldsList-from_first}
use Rattle.std.proofs.lemmas.Iterator.Search.{any_from_yields_List}
use Rattle.mnemonics.specs.Mnemonics.{leads_for}
use Rattle.listing.specs.Listing.{Item, target, items_of}
use Rattle.listing.specs.Listed.{item_by, items_left}
use Rattle.listing.proofs.Items.{led_is}
use Rattle.listing.proofs.rom.Rom.led_to.Goals as goal

pub returns : goal.returns
returns c =
    let a = c.args in
    any_from_yields_List (λ (i : Item). leads_for i.kind && eqb (target i) a.to) c.any.new.self _ _ c.any.ensures.ran
    (YieldsList-from_first item_by items_left (items_of a.self.bytes.now) c.items.ensures.1) (λ x b q k. search (rules, tests))
    ∙ led_is (items_of a.self.bytes.now) a.to
