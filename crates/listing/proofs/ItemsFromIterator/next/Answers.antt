-- The item at the address comes first, and those behind it are left. Assumes nothing.
use mathlib.Core.Path.{◌∙◌, sym, ap}
use mathlib.Core.List.{List, ◌∷◌}
use Prim.Native.Nat.{ℕ, ◌+◌}
use native.Mathlib.Omega.{arith}
use lib.ListN.{length}
use borrow.Author.Rules.{rules}
use Rattle.listing.specs.Listing.{Item}
use Rattle.listing.specs.Listed.{item_by}
use Rattle.listing.proofs.Items.{from, step, next_item, no_items}
use Rattle.listing.proofs.ItemsFromIterator.next.Goals as goal

pub returns-then-self-clause-steps : goal.returns-then-self-clause-steps
returns-then-self-clause-steps c =
    let s = c.args.self.now in
    let none = no_items s.rom.bytes.now s.at c.if-self.true in
    (none, none)

steps : goal.returns-clause-steps
steps c =
    let s = c.args.self.now in
    let rom = s.rom.bytes.now in
    next_item rom s.at c.if-self.false
    ∙ ap (λ (i : Item). i ∷ from rom (s.at + step rom i)) (sym c.item_at-item.ensures)
    ∙ ap (λ (k : ℕ). item_by c.item_at-item.result ∷ from rom (s.at + k)) (sym c.size.ensures.0)

pub returns-clause-steps : goal.returns-clause-steps
returns-clause-steps c = steps c

pub returns-clause-goes : goal.returns-clause-goes
returns-clause-goes c =
    let fewer = ap (λ (is : List Item). length is) (steps c) in
    record { on = λ f. (tt, search rules, omega (arith, fewer)); keeps = tt; rests = λ f. tt }
