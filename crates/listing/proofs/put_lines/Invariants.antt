-- After some turns the lines of the items passed stand there. Assumes nothing.
use Prim.Native.Nat.{◌+◌, ◌*◌, ◌≤◌}
use lib.ListN.{length}
use Rattle.listing.specs.Listing.{items_of}
use Rattle.listing.specs.Listed.{items_left}
use Rattle.listing.proofs.Turns.{Begun}
use Rattle.listing.proofs.put_lines.Given as goal

abbrev pub invariant-loop-item : goal.invariant-loop-item
invariant-loop-item l =
    (goal.iterator-loop-item).is_finite l.item-iterator
    × Begun (items_of l.rom.bytes.now) (items_left l.item-iterator) l.fn.text l.text
    × (l.text.size + 48 * length (items_left l.item-iterator) ≤ l.fn.text.size + 48 * length l.rom.bytes.now)
