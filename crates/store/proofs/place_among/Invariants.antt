-- Entry by entry, up to the first of that name. Assumes nothing.
use mathlib.Core.Path.{◌≡◌}
use Prim.Native.Nat.{◌+◌}
use Rattle.store.specs.Entries.{place_of, entries_in}
use Rattle.store.proofs.Entries.{from}
use Rattle.store.proofs.place_among.Given as goal

abbrev pub invariant-loop-i : goal.invariant-loop-i
invariant-loop-i l = l.i + place_of l.name (from l.i l.entries) ≡ place_of l.name (entries_in l.entries)
