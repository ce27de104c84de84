-- Entry by entry, each name looked for among those behind it. Assumes nothing.
use mathlib.Core.Path.{◌≡◌}
use Rattle.store.specs.Entries.{distinct, entries_in}
use Rattle.store.proofs.Entries.{from}
use Rattle.store.proofs.names_differ.Given as goal

abbrev pub invariant-loop-i : goal.invariant-loop-i
invariant-loop-i l = distinct (from l.i l.entries) ≡ distinct (entries_in l.entries)
