-- Entry by entry, up to the first zero name. Assumes nothing.
use mathlib.Core.Path.{◌≡◌}
use Prim.Native.Nat.{◌+◌}
use lib.ListN.{length}
use Rattle.store.specs.Entries.{used_of, entries_in}
use Rattle.store.proofs.Entries.{from}
use Rattle.store.proofs.used_entries.Given as goal

abbrev pub invariant-loop-i : goal.invariant-loop-i
invariant-loop-i l = l.i + length (used_of (from l.i l.entries)) ≡ length (used_of (entries_in l.entries))
