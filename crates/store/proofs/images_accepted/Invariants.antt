-- Entry by entry. Assumes nothing.
use mathlib.Core.Path.{◌≡◌}
use Rattle.upd546.specs.TwoRunners.{chip}
use Rattle.store.specs.Entries.{entries_in, all_accepted}
use Rattle.store.proofs.Entries.{from}
use Rattle.store.proofs.images_accepted.Given as goal

abbrev pub invariant-loop-entry : goal.invariant-loop-entry
invariant-loop-entry l =
    all_accepted (chip l.sheet) (from l.entry-index l.entries) ≡ all_accepted (chip l.sheet) (entries_in l.entries)
