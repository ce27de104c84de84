-- Entry by entry. Assumes nothing.
use mathlib.Core.Path.{◌≡◌}
use Prim.Native.Nat.{◌*◌, ◌≤◌}
use lib.ListN.{length}
use Rattle.panels.specs.Courses.{note_all}
use Rattle.bank_calls.specs.Entries.{entry_length, entries_of, needs_in}
use Rattle.bank_calls.proofs.Span.{span}
use Rattle.bank_calls.proofs.noted_all.Given as goal

abbrev pub invariant-loop-i : goal.invariant-loop-i
invariant-loop-i l =
    (l.i ≤ l.i-end)
    × (note_all l.course (needs_in (span l.bank l.i l.i-end)) ≡ note_all l.initial.course (needs_in (entries_of l.i-end l.bank)))
    × (entry_length * l.i-end ≤ length l.bank)
