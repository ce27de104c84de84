-- Entry by entry: what the first i left, and what the others will leave. Assumes nothing.
use mathlib.Core.Path.{◌≡◌}
use Prim.Native.Nat.{◌*◌, ◌≤◌}
use lib.ListN.{length}
use Rattle.upd546.specs.TwoRunners.{chip}
use Rattle.bank_calls.specs.Entries.{entry_length, entries_of}
use Rattle.bank_calls.specs.InTurn.{Within, in_turn}
use Rattle.bank_calls.proofs.Turning.{left}
use Rattle.bank_calls.proofs.serve.Given as goal

abbrev pub invariant-loop-i : goal.invariant-loop-i
invariant-loop-i l =
    (l.i ≤ l.i-end)
    × (entry_length * l.i-end ≡ length l.initial.bank)
    × (length l.bank ≡ length l.initial.bank)
    × (length l.logs ≡ length l.initial.logs)
    × Within l.course l.roms l.schedules l.logs
    × (left chip l.sheet l.roms l.schedules l.bank l.logs l.course l.i l.i-end ≡ in_turn chip l.sheet l.roms l.schedules l.initial.logs l.initial.course (entries_of l.i-end l.initial.bank))
