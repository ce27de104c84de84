-- The lines passed have another label. Assumes nothing.
use mathlib.Core.Path.{◌≡◌}
use Prim.Native.Nat.{◌+◌, ◌≤◌}
use lib.ListN.{length, drop}
use Rattle.std.specs.List.{slice_split}
use Rattle.assembly.specs.Grammar.{is_newline, parsed_all}
use Rattle.assembly.specs.Assembling.{place_from}
use Rattle.assembler.specs.Answers.{lines_found}
use Rattle.assembler.proofs.Lines.{reach}
use Rattle.assembler.proofs.place_of.Given as goal

abbrev pub invariant-loop-part : goal.invariant-loop-part
invariant-loop-part l =
    (goal.iterator-loop-part).can_next l.part-iterator × (goal.iterator-loop-part).is_finite l.part-iterator
    × (l.at + reach (drop (length l.yielded) (slice_split is_newline l.text)) ≤ 2047 + reach (slice_split is_newline l.text))
    × (place_from l.name l.at (parsed_all (drop (length l.yielded) (slice_split is_newline l.text))) ≡ place_from l.name 0 (lines_found l.text))
