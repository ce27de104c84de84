-- The lines passed leave the ROM so far; the rest is still to be taken. Assumes nothing.
use mathlib.Core.Path.{◌≡◌}
use Prim.Native.Nat.{◌+◌}
use lib.ListN.{length, drop}
use Rattle.std.specs.List.{slice_split}
use Rattle.assembly.specs.Grammar.{is_newline, parsed_all}
use Rattle.assembly.specs.Assembling.{assembled_from}
use Rattle.assembler.specs.Answers.{lines_found, state_of}
use Rattle.assembler.proofs.Puts.{starting}
use Rattle.assembler.proofs.take_lines.Given as goal

abbrev pub invariant-loop-index : goal.invariant-loop-index
invariant-loop-index l =
    (goal.iterator-loop-index).can_next l.index-iterator × (goal.iterator-loop-index).is_finite l.index-iterator
    × (length l.cells ≡ length l.initial.cells)
    × (assembled_from (lines_found l.text) (length l.yielded + 1) (state_of l.place l.cells) (parsed_all (drop (length l.yielded) (slice_split is_newline l.text))) ≡ assembled_from (lines_found l.text) 1 (starting l.initial.cells) (lines_found l.text))
