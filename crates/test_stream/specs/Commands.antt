-- What the bytes of a command say, what becomes of an answer, and which numbers are refusals. Assumes nothing: these are definitions.
use Rattle.std.specs.Prelude.{ℕ, Bool, cond, not, ◌||◌, eqb, List, slice_index}
use Rattle.test_stream.specs.Streams.{number_in}
use Rattle.test_stream.specs.declared.commands.Command.{Command}
use Rattle.test_stream.specs.declared.commands.Wanted.{Wanted}
use Rattle.test_stream.specs.declared.commands.Wanted.TheVariants.{Line, Group, List as Listed, Other}

-- the command of 24 bytes
abbrev pub command_in : List ℕ → Command
command_in head = record {
  letter = slice_index head 0;
  value = slice_index head 1;
  place = number_in head 2 2;
  length = number_in head 4 4;
  n = number_in head 8 8;
  runner = number_in head 16 8;
}

-- what becomes of a call's answer, by its command's value
unfoldable pub wanted_of : ℕ → Wanted
wanted_of value = cond (eqb value 0) Line (cond (eqb value 1) Group (cond (eqb value 2) Listed Other))

-- all numbers but those of a finish and of the stops
abbrev pub is_refused : ℕ → Bool
is_refused number = not (eqb number 0 || eqb number 3 || eqb number 22 || eqb number 23)
