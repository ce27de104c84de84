-- What a line comes to for program `load`. Assumes nothing: these are definitions.
use Rattle.std.specs.Prelude.{ℕ, zero, suc, ◌*◌, List, Option, Some, None, Result, Ok, Err}
use Rattle.upd546.specs.TheMachine.{rom_length}
use Rattle.upd546.specs.TheLineSchedule.{record_length}
use Rattle.generator.specs.declared.Unmade.{Unmade}
use Rattle.generator.specs.Loads.{Made, made_number, rom_made, schedule_made}
use Rattle.load_line.specs.declared.Command.{Command}
use Rattle.load_line.specs.declared.Command.TheVariants.{Rom, Schedule}

-- what is told of a line, and the lent space as it stands then: so many bytes, or the number that refuses them; nothing where the line
-- asks for neither
pub record LoadAnswer : Type 0 where
  pub load : Option (Result ℕ ℕ)
  pub space : List ℕ

abbrev pub told_as : (bytes number : ℕ) → Result ℕ ℕ
told_as bytes zero = Ok bytes
told_as bytes (suc k) = Err (suc k)

abbrev pub made_of : (bytes : ℕ) → Made → LoadAnswer
made_of bytes made = record { load = Some (told_as bytes made.number); space = made.buffer }

-- THE LOAD OF A COMMAND, into a space
unfoldable pub load_of : Option Command → List ℕ → LoadAnswer
load_of (Some (Rom seed)) space = made_of rom_length (rom_made seed space)
load_of (Some (Schedule seed m)) space = made_of (record_length * m) (schedule_made seed m space)
load_of None space = record { load = None; space = space }

-- what isn't made, by its number
abbrev pub by_number : Result ℕ Unmade → Result ℕ ℕ
by_number (Ok bytes) = Ok bytes
by_number (Err why) = Err (made_number (Err why))
