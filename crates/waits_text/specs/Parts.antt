-- A log read in parts, the report carried on. Assumes nothing: these are definitions.
use Rattle.std.specs.Prelude.{ℕ, zero, suc, ◌%◌, ◌<◌, ◌^◌, ◌≡◌, Bool, true, false, List, [], ◌∷◌, ◌++◌, eqb, length}
use Rattle.runs.specs.Laws.{Bytes}
use Rattle.upd546.specs.Ports.{log_record_length}
use Rattle.waiting.specs.declared.Reading.{Reading}
use Rattle.waiting.specs.WaitingTimes.{start_of_day, waiting_times, refused_with}

-- before the first part
abbrev pub no_parts : Reading
no_parts = record { number = 0; carried = start_of_day }

-- "41 the length is no multiple of 8" comes first, also where an earlier part holds a 42
abbrev pub on_whole : Bool → ℕ → Reading → List ℕ → Reading
on_whole false k before part = refused_with 41
on_whole true zero before part = waiting_times part before.carried
on_whole true (suc k) before part = before

-- one part more: a part that isn't whole records ends the log
unfoldable pub part_read : Reading → List ℕ → Reading
part_read before part = on_whole (eqb (length part % log_record_length) 0) before.number before part

abbrev pub parts_read : Reading → List (List ℕ) → Reading
parts_read before [] = before
parts_read before (p ∷ ps) = parts_read (part_read before p) ps

-- the parts of a log: each of whole records, and a last one of any length
abbrev pub joined_parts : List (List ℕ) → List ℕ → List ℕ
joined_parts [] end = end
joined_parts (p ∷ ps) end = p ++ joined_parts ps end

abbrev pub WholeParts : List (List ℕ) → Type 0
WholeParts [] = Unit {0}
WholeParts (p ∷ ps) = (length p % log_record_length ≡ 0) × WholeParts ps

-- a log of up to 2^63 bytes, read in parts from the start of a day, gives the reading of the whole log
abbrev pub PartsReadAsOne : Type 0
PartsReadAsOne =
    (ps : List (List ℕ)) (end : List ℕ) → WholeParts ps → Bytes (joined_parts ps end) → length (joined_parts ps end) < 2 ^ 63
    → part_read (parts_read no_parts ps) end ≡ waiting_times (joined_parts ps end) start_of_day
