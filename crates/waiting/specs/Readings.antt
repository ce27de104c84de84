-- What the code's results say: of one record, and of a log as a reading. Assumes nothing: these are definitions.
use Rattle.std.specs.Prelude.{◌≡◌, false, true, Result, Ok, Err}
use Rattle.waiting.specs.declared.Carried.{Carried}
use Rattle.waiting.specs.declared.LogRecord.{LogRecord}
use Rattle.waiting.specs.declared.Reading.{Reading}
use Rattle.waiting.specs.declared.LogRefusal.{LogRefusal}
use Rattle.waiting.specs.declared.LogRefusal.TheVariants.{Whole, Record}
use Rattle.waiting.specs.WaitingTimes.{carried_after, record_sound, refused_with}

-- what is carried after a record that is accepted, or its refusal
abbrev pub IsCarriedOn : Carried → LogRecord → Result Carried LogRefusal → Type 0
IsCarriedOn c r (Ok d) = (record_sound c.last.0 r ≡ true) × (d ≡ carried_after c r)
IsCarriedOn c r (Err e) = (record_sound c.last.0 r ≡ false) × (e ≡ Record)

-- "Errors, which answer all zeros"
abbrev pub reading_of : Result Carried LogRefusal → Reading
reading_of (Ok c) = record { number = 0; carried = c }
reading_of (Err Whole) = refused_with 41
reading_of (Err Record) = refused_with 42
