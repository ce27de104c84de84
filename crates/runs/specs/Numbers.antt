-- Document 01, "Numbers, by whose hand": the number of each case of an answer. Assumes nothing: these are definitions.
use Rattle.std.specs.Prelude.{ℕ, Bool, ◌||◌, Result, Ok, Err, eqb}
use Rattle.runs.specs.declared.Stop.{Stop}
use Rattle.runs.specs.declared.Stop.TheVariants.{LogFull, RomEnd, NoInstruction}
use Rattle.runs.specs.declared.Refusal.{Refusal}
use Rattle.runs.specs.declared.Refusal.TheVariants.{BufferShort, CycleLimit, ScheduleLength, ScheduleLong, RecordBytes, RecordOrder, RomLength, ImageLength, ImageMark, ImageVersion, Field, StoreMalformed, NameUnknown, StoreFull, ResetCount, Sheet}
use Rattle.runs.specs.declared.RunEnd.{RunEnd}
use Rattle.runs.specs.declared.RunEnd.TheVariants.{Finished, Stopped, Refused}
use Rattle.runs.specs.TwoRunners.{End, finished, stopped, refused}

-- "3 the log lacks the 8 or 16 bytes of the next instruction", or the 8 of a reset's record: "stop 3 covers it" (R-8);
-- "22 a byte above 7CF is needed"; "23 code 1C or 45 due"
abbrev pub stop_number : Stop → ℕ
stop_number LogFull = 3
stop_number RomEnd = 22
stop_number NoInstruction = 23

-- "22, 23 and 3, in that order .. are stops": whether a number is a stop's
abbrev pub is_stop : ℕ → Bool
is_stop k = eqb k 3 || eqb k 22 || eqb k 23

-- "1 image buffer under 81 bytes; 2 cycle number + n above 2^48 - 1";
-- "12 over 40,960 bytes; 11 length no multiple of 10; then by record 13 bad INT or last byte, 14 cycle not above the last";
-- "21 not 2,000 bytes"; "31 length not 81; 32 bytes 0 to 2; 33 version; 34 a field, also in a state given as a value";
-- R-8: "The schedule's tenth byte becomes RES, 0 or 1, .. and 13 is amended so"; "31 is now a length of neither 81 nor 82, 33 a
-- version that doesn't go with the length, 1 a buffer under the version's length"; "54, in a save between 34 and 1, a version 1
-- image wanted while the count isn't 0"; R-7: "in this order 51 the store (a name twice included) or an image is malformed, as a
-- restore judges it, or the name isn't eight bytes or is zero; 52 no such name to recall; 53 no unused entry for a new name"; R-11:
-- "71, before all else but R-3's report under 32 bytes, a sheet outside these limits"
abbrev pub refusal_number : Refusal → ℕ
refusal_number BufferShort = 1
refusal_number CycleLimit = 2
refusal_number ScheduleLength = 11
refusal_number ScheduleLong = 12
refusal_number RecordBytes = 13
refusal_number RecordOrder = 14
refusal_number RomLength = 21
refusal_number ImageLength = 31
refusal_number ImageMark = 32
refusal_number ImageVersion = 33
refusal_number Field = 34
refusal_number StoreMalformed = 51
refusal_number NameUnknown = 52
refusal_number StoreFull = 53
refusal_number ResetCount = 54
refusal_number Sheet = 71

-- "unless it finished n, its number"; 0 stands for a finish
abbrev pub end_number : RunEnd → ℕ
end_number Finished = 0
end_number (Stopped s) = stop_number s
end_number (Refused r) = refusal_number r

-- what a check, a save or a restore answers; 0 where nothing refuses it
abbrev pub outcome_number : Result (Unit {0}) Refusal → ℕ
outcome_number (Ok u) = 0
outcome_number (Err r) = refusal_number r

-- How a run ended, as the definitions of the two runners say it.
abbrev pub end_of : RunEnd → End
end_of Finished = finished
end_of (Stopped s) = stopped (stop_number s)
end_of (Refused r) = refused (refusal_number r)
