-- What the theorems about waiting times have to say of a log and of a list of calls: a figure or a plain fact for each clause.
-- Assumes nothing: these are definitions.
use Rattle.std.specs.Prelude.{ℕ, ◌<◌, ◌≤◌, ◌≡◌, List, [], ◌∷◌, ◌++◌, length, take, replicate}
use Rattle.runs.specs.declared.Version.TheVariants.{One, Two}
use Rattle.runs.specs.Lists.{plain_one, skipping_one, Call, run, save, restore, run_answer}
use Rattle.runs.specs.TwoRunners.{save_answer, restore_answer}
use Rattle.upd546.specs.declared.State.{State}
use Rattle.upd546.specs.declared.Sheet.{Sheet}
use Rattle.upd546.specs.TheMachine.{fresh}
use Rattle.upd546.specs.TheSheet.{upd546_sheet}
use Rattle.upd546.specs.StateImage.{image_of}
use Rattle.upd546.specs.BenchCases.{rom_at}
use Rattle.upd546.specs.TwoRunners.{chip, upd546}
use Rattle.calls.specs.Call.{BoardCall, call_answer}
use Rattle.calls.specs.Lists.{call_logs}
use Rattle.waiting.specs.declared.Landing.{Landing}
use Rattle.waiting.specs.declared.Carried.{Carried}
use Rattle.waiting.specs.declared.Reading.{Reading}
use Rattle.waiting.specs.WaitingTimes.{no_waits, start_of_day, carried_after, record_here, carried_number, refused_with, waiting_times}
use Rattle.waiting.specs.EveryLog.{landing_of, waits_of}
use Rattle.waiting.specs.EveryList.{AllAccepted, carried_on, list_logs}
use Rattle.waits_text.specs.Parts.{no_parts, part_read, parts_read}

-- A LOG

-- a record of port F, of a cycle below 256
abbrev pub lamps_at : (cycle lamps : ℕ) → List ℕ
lamps_at n lamps = 0 ∷ 0 ∷ 0 ∷ 0 ∷ 0 ∷ n ∷ 5 ∷ lamps ∷ []

-- landing 0 calls at cycle 10, landing 1 at cycle 20; the car comes to landing 0 at cycle 60
abbrev pub calling : List ℕ
calling = lamps_at 10 1 ++ lamps_at 20 3

abbrev pub coming : List ℕ
coming = lamps_at 60 2

-- a record of port I with a value that its latch can't hold
abbrev pub wide : List ℕ
wide = 0 ∷ 0 ∷ 0 ∷ 0 ∷ 0 ∷ 60 ∷ 8 ∷ 8 ∷ []

-- the panel is reset at cycle 60, and landing 0 calls again at cycle 70
abbrev pub reset_at : ℕ → List ℕ
reset_at n = 0 ∷ 0 ∷ 0 ∷ 0 ∷ 0 ∷ n ∷ 0 ∷ 0 ∷ []

abbrev pub calling_again : List ℕ
calling_again = calling ++ reset_at 60 ++ lamps_at 70 1

-- port 0 with value 1
abbrev pub wrong_reset : List ℕ
wrong_reset = 0 ∷ 0 ∷ 0 ∷ 0 ∷ 0 ∷ 60 ∷ 0 ∷ 1 ∷ []

-- what is carried after the first of these records
abbrev pub called : Carried
called = carried_after start_of_day (record_here (lamps_at 10 1))

-- one closed wait of so many cycles
abbrev pub one_wait : ℕ → Landing
one_wait n = record { closed = 1; cycles = record { 0 = n }; longest = record { 0 = n }; mark = 0; start = record { 0 = 0 } }

-- a wait that is open since a cycle
abbrev pub open_since : ℕ → Landing
open_since n = record { closed = 0; cycles = record { 0 = 0 }; longest = record { 0 = 0 }; mark = 1; start = record { 0 = n } }

abbrev pub wanted : Reading
wanted = record {
  number = 0;
  carried = record { landings = one_wait 50 ∷ open_since 20 ∷ no_waits ∷ no_waits ∷ []; lamps = 2; last = record { 0 = 60 } };
}

-- A LIST OF CALLS

-- LDZ 5, LI 1, OP, LI 0, OP, and a code that is none: bit 0 of port F is lit in its third cycle and dark in its fifth
abbrev pub lamp_rom : List ℕ
lamp_rom = rom_at 0 (0x85 ∷ 0x91 ∷ 0x0E ∷ 0x90 ∷ 0x0E ∷ 0x1C ∷ [])

-- RES is high from cycle 0 on and low from cycle 4 on: the lamp is lit at cycle 2, the reset at cycle 3 darkens it, and the program
-- begins again at cycle 4
abbrev pub lamp_sched : List ℕ
lamp_sched = (0 ∷ 0 ∷ 0 ∷ 0 ∷ 0 ∷ 0 ∷ 0 ∷ 0 ∷ 1 ∷ 1 ∷ []) ++ (0 ∷ 0 ∷ 0 ∷ 0 ∷ 0 ∷ 4 ∷ 0 ∷ 0 ∷ 1 ∷ 0 ∷ [])

-- the power goes while the lamp is lit and RES is counted up to 3, and two calls are refused: version 1 can't hold the count
abbrev pub lit : State
lit = (run_answer upd546 plain_one lamp_rom lamp_sched fresh (replicate 48 7) 3).state

abbrev pub kept_lit : List ℕ
kept_lit = take 82 (save_answer upd546 Two lit (replicate 82 9)).buffer

abbrev pub lamp_calls : List (Call Sheet State)
lamp_calls =
    run plain_one lamp_rom lamp_sched fresh (replicate 48 7) 3 upd546_sheet
    ∷ save One lit (replicate 81 9) upd546_sheet
    ∷ save Two lit (replicate 82 9) upd546_sheet
    ∷ restore [] upd546_sheet
    ∷ restore kept_lit upd546_sheet
    ∷ run skipping_one lamp_rom lamp_sched (restore_answer upd546 kept_lit).state (replicate 144 0) 9 upd546_sheet
    ∷ []

-- the same by the board's call, on an image
abbrev pub lamp_call : (image log : List ℕ) → (n runner : ℕ) → BoardCall
lamp_call image log n runner = record {
  image = image;
  rom = lamp_rom;
  sched = lamp_sched;
  log = log;
  n = n;
  runner = runner;
  report = replicate 32 9;
  sheet = upd546_sheet;
}

abbrev pub first_lamp : BoardCall
first_lamp = lamp_call (image_of Two fresh) (replicate 48 7) 3 0

abbrev pub second_lamp : BoardCall
second_lamp = lamp_call (call_answer upd546 first_lamp).image (replicate 144 0) 9 1

abbrev pub lamp_board : List BoardCall
lamp_board = first_lamp ∷ lamp_call [] [] 1 0 ∷ second_lamp ∷ []

-- the wait that the reset closed, of one cycle, and one of two cycles behind it
abbrev pub two_waits : Landing
two_waits = record { closed = 2; cycles = record { 0 = 3 }; longest = record { 0 = 2 }; mark = 0; start = record { 0 = 0 } }

abbrev pub wanted_day : Carried
wanted_day = record { landings = two_waits ∷ no_waits ∷ no_waits ∷ no_waits ∷ []; lamps = 0; last = record { 0 = 8 } }

-- THE FIGURES

pub record WaitFigures : Type 0 where
  -- `EveryRiseIsAWait`: one lamp lit on landings 0 and 1 each, none on landings 2 and 3
  pub waits_0 : waits_of (waiting_times (calling ++ coming) start_of_day).carried 0 ≡ 1
  pub waits_1 : waits_of (waiting_times (calling ++ coming) start_of_day).carried 1 ≡ 1
  pub waits_2 : waits_of (waiting_times (calling ++ coming) start_of_day).carried 2 ≡ 0
  pub waits_3 : waits_of (waiting_times (calling ++ coming) start_of_day).carried 3 ≡ 0
  -- and a rise behind a reset
  pub waits_again : waits_of (waiting_times calling_again start_of_day).carried 0 ≡ 2
  -- `ResetClosesAllWaits`: of 50 cycles on landing 0, of 40 on landing 1
  pub reset_taken : (waiting_times (calling ++ reset_at 60) start_of_day).number ≡ 0
  pub reset_dark : (waiting_times (calling ++ reset_at 60) start_of_day).carried.lamps ≡ 0
  pub reset_last : (waiting_times (calling ++ reset_at 60) start_of_day).carried.last.0 ≡ 60
  pub reset_closed : (landing_of (waiting_times (calling ++ reset_at 60) start_of_day).carried 0).closed ≡ 1
  pub reset_cycles : (landing_of (waiting_times (calling ++ reset_at 60) start_of_day).carried 0).cycles.0 ≡ 50
  pub reset_longest : (landing_of (waiting_times (calling ++ reset_at 60) start_of_day).carried 1).longest.0 ≡ 40
  pub reset_none_open : (landing_of (waiting_times (calling ++ reset_at 60) start_of_day).carried 1).mark ≡ 0
  pub reset_no_start : (landing_of (waiting_times (calling ++ reset_at 60) start_of_day).carried 1).start.0 ≡ 0
  -- `ResetHasValueZero`
  pub reset_value : waiting_times (calling ++ wrong_reset) start_of_day ≡ refused_with 42
  -- `OnlyFiguresDraw41`, `ReadOnAsJoined`
  pub carried_on_is : carried_number [] (waiting_times calling start_of_day).carried ≡ 0
  pub read_on : waiting_times coming (waiting_times calling start_of_day).carried ≡ wanted
  -- `LastRecordCounts`, of a record that is accepted and of one that isn't
  pub last_counts : waiting_times (calling ++ coming) start_of_day ≡ wanted
  pub last_refused : waiting_times (calling ++ wide) start_of_day ≡ refused_with 42
  -- `carried_grown`, of the landing that calls and of a dark one
  pub grown_four : length called.landings ≡ 4
  pub grown_lamps : called.lamps < 16
  pub grown_closed : (landing_of called 0).closed ≤ 1
  pub grown_cycles : (landing_of called 0).cycles.0 ≤ 10
  pub grown_longest : (landing_of called 0).longest.0 ≤ 10
  pub grown_started : (landing_of called 0).start.0 ≤ 10
  pub grown_mark : (landing_of called 0).mark ≡ 1
  pub grown_dark : (landing_of called 1).start.0 ≡ 0
  -- `PartsReadAsOne`: a part that is sound, one that isn't, and a last one that is torn, by which 41 comes before 42
  pub in_parts : part_read (parts_read no_parts (calling ∷ [])) coming ≡ wanted
  pub parts_42 : part_read (parts_read no_parts (wide ∷ [])) coming ≡ refused_with 42
  pub parts_41 : part_read (parts_read no_parts (wide ∷ [])) (take 5 coming) ≡ refused_with 41
  -- `EveryListReportsAsOneRun`: the wait that the power cut falls into is there, as long as the reset made it, and the next one too
  pub accepted : AllAccepted start_of_day (list_logs chip lamp_calls)
  pub day : carried_on start_of_day (list_logs chip lamp_calls) ≡ wanted_day
  -- `EveryListOfCallsReportsAsOneRun`: the same of what the board gets
  pub board_accepted : AllAccepted start_of_day (call_logs chip (first_lamp ∷ second_lamp ∷ []))
  pub board_day : carried_on start_of_day (call_logs chip (first_lamp ∷ second_lamp ∷ [])) ≡ wanted_day
