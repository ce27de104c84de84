-- A list of calls that demand 3 means, over a reset, with images of both versions and refused calls among them, and what its theorem
-- has to say of it: a figure or a plain fact for each clause. Assumes nothing: these are definitions.
use Rattle.std.specs.Prelude.{ℕ, ◌≡◌, List, [], ◌∷◌, ◌++◌, map, take, replicate}
use Rattle.runs.specs.declared.Version.TheVariants.{One, Two}
use Rattle.runs.specs.TwoRunners.{RunAnswer, stopped, refused, save_answer, restore_answer}
use Rattle.runs.specs.Lists.{Kind, plain_one, skipping_one, Call, run, save, restore, Each, run_answer, refusal, last, WrittenBy}
use Rattle.runs.specs.Lists.{final_image, runs, run_log, joined_log, cycle_total, begun_total, clock_total, AllFinish}
use Rattle.upd546.specs.declared.State.{State}
use Rattle.upd546.specs.declared.Sheet.{Sheet}
use Rattle.upd546.specs.TheMachine.{fresh}
use Rattle.upd546.specs.TheSheet.{upd546_sheet}
use Rattle.upd546.specs.BenchCases.{rom_at}
use Rattle.upd546.specs.TwoRunners.{chip, upd546}

-- document 01's example: OCD A5, LI 3, OE, and a code that is none
abbrev pub rom : List ℕ
rom = rom_at 0 (0x1E ∷ 0xA5 ∷ 0x93 ∷ 0x44 ∷ 0x1C ∷ [])

-- RES is high from cycle 1 on and low from cycle 6 on: cycle 4 is the first reset cycle, and at cycle 6 the program begins again
abbrev pub sched : List ℕ
sched = (0 ∷ 0 ∷ 0 ∷ 0 ∷ 0 ∷ 1 ∷ 0 ∷ 0 ∷ 1 ∷ 1 ∷ []) ++ (0 ∷ 0 ∷ 0 ∷ 0 ∷ 0 ∷ 6 ∷ 0 ∷ 0 ∷ 1 ∷ 0 ∷ [])

-- the states and the images that the calls hand on: OCD is cut in two, on a log of just 16n bytes, and kept as version 1; OE is cut
-- in two with a count of 3, just before the reset, and kept as version 2
abbrev pub cut : State
cut = (run_answer upd546 plain_one rom sched fresh (replicate 16 7) 1).state

abbrev pub kept : List ℕ
kept = take 81 (save_answer upd546 One cut (replicate 90 9)).buffer

abbrev pub back : State
back = (restore_answer upd546 kept).state

abbrev pub high : State
high = (run_answer upd546 skipping_one rom sched back (replicate 48 0) 3).state

abbrev pub kept_high : List ℕ
kept_high = take 82 (save_answer upd546 Two high (replicate 82 9)).buffer

abbrev pub again : State
again = (restore_answer upd546 kept_high).state

abbrev pub stop : State
stop = (run_answer upd546 skipping_one rom sched again (replicate 144 0) 9).state

-- refused are the first by 21, the third by 11, the fourth by 1, the sixth by 31 and the ninth by 54
abbrev pub calls : List (Call Sheet State)
calls =
    run plain_one (1 ∷ []) [] fresh [] 5 upd546_sheet
    ∷ run plain_one rom sched fresh (replicate 16 7) 1 upd546_sheet
    ∷ run skipping_one rom (1 ∷ []) cut (6 ∷ 6 ∷ []) 5 upd546_sheet
    ∷ save One cut (replicate 80 9) upd546_sheet
    ∷ save One cut (replicate 90 9) upd546_sheet
    ∷ restore [] upd546_sheet
    ∷ restore kept upd546_sheet
    ∷ run skipping_one rom sched back (replicate 48 0) 3 upd546_sheet
    ∷ save One high [] upd546_sheet
    ∷ save Two high (replicate 82 9) upd546_sheet
    ∷ restore kept_high upd546_sheet
    ∷ run skipping_one rom sched again (replicate 144 0) 9 upd546_sheet
    ∷ run plain_one rom sched stop (replicate 16 0) 1 upd546_sheet
    ∷ []

abbrev pub carried_out : List (Call Sheet State)
carried_out =
    run plain_one rom sched fresh (replicate 16 7) 1 upd546_sheet
    ∷ save One cut (replicate 90 9) upd546_sheet
    ∷ restore kept upd546_sheet
    ∷ run skipping_one rom sched back (replicate 48 0) 3 upd546_sheet
    ∷ save Two high (replicate 82 9) upd546_sheet
    ∷ restore kept_high upd546_sheet
    ∷ run skipping_one rom sched again (replicate 144 0) 9 upd546_sheet
    ∷ run plain_one rom sched stop (replicate 16 0) 1 upd546_sheet
    ∷ []

-- a record of the log, of a cycle below 256
abbrev pub entry_bytes : (cycle port value : ℕ) → List ℕ
entry_bytes n port value = 0 ∷ 0 ∷ 0 ∷ 0 ∷ 0 ∷ n ∷ port ∷ value ∷ []

-- 5 to C and A to D, 3 to E, the reset, and the same again
abbrev pub wanted_log : List ℕ
wanted_log =
    entry_bytes 0 2 5 ++ entry_bytes 0 3 10 ++ entry_bytes 3 4 3
    ++ entry_bytes 4 0 0
    ++ entry_bytes 6 2 5 ++ entry_bytes 6 3 10 ++ entry_bytes 9 4 3

-- `U43`, the version; PC 004, the stack; DP, Acc 3, the level, mark, owed, timer; ports C, D and E; RAM; cycle 11
abbrev pub image_with : (version : ℕ) → List ℕ
image_with version =
    (0x55 ∷ 0x34 ∷ 0x33 ∷ 0 ∷ version ∷ 0 ∷ 4 ∷ 0 ∷ 0 ∷ 0 ∷ 0 ∷ 0 ∷ 0 ∷ [])
    ++ (0 ∷ 3 ∷ 32 ∷ 0 ∷ 0 ∷ 0 ∷ 0 ∷ 5 ∷ 10 ∷ 3 ∷ 0 ∷ 0 ∷ 0 ∷ 0 ∷ [])
    ++ replicate 48 0
    ++ (0 ∷ 0 ∷ 0 ∷ 0 ∷ 0 ∷ 11 ∷ [])

-- with a count of 0
abbrev pub wanted_image : List ℕ
wanted_image = image_with 2 ++ (0 ∷ [])

abbrev pub wanted_old : List ℕ
wanted_old = image_with 1

-- what a refused run answers
abbrev pub unmoved : ℕ → State → List ℕ → RunAnswer State
unmoved k s log = record { end = refused k; state = s; cycles = 0; clocks = 0; begun = 0; written = 0; steps = 0; log = log }

-- log and totals of runs
pub record Counts (answers : List (RunAnswer State)) : Type 0 where
  pub log : joined_log answers ≡ wanted_log
  pub cycles : cycle_total answers ≡ 11
  pub begun : begun_total answers ≡ 6
  pub clocks : clock_total answers ≡ 44

-- one call for all 14 cycles
pub record OneCall (a : RunAnswer State) : Type 0 where
  pub end : a.end ≡ stopped 23
  pub pc : a.state.core.flow.pc ≡ 4
  pub written : a.written ≡ 56
  pub log : run_log a ≡ wanted_log
  pub cycles : a.cycles ≡ 11
  pub begun : a.begun ≡ 6
  pub clocks : a.clocks ≡ 44

pub record ListFigures : Type 0 where
  -- `ends`
  pub pc : (last chip fresh carried_out).core.flow.pc ≡ 4
  pub cycle : (last chip fresh carried_out).cycle.0 ≡ 11
  pub image : final_image chip upd546_sheet fresh carried_out Two (replicate 83 9) ≡ record { number = 0; buffer = wanted_image ++ (9 ∷ []) }
  pub image_one : final_image chip upd546_sheet fresh carried_out One (replicate 82 9) ≡ record { number = 0; buffer = wanted_old ++ (9 ∷ []) }
  pub counts : Counts (runs chip carried_out)
  pub not_all_finish : AllFinish (runs chip carried_out) → ⊥
  pub each_stop : Each (λ a. (k : ℕ) → a.end ≡ stopped k → k ≡ 23) (runs chip carried_out)
  -- `call`
  pub call : (kind : Kind) → OneCall (run_answer upd546 kind rom sched fresh (replicate 224 0) 14)
  -- `nothing`, `unchanged`, `refusals`
  pub with_refused : Counts (runs chip calls)
  pub by_21 : run_answer upd546 plain_one (1 ∷ []) [] fresh [] 5 ≡ unmoved 21 fresh []
  pub by_11 : run_answer upd546 skipping_one rom (1 ∷ []) cut (6 ∷ 6 ∷ []) 5 ≡ unmoved 11 cut (6 ∷ 6 ∷ [])
  pub by_1 : save_answer upd546 One cut (replicate 80 9) ≡ record { number = 1; buffer = replicate 80 9 }
  pub by_31 : restore_answer upd546 [] ≡ record { number = 31; state = fresh }
  pub by_54 : save_answer upd546 One high [] ≡ record { number = 54; buffer = [] }
  pub numbers : map (refusal chip) calls ≡ 21 ∷ 0 ∷ 11 ∷ 1 ∷ 0 ∷ 31 ∷ 0 ∷ 0 ∷ 54 ∷ 0 ∷ 0 ∷ 0 ∷ 0 ∷ []
  -- `goes_on`: to the cycle limit
  pub next_run : (kind : Kind) (log : List ℕ)
      → refusal chip (run kind rom sched (last chip fresh carried_out) log 281474976710641 upd546_sheet) ≡ 0
  pub next_save : refusal chip (save Two (last chip fresh carried_out) (replicate 82 0) upd546_sheet) ≡ 0
  pub next_save_one : refusal chip (save One (last chip fresh carried_out) (replicate 81 0) upd546_sheet) ≡ 0
  pub next_restore : (bytes : List ℕ) → WrittenBy upd546 (last chip fresh carried_out) bytes → refusal chip (restore bytes upd546_sheet) ≡ 0
