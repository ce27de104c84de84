-- Three panels, of which one stops and one is refused, and a list of rounds with refused ones among them: what the theorems have to say of
-- them, a figure or a plain fact for each clause. Assumes nothing: these are definitions.
use Rattle.std.specs.Prelude.{ℕ, suc, ◌≡◌, List, [], ◌∷◌, ◌++◌, map, length, get_or, take, replicate}
use Rattle.runs.specs.TwoRunners.{finished}
use Rattle.runs.specs.Lists.{Kind, Each, run_answer}
use Rattle.upd546.specs.declared.Sheet.{Sheet}
use Rattle.upd546.specs.TheMachine.{fresh}
use Rattle.upd546.specs.TwoRunners.{chip}
use Rattle.calls.specs.Lists.{joined}
use Rattle.waiting.specs.declared.Landing.{Landing}
use Rattle.waiting.specs.declared.Carried.{Carried}
use Rattle.waiting.specs.WaitingTimes.{no_waits, start_of_day}
use Rattle.waiting.specs.EveryList.{AllAccepted, carried_on}
use Rattle.panels.specs.declared.Panel.{Panel}
use Rattle.rounds.specs.Rounds.{Round, after, panel_at, afterwards, lot_in, grant_in, log_afterwards, ComeOutTheSame}
use Rattle.rounds.specs.Lists.{rounds_not_refused, OnOneBank, bank_after, turn_refusal, turns_taken, panel_logs, total, grants_together}

-- THE BANK

-- a chip with six bytes of ROM, row 7 alone and one level
abbrev pub six : Sheet
six = record { rom = 6; rows = 0; levels = 1 }

-- LDZ 5, LI 1, OP, LI 0, OP, JCP 0: bit 0 of port F is lit at cycle 2 and dark at cycle 4, and so every six cycles
abbrev pub lamp : List ℕ
lamp = 0x85 ∷ 0x91 ∷ 0x0E ∷ 0x90 ∷ 0x0E ∷ 0xC0 ∷ []

-- a NOP, and a code that is none
abbrev pub halt : List ℕ
halt = 0 ∷ 0x1C ∷ 0 ∷ 0 ∷ 0 ∷ 0 ∷ []

-- a byte short
abbrev pub torn : List ℕ
torn = take 5 lamp

-- INT is high from cycle 1 on
abbrev pub high : List ℕ
high = 0 ∷ 0 ∷ 0 ∷ 0 ∷ 0 ∷ 1 ∷ 0 ∷ 0 ∷ 1 ∷ 0 ∷ []

-- a fresh panel with a wish, lengths, and figures of an older round
abbrev pub panel : (wish rom schedule log : ℕ) → Panel
panel wish rom schedule log = record {
  state = fresh;
  needs = record { wish = record { 0 = wish }; rom = rom; schedule = schedule; log = log };
  last = record { cycles = record { 0 = 7 }; begun = 7; written = 7; steps = 7; number = 7 };
}

-- the first runs, the second stops, the third is refused
abbrev pub bank : List Panel
bank = panel 9 6 0 144 ∷ panel 2 6 10 32 ∷ panel 9 5 0 8 ∷ []

-- THE ROUNDS

-- 16 cycles for three: 5 each, and one more
abbrev pub first : Round
first = record { bank = bank; roms = lamp ++ halt ++ torn; schedules = high; logs = replicate 190 9; t = 16; sheet = six }

unfoldable pub bank_then : List Panel
bank_then = (after first).panels

-- refused by 62, a byte of the logs short; by 61, seventeen panels on no buffers; by 71, the same under a sheet that is none
abbrev pub short : Round
short = record { bank = bank_then; roms = lamp ++ halt ++ torn; schedules = high; logs = replicate 183 9; t = 16; sheet = six }

abbrev pub crowded : Round
crowded = record { bank = replicate 17 (panel 9 6 0 144); roms = []; schedules = []; logs = []; t = 16; sheet = six }

abbrev pub no_chip : Round
no_chip = record {
  bank = replicate 17 (panel 9 6 0 144);
  roms = [];
  schedules = [];
  logs = [];
  t = 16;
  sheet = record { rom = 6; rows = 32; levels = 1 };
}

-- 10 cycles for three, on other buffers
abbrev pub second : Round
second = record { bank = bank_then; roms = lamp ++ halt ++ torn ++ (1 ∷ []); schedules = high; logs = replicate 184 8; t = 10; sheet = six }

abbrev pub rounds : List Round
rounds = first ∷ short ∷ crowded ∷ no_chip ∷ second ∷ []

-- the first panel with nobody beside it, and with others that neither stop nor are refused
abbrev pub alone : Round
alone = record { bank = panel 9 6 0 144 ∷ []; roms = lamp; schedules = []; logs = replicate 144 9; t = 11; sheet = six }

abbrev pub sound : Round
sound = record {
  bank = panel 9 6 0 144 ∷ panel 2 6 0 32 ∷ panel 9 6 0 144 ∷ [];
  roms = lamp ++ lamp ++ lamp;
  schedules = [];
  logs = replicate 320 9;
  t = 16;
  sheet = six;
}

-- a record of port F, of a cycle below 256
abbrev pub lamps_at : (cycle lamps : ℕ) → List ℕ
lamps_at n lamps = 0 ∷ 0 ∷ 0 ∷ 0 ∷ 0 ∷ n ∷ 5 ∷ lamps ∷ []

-- two waits of two cycles, one of them over the end of the first round
abbrev pub two_waits : Landing
two_waits = record { closed = 2; cycles = record { 0 = 4 }; longest = record { 0 = 2 }; mark = 0; start = record { 0 = 0 } }

abbrev pub wanted_day : Carried
wanted_day = record { landings = two_waits ∷ no_waits ∷ no_waits ∷ no_waits ∷ []; lamps = 0; last = record { 0 = 10 } }

-- THE FIGURES

-- of the first round
pub record OneRound : Type 0 where
  -- `EveryPanelIsOnItsOwn`: 9, 2 and 5 are granted
  pub grant_0 : grant_in 0 first ≡ 9
  pub grant_1 : grant_in 1 first ≡ 2
  pub grant_2 : grant_in 2 first ≡ 5
  -- the third's parts begin behind those of the first two
  pub place : (lot_in 2 first).at ≡ record { rom = 12; schedule = 10; log = 176 }
  -- the first panel finishes, its lamp lit
  pub state : (afterwards 0 first).state.cycle.0 ≡ 9
  pub last : (afterwards 0 first).last ≡ record { cycles = record { 0 = 9 }; begun = 9; written = 24; steps = 9; number = 0 }
  pub log : log_afterwards 0 first ≡ lamps_at 2 1 ++ lamps_at 4 0 ++ lamps_at 8 1 ++ replicate 120 9
  pub needs : (afterwards 0 first).needs ≡ record { wish = record { 0 = 9 }; rom = 6; schedule = 0; log = 144 }
  -- the second stops after one cycle, the third is refused, and neither holds up another
  pub stops : (afterwards 1 first).last ≡ record { cycles = record { 0 = 1 }; begun = 1; written = 0; steps = 1; number = 23 }
  pub refused : (afterwards 2 first).last ≡ record { cycles = record { 0 = 0 }; begun = 0; written = 0; steps = 0; number = 21 }
  -- bytes behind the records and behind the last part stay
  pub behind : get_or (after first).logs 24 0 ≡ 9
  pub past : get_or (after first).logs 189 0 ≡ 9
  pub row : length (after first).panels ≡ 3
  pub buffer : length (after first).logs ≡ 190
  -- `OthersAffectNothingElse`, `StopsHoldUpNobody`
  pub with_nobody : ComeOutTheSame 0 first 0 alone
  pub with_sound : ComeOutTheSame 0 first 0 sound
  -- `EveryRoundIsRefusedByNumbers`, `SheetRefusesTheRoundFirst`, `RefusedRoundChangesNothing`, `EmptyBankDoesNothing`
  pub numbers : map (λ r. (after r).number) rounds ≡ 0 ∷ 62 ∷ 61 ∷ 71 ∷ 0 ∷ []
  pub by_61 : (after crowded).number ≡ 61
  pub by_71 : (after no_chip).number ≡ 71
  pub unchanged : after short ≡ record { panels = bank_then; logs = replicate 183 9; number = 62 }
  pub empty : (roms schedules logs : List ℕ) (t : ℕ)
      → after (record { bank = []; roms = roms; schedules = schedules; logs = logs; t = t; sheet = six })
      ≡ record { panels = []; logs = logs; number = 0 }

-- the two rounds that aren't refused
abbrev pub both : List Round
both = first ∷ second ∷ []

abbrev pub third : Round
third = record { bank = bank_after bank both; roms = lamp ++ halt ++ torn; schedules = high; logs = replicate 190 9; t = 16; sheet = six }

-- of the list: `EveryListOfRoundsEndsAsOneRun`
pub record ManyRounds : Type 0 where
  pub not_refused_is : rounds_not_refused rounds ≡ both
  -- the first panel is granted 9 and 5 cycles, and ends as one run of 14 cycles ends
  pub asked : grants_together 0 both ≡ 14
  pub pc : (panel_at 0 (bank_after bank both)).state.core.flow.pc ≡ 2
  pub cycle : (panel_at 0 (bank_after bank both)).state.cycle.0 ≡ 14
  pub log : joined (panel_logs 0 both) ≡ lamps_at 2 1 ++ lamps_at 4 0 ++ lamps_at 8 1 ++ lamps_at 10 0
  pub cycles : total (λ r. (afterwards 0 r).last.cycles.0) both ≡ 14
  pub begun : total (λ r. (afterwards 0 r).last.begun) both ≡ 14
  pub written : total (λ r. (afterwards 0 r).last.written) both ≡ 32
  pub finish : Each (λ r. (afterwards 0 r).last.number ≡ 0) both
  pub call : (kind : Kind) → (run_answer (chip six) kind lamp [] fresh (replicate 224 0) 14).end ≡ finished
  pub needs : (panel_at 0 (bank_after bank both)).needs ≡ record { wish = record { 0 = 9 }; rom = 6; schedule = 0; log = 144 }
  -- in a round like the first it goes on
  pub goes_on : turn_refusal 0 third ≡ 0
  -- the second panel stops with 23 and keeps to it
  pub stop_cycles : total (λ r. (afterwards 1 r).last.cycles.0) both ≡ 1
  pub stop_again : Each (λ r. (k : ℕ) → (afterwards 1 r).last.number ≡ suc k → suc k ≡ 23) both
  -- the third is refused each time, and stays as it was
  pub none_taken : turns_taken 2 both ≡ []
  pub as_it_was : (panel_at 2 (bank_after bank both)).state ≡ fresh
  -- `EveryListOfRoundsReportsAsOneRun`
  pub read : AllAccepted start_of_day (panel_logs 0 both)
  pub day : carried_on start_of_day (panel_logs 0 both) ≡ wanted_day
  -- `EveryListOnOneBankIsMeant`
  pub one_bank : OnOneBank bank (rounds_not_refused (first ∷ short ∷ second ∷ []))
