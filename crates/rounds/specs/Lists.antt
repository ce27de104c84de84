-- Request R-9 and demand 3: over every list of rounds on one bank each panel ends as one unbroken run ends, and keeps its waits.
-- Assumes nothing: these are definitions.
use Rattle.std.specs.Prelude.{ℕ, zero, suc, ◌+◌, ◌<◌, ◌≤◌, ◌≡◌, ◌↔◌, List, [], ◌∷◌, length, take}
use Rattle.std.proofs.Math.Option.{none, some}
use Rattle.runs.specs.Refusals.{cycle_limit}
use Rattle.runs.specs.TwoRunners.{log_bound, Ran, unbroken}
use Rattle.runs.specs.Laws.{Panel}
use Rattle.runs.specs.Lists.{Kind, Each, refusal_of, run_answer, AnswersAs}
use Rattle.upd546.specs.declared.State.{State}
use Rattle.upd546.specs.declared.Sheet.{Sheet}
use Rattle.upd546.specs.TwoRunners.{chip}
use Rattle.calls.specs.EveryCall.{end_by}
use Rattle.calls.specs.Lists.{joined}
use Rattle.waiting.specs.WaitingTimes.{start_of_day, waiting_times}
use Rattle.waiting.specs.EveryList.{AllAccepted, carried_on}
use Rattle.panels.specs.declared.Panel as kept
use Rattle.rounds.specs.Rounds.{Round, after, panel_at, before, afterwards, rom_in, schedule_in, log_afterwards, grant_in}

-- THE LISTS MEANT

-- a round before others, dropped where it is refused
abbrev pub keep_round : ℕ → Round → List Round → List Round
keep_round zero r rs = r ∷ rs
keep_round (suc k) r rs = rs

-- the rounds not refused, by the numbers that they answer; refused ones stand anywhere, given anything, another bank too
abbrev pub rounds_not_refused : List Round → List Round
rounds_not_refused [] = []
rounds_not_refused (r ∷ rs) = keep_round (after r).number r (rounds_not_refused rs)

-- on one bank: each round is lent the bank as the one before it left it
abbrev pub OnOneBank : List kept.Panel → List Round → Type 0
OnOneBank bank [] = Unit {0}
OnOneBank bank (r ∷ rs) = (r.bank ≡ bank) × OnOneBank (after r).panels rs

-- the bank after the last round
abbrev pub bank_after : List kept.Panel → List Round → List kept.Panel
bank_after bank [] = bank
bank_after bank (r ∷ rs) = bank_after (after r).panels rs

-- the number by which panel i says that its own run was refused, else 0
abbrev pub turn_refusal : ℕ → Round → ℕ
turn_refusal i r = refusal_of (end_by (afterwards i r).last.number)

-- the rounds in which it wasn't
abbrev pub turns_taken : ℕ → List Round → List Round
turns_taken i [] = []
turns_taken i (r ∷ rs) = keep_round (turn_refusal i r) r (turns_taken i rs)

-- "Every run not refused is lent the panel's ROM and schedule" (demand 3), "one sheet for all calls of a list that aren't refused" (R-11),
-- and "a log of 16n bytes for n cycles" (R-8)
pub record HasItsParts (sheet : Sheet) (rom sched : List ℕ) (i : ℕ) (r : Round) : Type 0 where
  pub same_sheet : r.sheet ≡ sheet
  pub same_rom : rom_in i r ≡ rom
  pub same_sched : schedule_in i r ≡ sched
  pub room : log_bound (grant_in i r) ≤ (before i r).needs.log

-- Rounds on a bank, of which panel i has the same ROM and schedule throughout and log room for its grants. Nothing is asked of its parts in
-- a round in which its own run is refused.
pub record RoundsMeant (sheet : Sheet) (rom sched : List ℕ) (bank : List kept.Panel) (i : ℕ) (rounds : List Round) : Type 0 where
  pub one_bank : OnOneBank bank (rounds_not_refused rounds)
  pub own_parts : Each (HasItsParts sheet rom sched i) (turns_taken i (rounds_not_refused rounds))

-- WHAT A PANEL GETS: its figures and its part of the logs as the rounds leave them

-- of each round the front of its part of the logs, as many bytes as it says that were written: "the log bytes written by each run, as they
-- stand when it returns, in list order" (demand 3)
abbrev pub panel_logs : ℕ → List Round → List (List ℕ)
panel_logs i [] = []
panel_logs i (r ∷ rs) = take (afterwards i r).last.written (log_afterwards i r) ∷ panel_logs i rs

-- a figure, added up
abbrev pub total : (Round → ℕ) → List Round → ℕ
total f [] = 0
total f (r ∷ rs) = f r + total f rs

-- "the sum of what the runs not refused are asked for" (demand 3): of its grants
abbrev pub grants_together : ℕ → List Round → ℕ
grants_together i rounds = total (grant_in i) (turns_taken i rounds)

-- THE CLAIM

-- Rounds on a bank, none of them refused, leave panel i as the run u ends: "Final image, joined log, cycle total and instruction total are the
-- same. All runs not refused finish exactly when the unbroken one does; otherwise every stop in the list has its number." A round in which its
-- own run is refused adds nothing.
pub record PanelEndsAs (bank : List kept.Panel) (i : ℕ) (rs : List Round) (u : Ran State) : Type 0 where
  pub state : (panel_at i (bank_after bank rs)).state ≡ u.state
  pub log : joined (panel_logs i rs) ≡ u.bytes
  pub cycles : total (λ r. (afterwards i r).last.cycles.0) rs ≡ u.cycles
  pub begun : total (λ r. (afterwards i r).last.begun) rs ≡ u.begun
  pub written : total (λ r. (afterwards i r).last.written) rs ≡ length u.bytes
  pub finish : Each (λ r. (afterwards i r).last.number ≡ 0) (turns_taken i rs) ↔ (u.number ≡ none)
  pub stops : Each (λ r. (k : ℕ) → (afterwards i r).last.number ≡ suc k → u.number ≡ some (suc k)) (turns_taken i rs)

-- THE POWER-OFF GUARANTEE, of one panel of a bank and one list of rounds, where u is the unbroken run.
pub record PanelEndsAsOneRun (sheet : Sheet) (rom sched : List ℕ) (bank : List kept.Panel) (i : ℕ) (rs : List Round) (u : Ran State) : Type 0 where
  pub ends : PanelEndsAs bank i rs u
  -- "That run is as demand 2 defines it": where "N keeps within the cycle limit", it is what one call for N cycles answers, of either
  -- runner
  pub call : (panel_at i bank).state.cycle.0 + grants_together i rs ≤ cycle_limit → (kind : Kind) (log : List ℕ)
      → log_bound (grants_together i rs) ≤ length log
      → AnswersAs (run_answer (chip sheet) kind rom sched (panel_at i bank).state log (grants_together i rs)) u
  -- "its wish and lengths stay"
  pub needs : (panel_at i (bank_after bank rs)).needs ≡ (panel_at i bank).needs
  -- "A list may go on": in a next round that isn't refused the panel isn't refused either.
  pub goes_on : (r : Round) → r.bank ≡ bank_after bank rs → (after r).number ≡ 0 → HasItsParts sheet rom sched i r
      → (panel_at i bank).state.cycle.0 + (grants_together i rs + grant_in i r) ≤ cycle_limit → turn_refusal i r ≡ 0

-- Over every list of rounds on one bank, of every panel of it: "for every legal sheet", from an accepted state, ROM and schedule.
abbrev pub EveryListOfRoundsEndsAsOneRun : Type 0
EveryListOfRoundsEndsAsOneRun =
    (sheet : Sheet) (rom sched : List ℕ) (bank : List kept.Panel) (i : ℕ) (rounds : List Round) → i < length bank
    → Panel (chip sheet) rom sched → (chip sheet).state_number (panel_at i bank).state ≡ 0 → RoundsMeant sheet rom sched bank i rounds
    → PanelEndsAsOneRun sheet rom sched bank i (rounds_not_refused rounds)
    (unbroken (chip sheet) rom sched (grants_together i (rounds_not_refused rounds)) (panel_at i bank).state)

-- Rounds on one bank, refused ones too, are such a list, and the bank that the last of them leaves is that of the rounds not refused.
abbrev pub EveryListOnOneBankIsMeant : Type 0
EveryListOnOneBankIsMeant =
    (bank : List kept.Panel) (rounds : List Round) → OnOneBank bank rounds
    → OnOneBank bank (rounds_not_refused rounds) × (bank_after bank rounds ≡ bank_after bank (rounds_not_refused rounds))

-- ITS WAITS (R-1)

-- from the start of a day the log bytes that a panel's runs wrote are accepted, round by round, and the report that is carried on is the
-- report of the unbroken run's log, which is accepted too
pub record PanelReportsAsOneRun (i : ℕ) (rs : List Round) (u : Ran State) : Type 0 where
  pub accepted : AllAccepted start_of_day (panel_logs i rs)
  pub report : record { number = 0; carried = carried_on start_of_day (panel_logs i rs) } ≡ waiting_times u.bytes start_of_day

abbrev pub EveryListOfRoundsReportsAsOneRun : Type 0
EveryListOfRoundsReportsAsOneRun =
    (sheet : Sheet) (rom sched : List ℕ) (bank : List kept.Panel) (i : ℕ) (rounds : List Round) → i < length bank
    → Panel (chip sheet) rom sched → (chip sheet).state_number (panel_at i bank).state ≡ 0 → RoundsMeant sheet rom sched bank i rounds
    → (panel_at i bank).state.cycle.0 + grants_together i (rounds_not_refused rounds) ≤ cycle_limit
    → PanelReportsAsOneRun i (turns_taken i (rounds_not_refused rounds))
    (unbroken (chip sheet) rom sched (grants_together i (rounds_not_refused rounds)) (panel_at i bank).state)
