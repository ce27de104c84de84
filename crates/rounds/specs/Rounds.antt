-- Request R-9, of every round: "A panel's state, log, counts and number after a round are those of its own timer-skipping run for its
-- grant, and its wish and lengths stay; the others may affect the grant, where its parts of the buffers lie and whether 61 or 62 is given,
-- and nothing else." Assumes nothing: these are definitions.
use Rattle.std.specs.Prelude.{ℕ, suc, ◌+◌, ◌<◌, ◌≤◌, ◌≡◌, List, [], ◌∷◌, leb, length, get_or, take}
use Rattle.runs.specs.Refusals.{first_of, unless}
use Rattle.runs.specs.TwoRunners.{RunAnswer}
use Rattle.upd546.specs.declared.State.{State}
use Rattle.upd546.specs.declared.Sheet.{Sheet}
use Rattle.upd546.specs.Bytes.{part}
use Rattle.upd546.specs.TheMachine.{fresh}
use Rattle.upd546.specs.TheSheet.{sheet_number}
use Rattle.upd546.specs.TwoRunners.{chip}
use Rattle.panels.specs.declared.Needs.{Needs}
use Rattle.panels.specs.declared.Lot.{Lot}
use Rattle.panels.specs.declared.Panel.{Panel}
use Rattle.panels.specs.Grants.{grants}
use Rattle.panels.specs.Places.{most_panels, wishes_of, lots_of, together, fits, ends_of}
use Rattle.panels.specs.Round.{own_run, last_of, needs_of, RoundAnswer, round_answer}
use Rattle.panels.specs.Alone.{no_lot}

-- A round with all that it is given: the bank, "three lent buffers" for "the ROMs, schedules and logs", T, and the sheet, which is given
-- last (R-11).
pub record Round : Type 0 where
  pub bank : List Panel
  pub roms : List ℕ
  pub schedules : List ℕ
  pub logs : List ℕ
  pub t : ℕ
  pub sheet : Sheet

-- what it leaves: the bank, the buffer of logs and its number
abbrev pub after : Round → RoundAnswer
after r = round_answer (chip r.sheet) r.bank r.roms r.schedules r.logs r.t

-- ONE PANEL

-- panel i of a row; behind the row's end there is none, and this stands for it
abbrev pub no_panel : Panel
no_panel = record {
  state = fresh;
  needs = record { wish = record { 0 = 0 }; rom = 0; schedule = 0; log = 0 };
  last = record { cycles = record { 0 = 0 }; begun = 0; written = 0; steps = 0; number = 0 };
}

abbrev pub panel_at : ℕ → List Panel → Panel
panel_at i ps = get_or ps i no_panel

-- as it is lent, and as it stands when the round returns
abbrev pub before : ℕ → Round → Panel
before i r = panel_at i r.bank

abbrev pub afterwards : ℕ → Round → Panel
afterwards i r = panel_at i (after r).panels

-- what it has for the round: its grant, and where its parts of the buffers begin
abbrev pub lot_in : ℕ → Round → Lot
lot_in i r = get_or (lots_of r.t (needs_of r.bank)) i no_lot

abbrev pub grant_in : ℕ → Round → ℕ
grant_in i r = (lot_in i r).grant.0

-- its parts of the buffers as they are lent, and its part of the logs as it stands when the round returns
abbrev pub rom_in : ℕ → Round → List ℕ
rom_in i r = part r.roms (lot_in i r).at.rom (before i r).needs.rom

abbrev pub schedule_in : ℕ → Round → List ℕ
schedule_in i r = part r.schedules (lot_in i r).at.schedule (before i r).needs.schedule

abbrev pub log_in : ℕ → Round → List ℕ
log_in i r = part r.logs (lot_in i r).at.log (before i r).needs.log

abbrev pub log_afterwards : ℕ → Round → List ℕ
log_afterwards i r = part (after r).logs (lot_in i r).at.log (before i r).needs.log

-- "its own timer-skipping run for its grant", on these parts
abbrev pub run_in : ℕ → Round → RunAnswer State
run_in i r = own_run (chip r.sheet) r.roms r.schedules r.logs (before i r).needs (lot_in i r) (before i r).state

-- EVERY PANEL IS ON ITS OWN

-- the bytes that the panels before it have, of a kind
abbrev pub bytes_before : (Needs → ℕ) → ℕ → Round → ℕ
bytes_before length i r = together length (take i (needs_of r.bank))

-- "A panel's state, log, counts and number after a round are those of its own timer-skipping run for its grant, and its wish and lengths
-- stay": the grant that T and the wishes give it, and parts that lie "end to end in row order, by lengths kept with each panel"
pub record OnItsOwn (i : ℕ) (r : Round) : Type 0 where
  pub grant : grant_in i r ≡ get_or (grants r.t (wishes_of (needs_of r.bank))) i 0
  pub place : (lot_in i r).at
      ≡ record { rom = bytes_before (λ n. n.rom) i r; schedule = bytes_before (λ n. n.schedule) i r; log = bytes_before (λ n. n.log) i r }
  pub state : (afterwards i r).state ≡ (run_in i r).state
  pub last : (afterwards i r).last ≡ last_of (run_in i r)
  pub log : log_afterwards i r ≡ (run_in i r).log
  pub needs : (afterwards i r).needs ≡ (before i r).needs

-- byte x of the buffer of logs is none of the records that panel i's run wrote: it stands before the panel's part, or behind them
abbrev pub OutsideRecords : ℕ → ℕ → Round → Type 0
OutsideRecords x i r = (lot_in i r).at.log ≤ x → (lot_in i r).at.log + (afterwards i r).last.written ≤ x

-- of a whole round that isn't refused: each panel is on its own, none is lost or added, and the other bytes of the buffer stay
pub record PanelsOnTheirOwn (r : Round) : Type 0 where
  pub own : (i : ℕ) → i < length r.bank → OnItsOwn i r
  pub row : length (after r).panels ≡ length r.bank
  pub buffer : length (after r).logs ≡ length r.logs
  pub outside : (x : ℕ) → ((i : ℕ) → i < length r.bank → OutsideRecords x i r) → get_or (after r).logs x 0 ≡ get_or r.logs x 0

abbrev pub EveryPanelIsOnItsOwn : Type 0
EveryPanelIsOnItsOwn = (r : Round) → (after r).number ≡ 0 → PanelsOnTheirOwn r

-- TWO BANKS

-- what panel i of the one round and panel j of the other have in common, whatever the others are: sheet, state, wish and lengths, and the
-- bytes of its parts
pub record SameFor (i : ℕ) (r : Round) (j : ℕ) (q : Round) : Type 0 where
  pub sheet : r.sheet ≡ q.sheet
  pub state : (before i r).state ≡ (before j q).state
  pub needs : (before i r).needs ≡ (before j q).needs
  pub rom : rom_in i r ≡ rom_in j q
  pub schedule : schedule_in i r ≡ schedule_in j q
  pub log : log_in i r ≡ log_in j q

-- and how they come out: the whole panel, and its part of the logs
pub record ComeOutTheSame (i : ℕ) (r : Round) (j : ℕ) (q : Round) : Type 0 where
  pub panel : afterwards i r ≡ afterwards j q
  pub log : log_afterwards i r ≡ log_afterwards j q

-- "the others may affect the grant, where its parts of the buffers lie and whether 61 or 62 is given, and nothing else"
abbrev pub OthersAffectNothingElse : Type 0
OthersAffectNothingElse =
    (r q : Round) (i j : ℕ) → (after r).number ≡ 0 → (after q).number ≡ 0 → i < length r.bank → j < length q.bank
    → SameFor i r j q → grant_in i r ≡ grant_in j q → ComeOutTheSame i r j q

-- "One panel's stop or refusal doesn't hold up the rest, and its unused grant lapses": with the same T and the same wishes a panel comes out
-- the same, whatever becomes of the others in their runs
abbrev pub StopsHoldUpNobody : Type 0
StopsHoldUpNobody =
    (r q : Round) (i : ℕ) → (after r).number ≡ 0 → (after q).number ≡ 0 → i < length r.bank → r.t ≡ q.t
    → wishes_of (needs_of r.bank) ≡ wishes_of (needs_of q.bank) → SameFor i r i q → ComeOutTheSame i r i q

-- REFUSALS

-- "Errors, which change nothing: 61 more than sixteen panels; then 62 the lengths of a kind together exceed their buffer."; 71 before them
-- (R-11)
abbrev pub EveryRoundIsRefusedByNumbers : Type 0
EveryRoundIsRefusedByNumbers =
    (r : Round)
    → (after r).number
    ≡ first_of
    (sheet_number r.sheet
    ∷ unless (leb (length r.bank) most_panels) 61
    ∷ unless (fits (ends_of r.roms r.schedules r.logs) (needs_of r.bank)) 62
    ∷ [])

-- "71, before all else" (R-11)
abbrev pub SheetRefusesTheRoundFirst : Type 0
SheetRefusesTheRoundFirst = (r : Round) (k : ℕ) → sheet_number r.sheet ≡ suc k → (after r).number ≡ suc k

-- "which change nothing": the panels with the last round's counts and numbers, and the logs
abbrev pub RefusedRoundChangesNothing : Type 0
RefusedRoundChangesNothing =
    (r : Round) (k : ℕ) → (after r).number ≡ suc k → after r ≡ record { panels = r.bank; logs = r.logs; number = suc k }

-- "An empty bank does nothing", with any T and any buffers; the sheet is judged still
abbrev pub EmptyBankDoesNothing : Type 0
EmptyBankDoesNothing =
    (r : Round) → r.bank ≡ [] → after r ≡ record { panels = []; logs = r.logs; number = sheet_number r.sheet }
