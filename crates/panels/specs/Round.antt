-- Request R-9, a round of a bank, over any machine. "A small sheet, given last to each call that takes .. a bank too" (R-11), is the
-- machine. Assumes nothing: these are definitions.
use Rattle.std.specs.Prelude.{ℕ, zero, suc, ◌+◌, List, [], ◌∷◌, ◌++◌, take, drop}
use Rattle.runs.specs.Machine.{Machine}
use Rattle.runs.specs.TwoRunners.{RunAnswer, number_of_end, skipping}
use Rattle.upd546.specs.declared.State.{State}
use Rattle.upd546.specs.Bytes.{part}
use Rattle.panels.specs.declared.Needs.{Needs}
use Rattle.panels.specs.declared.Lot.{Lot}
use Rattle.panels.specs.declared.Last.{Last}
use Rattle.panels.specs.declared.Panel.{Panel}
use Rattle.panels.specs.declared.Course.{Course}
use Rattle.panels.specs.Courses.{lot_of}
use Rattle.panels.specs.Places.{together, lots_of, ends_of, round_number}

-- "its own timer-skipping run for its grant": of the state s, on its parts of the buffers
abbrev pub own_run : {S : Type 0} → Machine S → (roms schedules logs : List ℕ) → Needs → Lot → S → RunAnswer S
own_run M roms schedules logs n lot s =
    skipping M
    (part roms lot.at.rom n.rom)
    (part schedules lot.at.schedule n.schedule)
    s
    (part logs lot.at.log n.log)
    lot.grant.0

-- a buffer with other bytes in the place of k bytes from a place on
abbrev pub with_part : List ℕ → (at k : ℕ) → List ℕ → List ℕ
with_part bytes at k others = take at bytes ++ others ++ drop (at + k) bytes

-- "counts and number after a round": cycles, instructions, log bytes and steps
unfoldable pub last_of : {S : Type 0} → RunAnswer S → Last
last_of a = record { cycles = record { 0 = a.cycles }; begun = a.begun; written = a.written; steps = a.steps; number = number_of_end a.end }

-- "A panel's state, log, counts and number after a round are those of its own timer-skipping run for its grant, and its wish and
-- lengths stay"
unfoldable pub panel_after : Panel → RunAnswer State → Panel
panel_after p a = record { state = a.state; needs = p.needs; last = last_of a }

-- the needs, in order of the row
unfoldable pub needs_of : List Panel → List Needs
needs_of [] = []
needs_of (p ∷ ps) = p.needs ∷ needs_of ps

-- What a round leaves and answers: the panels, the lent logs as they stand when the round returns, and 0 or its refusal's number.
pub record RoundAnswer : Type 0 where
  pub panels : List Panel
  pub logs : List ℕ
  pub number : ℕ

module _ (M : Machine State) where
  -- one panel's turn with what the round carries: its run, and the logs
  unfoldable pub turn_run : (roms schedules logs : List ℕ) → Panel → Course → RunAnswer State
  turn_run roms schedules logs p c = own_run M roms schedules logs p.needs (lot_of c p.needs) p.state

  unfoldable pub turn_logs : (roms schedules logs : List ℕ) → Panel → Course → List ℕ
  turn_logs roms schedules logs p c = with_part logs c.at.log p.needs.log (turn_run roms schedules logs p c).log

  -- The panels, each after its own run on the logs as they were lent: "One panel's stop or refusal doesn't hold up the rest, and its
  -- unused grant lapses." There are as many lots as panels.
  unfoldable pub served : (roms schedules logs : List ℕ) → List Lot → List Panel → List Panel
  served roms schedules logs lots [] = []
  served roms schedules logs [] (p ∷ ps) = p ∷ ps
  served roms schedules logs (lot ∷ lots) (p ∷ ps) =
      panel_after p (own_run M roms schedules logs p.needs lot p.state) ∷ served roms schedules logs lots ps

  -- and their parts of the logs, end to end
  unfoldable pub written : (roms schedules logs : List ℕ) → List Lot → List Panel → List ℕ
  written roms schedules logs lots [] = []
  written roms schedules logs [] (p ∷ ps) = []
  written roms schedules logs (lot ∷ lots) (p ∷ ps) =
      (own_run M roms schedules logs p.needs lot p.state).log ++ written roms schedules logs lots ps

  -- A round whose refusal is k. Bytes past the last part of the logs stay. "Errors, which change nothing".
  abbrev pub rounded : ℕ → List Panel → (roms schedules logs : List ℕ) → ℕ → RoundAnswer
  rounded zero ps roms schedules logs t = record {
    panels = served roms schedules logs (lots_of t (needs_of ps)) ps;
    logs = written roms schedules logs (lots_of t (needs_of ps)) ps ++ drop (together (λ n. n.log) (needs_of ps)) logs;
    number = 0;
  }
  rounded (suc k) ps roms schedules logs t = record { panels = ps; logs = logs; number = suc k }

  -- A ROUND of T cycles for all
  unfoldable pub round_answer : List Panel → (roms schedules logs : List ℕ) → ℕ → RoundAnswer
  round_answer ps roms schedules logs t =
      rounded (round_number M.own_number (ends_of roms schedules logs) (needs_of ps)) ps roms schedules logs t
