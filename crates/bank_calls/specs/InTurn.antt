-- Entries of a bank one after another, each on the logs that those before it left. `proofs/Rounds` shows that this comes to the round of
-- the definitions. Assumes nothing: these are definitions.
use Rattle.std.specs.Prelude.{ℕ, ◌≤◌, ◌≡◌, List, [], ◌∷◌, ◌++◌, length}
use Rattle.runs.specs.Machine.{Machine}
use Rattle.upd546.specs.declared.Sheet.{Sheet}
use Rattle.panels.specs.declared.Course.{Course}
use Rattle.panels.specs.Places.{ends_of}
use Rattle.panels.specs.Courses.{lot_of, after_of}
use Rattle.panels.specs.Round.{with_part}
use Rattle.calls.specs.Call.{BoardAnswer}
use Rattle.bank_calls.specs.Entries.{entry_needs, entry_after}
use Rattle.bank_calls.specs.Round.{lot_answer}

-- The places of a course lie in the buffers, and it knows where these end.
pub record Within (c : Course) (roms schedules logs : List ℕ) : Type 0 where
  pub rom : c.at.rom ≤ length roms
  pub schedule : c.at.schedule ≤ length schedules
  pub log : c.at.log ≤ length logs
  pub ends : c.ends ≡ ends_of roms schedules logs

-- The entries end to end, and the logs.
pub record Served : Type 0 where
  pub bank : List ℕ
  pub logs : List ℕ

module _ {S : Type 0} (M : Sheet → Machine S) (sheet : Sheet) where
  -- the call of the entry whose turn it is
  unfoldable pub turn_answer : (roms schedules logs : List ℕ) → (entry : List ℕ) → Course → BoardAnswer
  turn_answer roms schedules logs entry c = lot_answer M sheet roms schedules logs entry (lot_of c (entry_needs entry))

  -- and the logs after it
  unfoldable pub turn_logs : (roms schedules logs : List ℕ) → (entry : List ℕ) → Course → List ℕ
  turn_logs roms schedules logs entry c = with_part logs c.at.log (entry_needs entry).log (turn_answer roms schedules logs entry c).log

  -- one after another
  abbrev pub in_turn : (roms schedules logs : List ℕ) → Course → List (List ℕ) → Served
  in_turn roms schedules logs c [] = record { bank = []; logs = logs }
  in_turn roms schedules logs c (e ∷ es) =
      let rest = in_turn roms schedules (turn_logs roms schedules logs e c) (after_of c (entry_needs e)) es in
      record { bank = entry_after e (turn_answer roms schedules logs e c) ++ rest.bank; logs = rest.logs }
