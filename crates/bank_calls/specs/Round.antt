-- Request R-9 on a bank of bytes, over any machine, which is that of the sheet: what a round answers and leaves. Assumes nothing: these are
-- definitions.
use Rattle.std.specs.Prelude.{ℕ, zero, suc, ◌%◌, List, [], ◌∷◌, ◌++◌, eqb, length, drop}
use Rattle.runs.specs.Machine.{Machine}
use Rattle.runs.specs.Refusals.{first_of, unless}
use Rattle.upd546.specs.declared.Sheet.{Sheet}
use Rattle.upd546.specs.Bytes.{part}
use Rattle.panels.specs.declared.Lot.{Lot}
use Rattle.panels.specs.Places.{together, lots_of, ends_of, round_number}
use Rattle.calls.specs.Call.{BoardAnswer}
use Rattle.bank_calls.specs.Entries.{entry_length, entries_in, entry_needs, needs_in, own_answer, entry_after}

-- What a round answers: 0 or its refusal's number, and the bank and the lent logs as they stand when it returns.
pub record BankAnswer : Type 0 where
  pub number : ℕ
  pub bank : List ℕ
  pub logs : List ℕ

module _ {S : Type 0} (M : Sheet → Machine S) (sheet : Sheet) where
  -- a panel's own call for its grant, on its parts of the buffers
  unfoldable pub lot_answer : (roms schedules logs : List ℕ) → (entry : List ℕ) → Lot → BoardAnswer
  lot_answer roms schedules logs entry lot =
      own_answer M sheet entry
      (part roms lot.at.rom (entry_needs entry).rom)
      (part schedules lot.at.schedule (entry_needs entry).schedule)
      (part logs lot.at.log (entry_needs entry).log)
      lot.grant.0

  -- The entries end to end, each after its own call on the logs as they were lent. A panel whose image is refused holds nobody up.
  -- There are as many lots as entries.
  unfoldable pub served : (roms schedules logs : List ℕ) → List Lot → List (List ℕ) → List ℕ
  served roms schedules logs lots [] = []
  served roms schedules logs [] (e ∷ es) = e ++ served roms schedules logs [] es
  served roms schedules logs (lot ∷ lots) (e ∷ es) = entry_after e (lot_answer roms schedules logs e lot) ++ served roms schedules logs lots es

  -- and their parts of the logs, end to end
  unfoldable pub written : (roms schedules logs : List ℕ) → List Lot → List (List ℕ) → List ℕ
  written roms schedules logs lots [] = []
  written roms schedules logs [] (e ∷ es) = []
  written roms schedules logs (lot ∷ lots) (e ∷ es) = (lot_answer roms schedules logs e lot).log ++ written roms schedules logs lots es

  -- 71, 61 (more than sixteen whole entries), 62; a bank whose length is no multiple of 147: 63, last. The number 63 is this project's.
  unfoldable pub bank_number : (bank roms schedules logs : List ℕ) → ℕ
  bank_number bank roms schedules logs =
      first_of
      (round_number (M sheet).own_number (ends_of roms schedules logs) (needs_in (entries_in bank))
      ∷ unless (eqb (length bank % entry_length) 0) 63
      ∷ [])

  -- A round whose refusal is k. Bytes past the last part of the logs stay. "Errors, which change nothing".
  abbrev pub rounded : ℕ → (bank roms schedules logs : List ℕ) → ℕ → BankAnswer
  rounded zero bank roms schedules logs t =
      let lots = lots_of t (needs_in (entries_in bank)) in
      record {
        number = 0;
        bank = served roms schedules logs lots (entries_in bank);
        logs = written roms schedules logs lots (entries_in bank) ++ drop (together (λ n. n.log) (needs_in (entries_in bank))) logs;
      }
  rounded (suc k) bank roms schedules logs t = record { number = suc k; bank = bank; logs = logs }

  -- A ROUND of T cycles for all panels of a bank of bytes
  unfoldable pub bank_answer : (bank roms schedules logs : List ℕ) → ℕ → BankAnswer
  bank_answer bank roms schedules logs t = rounded (bank_number bank roms schedules logs) bank roms schedules logs t
