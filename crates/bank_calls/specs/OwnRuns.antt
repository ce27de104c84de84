-- A bank of bytes and a bank of panels: the call of an entry is the run of the panel that its image restores. Assumes nothing: these are
-- definitions.
use Rattle.std.specs.Prelude.{ℕ, suc, ◌^◌, ◌<◌, ◌≡◌, List, length, take}
use Rattle.runs.specs.declared.Version.TheVariants.{Two}
use Rattle.runs.specs.Laws.{Bytes}
use Rattle.runs.specs.Lists.{refusal_of}
use Rattle.runs.specs.TwoRunners.{RunAnswer, current_number}
use Rattle.upd546.specs.declared.State.{State}
use Rattle.upd546.specs.declared.Sheet.{Sheet}
use Rattle.upd546.specs.Bytes.{part, number_at}
use Rattle.upd546.specs.TwoRunners.{chip}
use Rattle.panels.specs.declared.Lot.{Lot}
use Rattle.panels.specs.Round.{own_run}
use Rattle.calls.specs.Call.{BoardAnswer}
use Rattle.calls.specs.EveryCall.{end_by}
use Rattle.bank_calls.specs.Entries.{image_bytes, entry_needs}
use Rattle.bank_calls.specs.Round.{lot_answer}

module _ (sheet : Sheet) (roms schedules logs entry : List ℕ) (lot : Lot) where
  -- what stands in the entry and in its part of the logs after a round (`served` and `written` in specs/Round)
  abbrev pub answer : BoardAnswer
  answer = lot_answer chip sheet roms schedules logs entry lot

  -- the run of the panel in a round of panels (`served` and `written` in `panels`)
  abbrev pub panel_run : RunAnswer State
  panel_run = own_run (chip sheet) roms schedules logs (entry_needs entry) lot ((chip sheet).of_image (take image_bytes entry))

  -- number, log and counts are those of that run; the image is that of its state, saved again, or stays where the run is refused
  pub record RunsItsPanel : Type 0 where
    pub end : end_by answer.number ≡ panel_run.end
    pub log : answer.log ≡ panel_run.log
    pub cycles : number_at answer.report 0 8 ≡ panel_run.cycles
    pub begun : number_at answer.report 8 8 ≡ panel_run.begun
    pub written : number_at answer.report 16 8 ≡ panel_run.written
    pub steps : number_at answer.report 24 8 ≡ panel_run.steps
    pub image : refusal_of panel_run.end ≡ 0 → answer.image ≡ (chip sheet).image Two panel_run.state
    pub kept : (k : ℕ) → refusal_of panel_run.end ≡ suc k → answer.image ≡ take image_bytes entry

-- so of every entry whose image isn't refused, for any lot; its ROM and schedule are bytes, and a slice's length is below 2^64
abbrev pub EveryEntryRunsItsPanel : Type 0
EveryEntryRunsItsPanel =
    (sheet : Sheet) (roms schedules logs entry : List ℕ) (lot : Lot) → current_number (chip sheet) (take image_bytes entry) ≡ 0
    → Bytes (part roms lot.at.rom (entry_needs entry).rom) → Bytes (part schedules lot.at.schedule (entry_needs entry).schedule)
    → length logs < 2 ^ 64 → RunsItsPanel sheet roms schedules logs entry lot
