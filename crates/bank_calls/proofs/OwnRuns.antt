-- The call of an entry is the run of the panel that its image restores. Assumes nothing.
use mathlib.Core.Path.{◌≡◌, ◌∙◌, refl, ap, subst}
use mathlib.Core.List.{List}
use Prim.Native.Nat.{ℕ, suc, ◌<◌, ◌^◌}
use native.Mathlib.Nat.{le_of_eq}
use native.Mathlib.Omega.{arith}
use lib.ListN.{length, take, drop, length-take, length-drop}
use Rattle.runs.specs.declared.Version.TheVariants.{Two}
use Rattle.runs.specs.Lists.{skipping_one, refusal_of}
use Rattle.runs.specs.TwoRunners.{RunAnswer, got, current_number, current_answer}
use Rattle.upd546.specs.declared.State.{State}
use Rattle.upd546.specs.declared.Sheet.{Sheet}
use Rattle.upd546.specs.Bytes.{part}
use Rattle.upd546.specs.TwoRunners.{chip}
use Rattle.panels.specs.declared.Lot.{Lot}
use Rattle.calls.specs.Call.{BoardCall, on_restored, image_run, run_of, call_answer}
use Rattle.calls.specs.EveryCall.{call_refusal, TellsItsRun, CallChangesNothing, Refuses}
use Rattle.calls.proofs.Chip.{every_call_tells_its_run, every_finish_or_stop_rewrites, every_refusal_changes_nothing}
use Rattle.bank_calls.specs.Entries.{image_bytes, entry_needs, own_call, own_answer}
use Rattle.bank_calls.specs.Round.{lot_answer}
use Rattle.bank_calls.specs.OwnRuns.{panel_run, EveryEntryRunsItsPanel}

module _ (sheet : Sheet) (roms schedules logs entry : List ℕ) (lot : Lot) where
  -- the call of the entry
  abbrev call : BoardCall
  call =
      own_call chip sheet entry
      (part roms lot.at.rom (entry_needs entry).rom)
      (part schedules lot.at.schedule (entry_needs entry).schedule)
      (part logs lot.at.log (entry_needs entry).log)
      lot.grant.0

  -- the run of an image that isn't refused
  same_run : current_number (chip sheet) (take image_bytes entry) ≡ 0 → run_of (chip sheet) call ≡ panel_run sheet roms schedules logs entry lot
  unfolding image_run current_answer
  same_run e =
      let image : List ℕ = take image_bytes entry in
      let s : State = (chip sheet).of_image image in
      ap (λ (k : ℕ). on_restored (chip sheet) (got (chip sheet) k s).number (got (chip sheet) k s).state skipping_one call.rom call.sched call.log call.n) e

  part_short : length logs < 2 ^ 64 → length call.log < 2 ^ 64
  part_short h =
      omega (arith, h, length-take (entry_needs entry).log (drop lot.at.log logs), length-drop lot.at.log logs)

-- EVERY ENTRY RUNS ITS PANEL
pub every_entry_runs_its_panel : EveryEntryRunsItsPanel
unfolding lot_answer own_answer
every_entry_runs_its_panel sheet roms schedules logs entry lot accepted rom_bytes sched_bytes short =
    let c : BoardCall = call sheet roms schedules logs entry lot in
    let run : RunAnswer State = panel_run sheet roms schedules logs entry lot in
    let same : run_of (chip sheet) c ≡ run = same_run sheet roms schedules logs entry lot accepted in
    let tells : TellsItsRun (chip sheet) c = every_call_tells_its_run sheet c (part_short sheet roms schedules logs entry lot short) (le_of_eq refl) in
    let refusal : call_refusal (chip sheet) c ≡ refusal_of run.end = ap refusal_of (tells.end ∙ ap (λ (a : RunAnswer State). a.end) same) in
    record {
      end = tells.end ∙ ap (λ (a : RunAnswer State). a.end) same;
      log = tells.log ∙ ap (λ (a : RunAnswer State). a.log) same;
      cycles = tells.cycles ∙ ap (λ (a : RunAnswer State). a.cycles) same;
      begun = tells.begun ∙ ap (λ (a : RunAnswer State). a.begun) same;
      written = tells.written ∙ ap (λ (a : RunAnswer State). a.written) same;
      steps = tells.steps ∙ ap (λ (a : RunAnswer State). a.steps) same;
      image = λ none. (every_finish_or_stop_rewrites sheet c rom_bytes sched_bytes (refusal ∙ none)).image ∙ ap (λ (a : RunAnswer State). (chip sheet).image Two a.state) same;
      kept = λ k some. left_alone sheet c k (refusal ∙ some);
    }
  where
    left_alone : (sheet : Sheet) (c : BoardCall) (k : ℕ) → call_refusal (chip sheet) c ≡ suc k → (call_answer (chip sheet) c).image ≡ c.image
    left_alone sheet c k e =
        let nothing : Refuses (chip sheet) (suc k) c = subst (λ (j : ℕ). CallChangesNothing (chip sheet) j c) e (every_refusal_changes_nothing sheet c) in
        nothing.image
