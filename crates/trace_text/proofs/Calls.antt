-- The board's call on the image of a fresh state, with the plain runner, tells the plain run of the fresh state. Assumes nothing.
use mathlib.Core.Path.{◌≡◌, ◌∙◌, refl, sym, ap, subst}
use mathlib.Core.Bool.{Bool, true, false, cond}
use lib.Dec.{eqb}
use mathlib.Core.List.{List}
use Prim.Native.Nat.{ℕ, zero, suc, ◌^◌, ◌<◌, ◌≤◌}
use native.Mathlib.Omega.{arith}
use lib.ListN.{length}
use borrow.Author.Tests.{ne_eqb}
use Rattle.runs.specs.declared.Version.TheVariants.{Two}
use Rattle.runs.specs.Numbers.{is_stop}
use Rattle.runs.specs.TwoRunners.{End, stopped, refused, RunAnswer, SaveAnswer, plain, save_answer}
use Rattle.runs.specs.Lists.{plain_one}
use Rattle.runs.proofs.Calls.{current_long}
use Rattle.upd546.specs.declared.State.{State}
use Rattle.upd546.specs.declared.Sheet.{Sheet}
use Rattle.upd546.specs.TheMachine.{fresh}
use Rattle.upd546.specs.TheSheet.{upd546_sheet}
use Rattle.upd546.specs.StateImage.{image_length, image_of}
use Rattle.upd546.specs.TwoRunners.{chip, upd546}
use Rattle.upd546.specs.Reports.{on_end, run_text}
use Rattle.laws.proofs.Demand3.{image_laws}
use Rattle.calls.specs.Call.{BoardCall, BoardAnswer, report_length, run_of, call_answer, board_answer}
use Rattle.calls.specs.EveryCall.{end_by, TellsItsRun}
use Rattle.calls.proofs.Call.{done_image}
use Rattle.calls.proofs.EveryCall.{saves_over, back}
use Rattle.calls.proofs.Chip.{every_call_tells_its_run}
use Rattle.trace_text.specs.declared.Ended.{Ended}
use Rattle.trace_text.specs.Texts.{TellsRun, ended_by, answer_text}
use Rattle.trace_text.proofs.Inputs.{accepted-sheet, sound}

-- a save of the fresh state over an image's bytes leaves its image
pub fresh_image : (buffer after : List ℕ) {k : ℕ} → length buffer ≡ image_length Two → record { number = k; buffer = after } ≡ save_answer upd546 Two fresh buffer
    → after ≡ image_of Two fresh
fresh_image buffer after h e = ap (λ (a : SaveAnswer). a.buffer) (e ∙ saves_over upd546 (image_laws upd546_sheet) accepted-sheet fresh buffer sound h)

module _ (rom sched log report : List ℕ) (n : ℕ) where
  abbrev fresh_call : List ℕ → Sheet → BoardCall
  fresh_call image sheet =
      record { image = image; rom = rom; sched = sched; log = log; n = n; runner = 0; report = report; sheet = sheet }

  fresh_run : (image : List ℕ) → image ≡ image_of Two fresh → run_of upd546 (fresh_call image upd546_sheet) ≡ plain upd546 rom sched fresh log n
  fresh_run image e =
      let images = image_laws upd546_sheet in
      let long : length image ≡ image_length Two = ap length e ∙ images.image_length_is Two fresh sound (images.two_holds_all fresh) in
      let restored = current_long upd546 image long ∙ back upd546 images accepted-sheet fresh image sound e in
      sym (done_image upd546 fresh plain_one image rom sched log n (sym restored))

  -- what the call answers and leaves, given a sheet that is the old figures
  pub call_ends : (image : List ℕ) (sheet : Sheet) {k : ℕ} {image' log' report' : List ℕ} → image ≡ image_of Two fresh
      → length log < 2 ^ 64 → report_length ≤ length report → sheet ≡ upd546_sheet
      → record { number = k; image = image'; log = log'; report = report' } ≡ board_answer chip (fresh_call image sheet)
      → TellsRun (plain upd546 rom sched fresh log n) (ended_by k report') log'
  call_ends image sheet {k} {image'} {log'} {report'} e small long old same =
      let c = fresh_call image upd546_sheet in
      let told : TellsItsRun upd546 c = every_call_tells_its_run upd546_sheet c small long in
      let z : BoardAnswer = record { number = k; image = image'; log = log'; report = report' } in
      let answers : z ≡ call_answer upd546 c = same ∙ ap (λ (x : Sheet). board_answer chip (fresh_call image x)) old in
      subst (λ (a : RunAnswer State). TellsRun a (ended_by z.number z.report) z.log) (fresh_run image e)
      (subst (λ (z : BoardAnswer). TellsRun (run_of upd546 c) (ended_by z.number z.report) z.log) (sym answers)
      (record {
        end = told.end;
        cycles = told.cycles;
        begun = told.begun;
        written = told.written;
        same_log = told.log;
      }))

pub same_end : {a : RunAnswer State} {ended ended' : Ended} {log : List ℕ} → ended ≡ ended' → TellsRun a ended' log → TellsRun a ended log
same_end {a} {log = log} e s = subst (λ (z : Ended). TellsRun a z log) (sym e) s

-- THE TEXT

-- by the number alone
number_text : (a : RunAnswer State) (ended : Ended) (log : List ℕ) → TellsRun a ended log → (k : ℕ) → ended.number ≡ k → answer_text ended log ≡ on_end (end_by k) a
number_text a ended log s zero e = rw (e, s.cycles, s.begun, s.written, s.same_log)
number_text a ended log s (suc k) e = go (is_stop (suc k)) refl
  where
    some_number : eqb (suc k) 0 ≡ false
    some_number = ne_eqb (suc k) 0 (λ (z : suc k ≡ 0). omega arith)

    go : (b : Bool) → is_stop (suc k) ≡ b → answer_text ended log ≡ on_end (cond b (stopped (suc k)) (refused (suc k))) a
    go true h = rw (e, some_number, h, s.cycles, s.begun, s.written, s.same_log)
    go false h = rw (e, some_number, h)

-- the text of a call is the run's
pub run_text_lem : (rom sched log : List ℕ) (n : ℕ) (ended : Ended) {log' : List ℕ} → TellsRun (plain upd546 rom sched fresh log n) ended log'
    → answer_text ended log' ≡ run_text rom sched log n
unfolding run_text
run_text_lem rom sched log n ended {log'} s =
    let a : RunAnswer State = plain upd546 rom sched fresh log n in
    number_text a ended log' s ended.number refl ∙ ap (λ (e : End). on_end e a) s.end
