-- What the board's call answers, case by case, for whoever makes it. Assumes nothing.
use mathlib.Core.Path.{◌≡◌, ◌∙◌, refl, sym, ap}
use mathlib.Core.List.{List}
use Prim.Native.Nat.{ℕ, zero, suc, ◌≤◌, ◌<◌}
use lib.ListN.{length}
use borrow.Author.Tests.{le-leb, lt-leb}
use Rattle.runs.specs.declared.Version.TheVariants.{Two}
use Rattle.runs.specs.Machine.{Machine}
use Rattle.runs.specs.TwoRunners.{End, finished, stopped, refused, number_of_end, RunAnswer, refused_run, RestoreAnswer, save_answer, current_answer}
use Rattle.runs.specs.Lists.{Kind, refusal_of, run_answer}
use Rattle.runs.proofs.Calls.{run_refusal, run_refused}
use Rattle.calls.specs.Call.{BoardCall, kind_of, report_length, count_bytes, reported, on_restored, image_run, run_of, ran_call, answer_at_end, call_answer}

-- an end that isn't a refusal
abbrev pub NoRefusal : End → Type 0
NoRefusal finished = Unit {0}
NoRefusal (stopped k) = Unit {0}
NoRefusal (refused k) = ⊥

module _ {S : Type 0} (M : Machine S) where
  -- a run that counted nothing and left the log
  pub record Idle (lent : List ℕ) (a : RunAnswer S) : Type 0 where
    pub cycles : a.cycles ≡ 0
    pub begun : a.begun ≡ 0
    pub written : a.written ≡ 0
    pub steps : a.steps ≡ 0
    pub log : a.log ≡ lent

  restored_idle : (k : ℕ) (s : S) (kind : Kind) (rom sched log : List ℕ) (n j : ℕ) → (on_restored M k s kind rom sched log n).end ≡ refused (suc j)
      → Idle log (on_restored M k s kind rom sched log n)
  restored_idle zero s kind rom sched log n j e =
      let same : run_answer M kind rom sched s log n ≡ refused_run (suc j) s log
      = run_refused M kind rom sched s log n j (sym (run_refusal M kind rom sched s log n) ∙ ap refusal_of e) in
      record {
        cycles = ap (λ (a : RunAnswer S). a.cycles) same;
        begun = ap (λ (a : RunAnswer S). a.begun) same;
        written = ap (λ (a : RunAnswer S). a.written) same;
        steps = ap (λ (a : RunAnswer S). a.steps) same;
        log = ap (λ (a : RunAnswer S). a.log) same;
      }
  restored_idle (suc k) s kind rom sched log n j e = record { cycles = refl; begun = refl; written = refl; steps = refl; log = refl }

  pub idle : (c : BoardCall) (j : ℕ) → (run_of M c).end ≡ refused (suc j) → Idle c.log (run_of M c)
  unfolding image_run
  idle c j e =
      restored_idle (current_answer M c.image).number (current_answer M c.image).state (kind_of c.runner) c.rom c.sched c.log c.n j e

  -- The run of an image.

  -- a restore that is refused, with a number
  pub refused-image : (k : ℕ) (s : S) (kind : Kind) (image rom sched log : List ℕ) (n : ℕ) → (k ≡ 0 → ⊥) → record { number = k; state = s } ≡ current_answer M image
      → refused_run k s log ≡ image_run M kind image rom sched log n
  unfolding image_run
  refused-image zero s kind image rom sched log n h e = absurd (h refl)
  refused-image (suc k) s kind image rom sched log n h e =
      ap (λ (r : RestoreAnswer S). on_restored M r.number r.state kind rom sched log n) e

  -- a restore that is done
  pub done_image : (s : S) (kind : Kind) (image rom sched log : List ℕ) (n : ℕ) → record { number = 0; state = s } ≡ current_answer M image
      → run_answer M kind rom sched s log n ≡ image_run M kind image rom sched log n
  unfolding image_run
  done_image s kind image rom sched log n e =
      ap (λ (r : RestoreAnswer S). on_restored M r.number r.state kind rom sched log n) e

  -- The call.

  -- a run that finished or stopped is answered
  pub ran_answer : (c : BoardCall) (e : End) (a : RunAnswer S) → NoRefusal e → answer_at_end M c e a ≡ ran_call M c (number_of_end e) a
  ran_answer c finished a h = refl
  ran_answer c (stopped k) a h = refl
  ran_answer c (refused k) a h = absurd h

  -- a report that is too short
  pub short_call : (c : BoardCall) → length c.report < report_length
      → record { number = 1; image = c.image; log = c.log; report = c.report } ≡ call_answer M c
  unfolding call_answer
  short_call c h = rw (lt-leb report_length (length c.report) h)

  module _ (c : BoardCall) (long : report_length ≤ length c.report) (a : RunAnswer S) (same : a ≡ run_of M c)
      {report : List ℕ} (counts : report ≡ reported (count_bytes a.cycles a.begun a.written a.steps) c.report) where
    ended : call_answer M c ≡ answer_at_end M c a.end a
    unfolding call_answer
    ended = rw (le-leb report_length (length c.report) long, ← same)

    -- a refused run: what it counts are zeros
    pub refused_call : (k : ℕ) → (k ≡ 0 → ⊥) → a.end ≡ refused k → record { number = k; image = c.image; log = a.log; report = report } ≡ call_answer M c
    refused_call zero h e = absurd (h refl)
    refused_call (suc k) h e =
        let z = idle c k (sym (ap (λ (r : RunAnswer S). r.end) same) ∙ e) in
        let cycles : a.cycles ≡ 0 = ap (λ (r : RunAnswer S). r.cycles) same ∙ z.cycles in
        let begun : a.begun ≡ 0 = ap (λ (r : RunAnswer S). r.begun) same ∙ z.begun in
        let written : a.written ≡ 0 = ap (λ (r : RunAnswer S). r.written) same ∙ z.written in
        let steps : a.steps ≡ 0 = ap (λ (r : RunAnswer S). r.steps) same ∙ z.steps in
        let log : a.log ≡ c.log = ap (λ (r : RunAnswer S). r.log) same ∙ z.log in
        rw (counts, cycles, begun, written, steps, log) (sym (ended ∙ ap (λ (e : End). answer_at_end M c e a) e))

    -- a run that finished or stopped
    pub ran_call_lem : NoRefusal a.end → {image : List ℕ} → image ≡ (save_answer M Two a.state c.image).buffer
        → record { number = number_of_end a.end; image = image; log = a.log; report = report } ≡ call_answer M c
    ran_call_lem h e = rw (counts, e) (sym (ended ∙ ran_answer c a.end a h))
