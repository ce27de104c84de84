-- An image that is refused, and the run of one that isn't, by each of the runners. Assumes nothing.
use mathlib.Core.Path.{◌∙◌, sym, ap}
use Rattle.std.specs.Prelude.{Result}
use Rattle.runs.specs.declared.Refusal.{Refusal}
use Rattle.runs.specs.Numbers.{refusal_number}
use Rattle.upd546.specs.TwoRunners.{chip, restore_of}
use Rattle.runs.specs.Lists.{Kind, run_answer}
use Rattle.calls.specs.Call.{kind_of}
use Rattle.calls.proofs.Call.{refused-image, done_image}
use Rattle.runs.proofs.Refusals.{refusal-some}
use Rattle.board.proofs.Ends.{plain_kind, skipping-kind}
use Rattle.board.proofs.run_image.Goals as goal

pub returns-in-Err : goal.returns-in-Err
returns-in-Err c =
    let a = c.args in
    let same = sym (ap (λ (o : Result (Unit {0}) Refusal). restore_of (record { outcome = o; state = c.restore_current-restored.result.state })) c.in-Err.is) ∙ c.restore_current-restored.ensures in
    c.refused.ensures a.log.now
    ∙ refused-image (chip a.sheet) (refusal_number c.in-Err.why) _ (kind_of a.runner) a.image.now a.rom.now a.schedule.now
    a.log.now a.n
    (refusal-some c.in-Err.why) same

pub returns-then-runner-eq0 : goal.returns-then-runner-eq0
returns-then-runner-eq0 c =
    let a = c.args in
    let state = c.restore_current-restored.result.state in
    let same = sym (ap (λ (o : Result (Unit {0}) Refusal). restore_of (record { outcome = o; state = state })) c.in_default.is) ∙ c.restore_current-restored.ensures in
    c.run_plain.ensures
    ∙ ap (λ (k : Kind). run_answer (chip a.sheet) k a.rom.now a.schedule.now state a.log.now a.n)
    (plain_kind a.runner c.if-runner-eq0.true)
    ∙ done_image (chip a.sheet) state (kind_of a.runner) a.image.now a.rom.now a.schedule.now a.log.now a.n
    same

pub returns : goal.returns
returns c =
    let a = c.args in
    let state = c.restore_current-restored.result.state in
    let same = sym (ap (λ (o : Result (Unit {0}) Refusal). restore_of (record { outcome = o; state = state })) c.in_default.is) ∙ c.restore_current-restored.ensures in
    c.run_skipping.ensures
    ∙ ap (λ (k : Kind). run_answer (chip a.sheet) k a.rom.now a.schedule.now state a.log.now a.n)
    (skipping-kind a.runner c.if-runner-eq0.false)
    ∙ done_image (chip a.sheet) state (kind_of a.runner) a.image.now a.rom.now a.schedule.now a.log.now a.n
    same
