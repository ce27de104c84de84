-- A restore where version 2 is due answers no number. Assumes nothing.
use mathlib.Core.Path.{◌∙◌, ap}
use Prim.Native.Nat.{ℕ}
use lib.Dec.{eqb}
use Rattle.runs.specs.TwoRunners.{RestoreAnswer, current_number, current_answer}
use Rattle.runs.proofs.Calls.{got_number}
use Rattle.upd546.specs.declared.State.{State}
use Rattle.upd546.specs.StateImage.{of_image}
use Rattle.upd546.specs.TwoRunners.{chip}
use Rattle.store.proofs.Answers.{done_number}
use Rattle.store.proofs.is_accepted.Goals as goal

pub returns : goal.returns
unfolding current_answer
returns c =
    let a = c.args in
    let image = a.image.now in
    c.is_ok.ensures.value
    ∙ done_number c.restore_current-restored.result.outcome
    ∙ ap (λ (k : ℕ). eqb k 0)
    (ap (λ (r : RestoreAnswer State). r.number) c.restore_current-restored.ensures
    ∙ got_number (chip a.sheet) (current_number (chip a.sheet) image) (of_image image))
