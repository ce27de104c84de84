-- An image that is refused, and what is found from the state of one that isn't. Assumes nothing.
use mathlib.Core.Path.{◌≡◌, ◌∙◌, sym, ap}
use mathlib.Core.List.{List}
use Prim.Native.Nat.{ℕ}
use Rattle.std.specs.Prelude.{Result}
use Rattle.std.proofs.lemmas.Result.{err_from_is_err_and}
use Rattle.runs.specs.declared.Refusal.{Refusal}
use Rattle.runs.specs.Numbers.{refusal_number, outcome_number}
use Rattle.runs.specs.TwoRunners.{current_answer}
use Rattle.runs.proofs.Refusals.{numbered}
use Rattle.upd546.specs.declared.State.{State}
use Rattle.upd546.specs.declared.Sheet.{Sheet}
use Rattle.upd546.specs.TwoRunners.{chip}
use Rattle.shortest.specs.Search.{found_of}
use Rattle.shortest_calls.proofs.Calling.{refused-in, done_in}
use Rattle.shortest_calls.proofs.find_in.Goals as goal

-- what the restore answers, by its outcome
restored : (sheet : Sheet) (image : List ℕ) (s : State) {o p : Result (Unit {0}) Refusal}
    → record { number = outcome_number o; state = s } ≡ current_answer (chip sheet) image → o ≡ p
    → record { number = outcome_number p; state = s } ≡ current_answer (chip sheet) image
restored sheet image s e h = ap (λ (q : Result (Unit {0}) Refusal). record { number = outcome_number q; state = s }) (sym h) ∙ e

pub returns-in_err-restored : goal.returns-in_err-restored
returns-in_err-restored c =
    let a = c.args in
    let why = c.in_err-restored.field-0.0 in
    let k = numbered why in
    let state = c.restore_current-restored.result.state in
    let p = err_from_is_err_and c.from_residual.result c.from_residual.ensures.1 in
    rw (p.1, p.2)
    (refused-in (chip a.sheet) a.image.now a.rom.now a.schedule.now a.n a.log.now (refusal_number why) k.0 state k.1
    (restored a.sheet a.image.now state c.restore_current-restored.ensures c.in_err-restored.was))

pub returns : goal.returns
returns c =
    let a = c.args in
    let state = c.restore_current-restored.result.state in
    done_in (chip a.sheet) a.image.now a.rom.now a.schedule.now a.n a.log.now state
    (restored a.sheet a.image.now state c.restore_current-restored.ensures c.in_ok-restored.was) (found_of c.find.result) _
    c.find.ensures.found c.find.ensures.left
