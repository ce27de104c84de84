-- An image that is refused, and a save as version 1, as version 2, and as another. Assumes nothing.
use mathlib.Core.Path.{◌≡◌, ◌∙◌, sym, ap}
use mathlib.Core.List.{List}
use mathlib.Core.Option.{Option, some}
use Prim.Native.Nat.{ℕ}
use Rattle.std.specs.Prelude.{Result}
use Rattle.std.proofs.Common.{arith}
use Rattle.runs.specs.declared.Refusal.{Refusal}
use Rattle.runs.specs.declared.Version.{Version}
use Rattle.runs.specs.Numbers.{refusal_number, outcome_number}
use Rattle.runs.specs.TwoRunners.{restore_answer}
use Rattle.runs.specs.Versions.{version_named, save_wanted, convert_answer}
use Rattle.runs.proofs.Refusals.{refusal-some}
use Rattle.runs.proofs.Versions.{unnamed, convert_refused, converts}
use Rattle.runs.specs.Machine.{Machine}
use Rattle.upd546.specs.declared.State.{State}
use Rattle.conversion.proofs.wharfnettle_convert.Goals as goal
use Rattle.conversion.proofs.wharfnettle_convert.Goals.{in-1, in-2}

-- what a restore answers, by its outcome
restored : (M : Machine State) (from : List ℕ) (s : State) {o p : Result (Unit {0}) Refusal}
    → restore_answer M from ≡ record { number = outcome_number o; state = s } → o ≡ p
    → restore_answer M from ≡ record { number = outcome_number p; state = s }
restored M from s r e = r ∙ ap (λ (q : Result (Unit {0}) Refusal). record { number = outcome_number q; state = s }) e

-- where it isn't refused, the conversion is a save of the state, as the version named
converted : (M : Machine State) (from to : List ℕ) (s : State) (version : ℕ) (v : Option Version)
    → restore_answer M from ≡ record { number = 0; state = s } → version_named version ≡ v → convert_answer M from to version ≡ save_wanted M v s to
converted M from to s version v r named = converts M from to s version r ∙ ap (λ (w : Option Version). save_wanted M w s to) named

pub returns-in-Err : goal.returns-in-Err
returns-in-Err c =
    let from = c.args.from.now in
    let s = c.restore-restored.result.state in
    rw c.refusal_number.ensures
    (sym
    (convert_refused _ from c.args.to.now (refusal_number c.in-Err.why) s c.args.version
    (restored _ from s (sym c.restore-restored.ensures) c.in-Err.is) (refusal-some c.in-Err.why)))

pub returns-in_default-version : goal.returns-in_default-version
returns-in_default-version c =
    let from = c.args.from.now in
    let s = c.restore-restored.result.state in
    let not_1 : c.args.version ≡ 1 → ⊥ = omega arith in
    let not_2 : c.args.version ≡ 2 → ⊥ = omega arith in
    let none_such = unnamed c.args.version not_1 not_2 in
    rw c.refusal_number-in_default-version.ensures
    (sym
    (converted _ from c.args.to.now s c.args.version _ (restored _ from s (sym c.restore-restored.ensures) c.in_default.is) none_such))

pub returns : goal.returns
returns c =
    let from = c.args.from.now in
    let s = c.restore-restored.result.state in
    let named : version_named c.args.version ≡ some c.match-version.wanted =
    elim c.match-version.branch [ in-1 w ↦ ap version_named w.in-1.is ∙ ap (λ (v : Version). some v) (sym w.wanted-is) | in-2 w ↦ ap version_named w.in-2.is ∙ ap (λ (v : Version). some v) (sym w.wanted-is) ] in
    rw c.outcome_number.ensures
    (c.save.ensures
    ∙ sym
    (converted _ from c.args.to.now s c.args.version _ (restored _ from s (sym c.restore-restored.ensures) c.in_default.is) named))
