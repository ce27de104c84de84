-- An end that is no stop. Assumes nothing.
use mathlib.Core.Path.{◌≡◌, refl}
use mathlib.Core.Option.{Option, none, some}
use Prim.Native.Nat.{ℕ}
use native.Mathlib.Omega.{arith}
use Rattle.runs.specs.declared.Refusal.{Refusal}
use Rattle.runs.specs.declared.RunEnd.{RunEnd}
use Rattle.runs.specs.declared.RunEnd.TheVariants.{Finished, Stopped, Refused}
use Rattle.runs.specs.declared.Stop.{Stop}
use Rattle.runs.specs.Numbers.{end_of}
use Rattle.runs.specs.Lists.{refusal_of}
use Rattle.runs.specs.TwoRunners.{finished, end_with}

-- where an end is no stop, and the run wasn't refused, it finished
pub then_finished : (e : RunEnd) (o : Option ℕ) → ((s : Stop) → e ≡ Stopped s → ⊥) → end_of e ≡ end_with o → end_of e ≡ finished
then_finished Finished o h q = refl
then_finished (Stopped s) o h q = absurd (h s refl)
then_finished (Refused r) none h q = cc
then_finished (Refused r) (some k) h q = let z : ◌≡◌ {A = ℕ} 0 1 = cc in absurd (omega arith)

-- where an end is no refusal
pub then_taken : (e : RunEnd) → ((r : Refusal) → e ≡ Refused r → ⊥) → refusal_of (end_of e) ≡ 0
then_taken Finished h = refl
then_taken (Stopped s) h = refl
then_taken (Refused r) h = absurd (h r refl)
