-- Held back by what it skips, or begun with the group's parts and its word stored. Assumes nothing.
use mathlib.Core.Path.{◌∙◌, refl, sym, ap}
use Prim.Native.Nat.{ℕ}
use Rattle.upd546.specs.declared.Core.{Core}
use Rattle.upd546.specs.TheMachine.{place_in}
use Rattle.upd546.specs.Parts.{set_acc, set_carry}
use Rattle.decode.specs.Named.{named_sum}
use Rattle.instructions.specs.Groups.{given_of, sum_effect}
use Rattle.effect.specs.Endings.{effect_of}
use Rattle.effect.proofs.Places.{sum_at_dp}
use Rattle.effect.proofs.Ends.{begun_on}
use Rattle.effect.proofs.sums.Goals as goal

pub returns : goal.returns
returns c sheet same table ports =
    let a = c.args in
    let r = c.sum_group-r.result in
    begun_on sheet (named_sum a.op) a.g a.ram.now ports (sum_effect (given_of sheet a.g c.load.result ports) r) c.dp_place-place.result
    (c.dp_place-place.ensures sheet table ∙ ap (place_in sheet) (sym (sum_at_dp a.op a.g.core)))
    (ap (λ (word : ℕ). effect_of sheet (named_sum a.op) a.g word ports) (sym c.load.ensures) ∙ c.sum_group-r.ensures sheet ports) refl
    (c.in_ok-p.ensures sheet same) a.at a.cycles c.requires.0.cycles_are
    (ap (λ (x : Core). set_carry r.carry (set_acc r.acc x)) c.begun-c.ensures) c.store.ensures
