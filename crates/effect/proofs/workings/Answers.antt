-- Begun with the group's parts and its word stored. Assumes nothing.
use mathlib.Core.Path.{◌∙◌, refl, sym, ap}
use Prim.Native.Nat.{ℕ}
use Rattle.upd546.specs.declared.Core.{Core}
use Rattle.upd546.specs.Parts.{set_acc, set_dph, set_dpl}
use Rattle.decode.specs.Named.{named_working}
use Rattle.instructions.specs.Groups.{given_of, working_effect}
use Rattle.effect.specs.Endings.{effect_of}
use Rattle.effect.proofs.Ends.{begun_on_word}
use Rattle.effect.proofs.workings.Goals as goal

pub returns : goal.returns
returns c sheet rom ports =
    let a = c.args in
    let r = c.working_group-r.result in
    begun_on_word sheet (named_working a.op) a.g a.ram.now ports (working_effect (given_of sheet a.g c.load.result ports) r) c.working_place-place.result (c.working_place-place.ensures sheet a.g.core)
    (ap (λ (word : ℕ). effect_of sheet (named_working a.op) a.g word ports) (sym c.load.ensures) ∙ c.working_group-r.ensures sheet ports) refl refl
    rom a.at a.cycles c.requires.0
    (ap (λ (x : Core). set_dpl r.dpl (set_dph r.dph (set_acc r.acc x))) c.begun-c.ensures) c.store.ensures
