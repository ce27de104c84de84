-- Held back by what it skips, or begun with the group's parts. Assumes nothing.
use mathlib.Core.Path.{refl, ap}
use native.Mathlib.Omega.{arith}
use Rattle.upd546.specs.declared.Core.{Core}
use Rattle.upd546.specs.Parts.{set_acc, set_dph, set_dpl}
use Rattle.instructions.specs.Groups.{given_of, move_effect}
use Rattle.effect.proofs.Ends.{sized, over_small, begun_as}
use Rattle.effect.proofs.moves.Goals as goal

pub overflow_add-cycles : goal.overflow_add-cycles
overflow_add-cycles c =
    omega (arith, c.requires.two_cycles, over_small (sized c.args.chip.rom.now) c.args.chip.rom.now _ _ _ (c.in_ok-p.ensures (sized c.args.chip.rom.now) refl))

pub returns : goal.returns
returns c sheet same word ports =
    let a = c.args in
    let r = c.move_group-r.result in
    begun_as (move_effect (given_of sheet a.g word ports) r) (c.move_group-r.ensures sheet word ports) refl refl
    a.at (c.in_ok-p.ensures sheet same) a.cycles c.requires.cycles_are
    (ap (λ (x : Core). set_dpl r.dpl (set_dph r.dph (set_acc r.acc x))) c.begun-c.ensures)
