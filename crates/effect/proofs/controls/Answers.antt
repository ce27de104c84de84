-- Held back by what it skips, or begun with the group's parts. Assumes nothing.
use mathlib.Core.Path.{refl, ap}
use native.Mathlib.Omega.{arith}
use Rattle.upd546.specs.declared.Core.{Core}
use Rattle.upd546.specs.Parts.{with_timer, set_carry, set_saved, set_int, set_inte}
use Rattle.instructions.specs.Groups.{given_of, control_effect}
use Rattle.effect.proofs.Ends.{sized, over_small, begun_as}
use Rattle.effect.proofs.controls.Goals as goal

pub overflow_add-cycles : goal.overflow_add-cycles
overflow_add-cycles c =
    omega (arith, c.requires.two_cycles, over_small (sized c.args.chip.rom.now) c.args.chip.rom.now _ _ _ (c.in_ok-p.ensures (sized c.args.chip.rom.now) refl))

pub returns : goal.returns
returns c sheet same word ports =
    let a = c.args in
    let r = c.control_group-r.result in
    begun_as (control_effect (given_of sheet a.g word ports) r) (c.control_group-r.ensures sheet word ports) refl refl
    a.at (c.in_ok-p.ensures sheet same) a.cycles c.requires.cycles_are
    (ap (λ (x : Core). with_timer (set_inte r.inte (set_int r.int (set_saved r.saved (set_carry r.carry x)))) r.timer) c.begun-c.ensures)
