-- Held back by what it skips, or begun with the group's parts. Assumes nothing.
use mathlib.Core.Path.{refl, ap}
use Rattle.upd546.specs.declared.Core.{Core}
use Rattle.instructions.specs.Groups.{given_of, test_effect}
use Rattle.effect.proofs.Ends.{begun_as}
use Rattle.effect.proofs.tests.Goals as goal

pub returns : goal.returns
returns c sheet same word ports =
    let a = c.args in
    let r = c.test_group-skip.result in
    begun_as (test_effect (given_of sheet a.g word ports) r) (c.test_group-skip.ensures sheet word ports) refl refl
    a.at (c.in_ok-p.ensures sheet same) a.cycles c.requires.cycles_are
    (ap (λ (x : Core). x) c.begun-c.ensures)
