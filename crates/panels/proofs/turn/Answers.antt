-- One panel's turn, joined of its lot, its run and what is carried on. Assumes nothing.
use mathlib.Core.Path.{◌∙◌, ap}
use Rattle.upd546.specs.TwoRunners.{chip}
use Rattle.panels.specs.Courses.{lot_of}
use Rattle.panels.specs.Round.{own_run, with_part, panel_after, turn_run, turn_logs}
use Rattle.panels.proofs.turn.Goals as goal

pub returns : goal.returns
unfolding turn_run turn_logs lot_of
returns c =
    let lot = c.lot_of-lot.ensures in
    let a = c.args in
    let M = chip a.sheet in (
      c.kept.ensures _ ∙ ap (panel_after a.p) c.run_lot-a.ensures.0
          ∙ (λ j. panel_after a.p (own_run M a.roms.now a.schedules.now a.logs.now a.p.needs (lot j) a.p.state)),
      (
        c.after.ensures,
        c.run_lot-a.ensures.1
            ∙ (λ j. with_part a.logs.now (lot j).at.log a.p.needs.log (own_run M a.roms.now a.schedules.now a.logs.now a.p.needs (lot j) a.p.state).log),
      ),
    )
