-- The run on parts that are cut where their buffers end is the panel's own. Assumes nothing.
use Rattle.panels.proofs.Cuts.{own_run_lem}
use Rattle.panels.proofs.run_lot.Goals as goal

pub returns : goal.returns
returns c =
    let a = c.args in
    own_run_lem a.sheet a.roms.now a.schedules.now a.logs.now a.n a.lot a.s c.run_skipping.result _ c.past-r0.ensures c.past-r1.ensures c.past-s0.ensures c.past-s1.ensures c.past-l0.ensures c.past-l1.ensures c.run_skipping.ensures
