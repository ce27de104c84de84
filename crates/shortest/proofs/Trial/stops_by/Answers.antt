-- From where the run is brought forward to it ends as it does from the start. Assumes nothing.
use mathlib.Core.Path.{◌∙◌, ap}
use Rattle.runs.specs.Numbers.{stop_number}
use Rattle.runs.specs.TwoRunners.{RunAnswer}
use Rattle.upd546.specs.declared.State.{State}
use Rattle.shortest.specs.Search.{stops_with}
use Rattle.shortest.proofs.Watching.{ends_from}
use Rattle.shortest.proofs.Trial.stops_by.Goals as goal

pub returns : goal.returns
returns c =
    let a = c.args in
    let w = c.watched-kept in
    c.stopped_by.ensures
    ∙ ap (stops_with (stop_number a.why))
    (ap (λ (r : RunAnswer State). r.end) c.run_skipping-a.ensures
    ∙ ends_from a.self.sheet a.self.rom.now a.self.sched.now a.s a.n w.result.state w.result.left
    a.self.rom_bytes a.self.sched_bytes w.ensures a.log.now _
    c.watched-kept.auto.log c.requires.room)
