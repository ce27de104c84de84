-- A refused run, and one that is accepted. Assumes nothing.
use mathlib.Core.Path.{◌∙◌}
use Rattle.runner.proofs.Refusing.{tells_refused}
use Rattle.runner.proofs.run.Goals as goal

pub returns-in-Err : goal.returns-in-Err
returns-in-Err c =
    let a = c.args in
    c.refused.ensures a.log.now
    ∙ tells_refused a.skips a.sheet a.rom.now a.sched.now a.log.now a.s a.n.0 c.in-Err.why c.in-Err.ensures
