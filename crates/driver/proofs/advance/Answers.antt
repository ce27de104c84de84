-- The run of either runner, with its answer told as a machine and a report. Assumes nothing.
use mathlib.Core.Path.{◌∙◌, sym, ap}
use Rattle.runs.specs.Lists.{run_answer}
use Rattle.upd546.specs.TwoRunners.{chip}
use Rattle.driver.specs.Lending.{runner_kind}
use Rattle.driver.specs.declared.Runner.{Runner}
use Rattle.driver.proofs.advance.Goals as goal

pub returns-in-Plain : goal.returns-in-Plain
returns-in-Plain c =
    let a = c.args in
    c.told.ensures _
    ∙ c.run_plain.ensures
    ∙ ap (λ (k : Runner).
    run_answer (chip a.sheet) (runner_kind k) a.rom.now a.sched.now a.machine.state a.log.now a.n.0)
    (sym c.in-Plain.is)

pub returns-in-Skipping : goal.returns-in-Skipping
returns-in-Skipping c =
    let a = c.args in
    c.told-in-Skipping.ensures _
    ∙ c.run_skipping.ensures
    ∙ ap (λ (k : Runner).
    run_answer (chip a.sheet) (runner_kind k) a.rom.now a.sched.now a.machine.state a.log.now a.n.0)
    (sym c.in-Skipping.is)
