-- The trials from no record on, each from where the run with its records is brought forward to. Assumes nothing.
use Rattle.std.proofs.Common.{◌∙◌, sym, arith}
use Rattle.runs.specs.Numbers.{stop_number}
use Rattle.shortest.proofs.Searching.{at_start, at_end, is_found, next}
use Rattle.std.proofs.lemmas.Grind.{common_steps}
use Rattle.shortest.proofs.Trial.search.Goals as goal

pub loop-k-init : goal.loop-k-init
loop-k-init c =
    let a = c.args in
    at_start a.self.sheet a.self.rom.now a.self.sched.now a.s a.n (stop_number a.why) a.log.now c.requires

pub returns-then-stops_with_first : goal.returns-then-stops_with_first
returns-then-stops_with_first c = grind (arith, common_steps, is_found)

pub returns : goal.returns
returns c = grind (arith, common_steps, at_end)

pub loop-k-preserved : goal.loop-k-preserved
loop-k-preserved c =
    let a = c.args in
    let l = c.loop-k in
    let r = c.brought-kept.result in
    next a.self.sheet a.self.rom.now a.self.sched.now a.s a.n (stop_number a.why) l.k l.kept.state l.kept.left a.log.now l.log
    l.invariant c.loop-k-test.true r.state r.left c.brought-kept.ensures _ (c.stops_with_first.auto.log ∙ c.brought-kept.auto.log)
    (sym c.if-stops_with_first.false ∙ c.stops_with_first.ensures)
