-- What the two loops keep: the panels that are still to come make of it what all make of the start. Assumes nothing.
use Rattle.std.proofs.Common.{◌++◌, drop}
use Rattle.upd546.specs.TwoRunners.{chip}
use Rattle.bank.proofs.Passes.{Noted, Served}
use Rattle.bank.proofs.round.Given as goal

abbrev pub invariant-loop-panel : goal.invariant-loop-panel
invariant-loop-panel l = Noted l.initial.course.count l.panel-index l.fn.bank l.course l.initial.course

abbrev pub invariant-loop-lent : goal.invariant-loop-lent
invariant-loop-lent l =
    Served (chip l.sheet) l.roms l.schedules l.initial.course.count l.lent-index (l.lent-items ++ drop l.initial.course.count l.fn.bank) l.logs l.course
    l.fn.bank l.fn.logs l.initial.course
