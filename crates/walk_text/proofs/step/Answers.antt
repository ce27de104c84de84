-- A cycle that isn't done, and one that is. Assumes nothing.
use Rattle.walk_text.proofs.Stepping.{as_one, accepted, not_done, done}
use Rattle.walk_text.proofs.step.Goals as goal

pub cycle_walked-w-requires : goal.cycle_walked-w-requires
cycle_walked-w-requires c =
    let a = c.args in
    let rom = a.rom.now in
    let sched = a.sched.now in
    let one = as_one rom sched a.s c.upd546_sheet-sheet.ensures c.run_plain-ran.ensures in
    accepted rom sched a.s c.run_plain-ran.result _ one c.in-Finished.is

pub returns-in_default : goal.returns-in_default
returns-in_default c =
    let a = c.args in
    let one = as_one a.rom.now a.sched.now a.s c.upd546_sheet-sheet.ensures c.run_plain-ran.ensures in
    not_done a.rom.now a.sched.now a.s c.run_plain-ran.result _ one a.over a.out.now c.in_default.not-Finished

pub returns : goal.returns
returns c =
    let a = c.args in
    let one = as_one a.rom.now a.sched.now a.s c.upd546_sheet-sheet.ensures c.run_plain-ran.ensures in
    let t = c.new-text.ensures in
    done a.rom.now a.sched.now a.s c.run_plain-ran.result _ one a.over c.in-Finished.is c.cycle_walked-w.ensures t.same_bytes t.empty
    c.put_line.ensures c.len.ensures c.over_after.ensures
