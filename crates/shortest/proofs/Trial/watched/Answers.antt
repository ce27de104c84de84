-- The run piece by piece: where it stands at a stop, came back, or is done. Assumes nothing.
use Rattle.std.proofs.Common.{◌-◌, ◌≤◌, arith}
use Rattle.shortest.proofs.Watching.{at_start, from_next, watching_next, ended}
use Rattle.shortest.proofs.Trial.watched.Goals as goal

pub loop-here-init : goal.loop-here-init
loop-here-init c =
    let a = c.args in
    rw (c.kept_at-old.ensures, c.kept_at-here.ensures)
    (at_start a.self.sheet a.self.rom.now a.self.sched.now a.s a.n a.self.rom_bytes
    a.self.sched_bytes a.log.now c.requires)

pub returns-then-here-next : goal.returns-then-here-next
returns-then-here-next c =
    let a = c.args in
    let l = c.loop-here in
    let d = c.min-d.result in
    let most : d ≤ l.here.left = omega (arith, c.min-d.ensures) in
    let f = c.forward-next in
    let watching = rw c.kept_at-old.ensures at l.invariant in
    rw c.kept_at.ensures
    (from_next a.self.sheet a.self.rom.now a.self.sched.now a.s a.n a.self.rom_bytes a.self.sched_bytes
    l.old l.here a.log.now l.log watching d most f.result f.ensures)

pub returns-then-came_back : goal.returns-then-came_back
returns-then-came_back c =
    let a = c.args in
    let l = c.loop-here in
    let d = c.min-d.result in
    let most : d ≤ l.here.left = omega (arith, c.min-d.ensures) in
    let f = c.forward-next in
    let watching = rw c.kept_at-old.ensures at l.invariant in
    let all : d ≤ l.here.left - f.result.left = omega (arith, c.if-here-next.false) in
    rw c.kept_at-then-came_back.ensures
    (ended a.self.sheet a.self.rom.now a.self.sched.now a.s a.n a.self.rom_bytes a.self.sched_bytes
    l.old l.here a.log.now l.log watching d most f.result f.ensures all (omega (arith, c.min-d.ensures, c.loop-here-test.true))
    (c.came_back.ensures c.if-came_back.true))

pub loop-here-preserved : goal.loop-here-preserved
loop-here-preserved c =
    let a = c.args in
    let l = c.loop-here in
    let d = c.min-d.result in
    let most : d ≤ l.here.left = omega (arith, c.min-d.ensures) in
    let f = c.forward-next in
    let watching = rw c.kept_at-old.ensures at l.invariant in
    let all : d ≤ l.here.left - f.result.left = omega (arith, c.if-here-next.false) in
    rw (c.kept_at-old.ensures, c.kept_at-here-in-loop-here.ensures)
    (watching_next a.self.sheet a.self.rom.now a.self.sched.now a.s a.n a.self.rom_bytes a.self.sched_bytes
    l.old l.here a.log.now l.log watching d most f.result f.ensures all _ c.forward-next.auto.log
    c.renewed-old.result c.renewed-old.ensures)
