-- The loops of a burst: an instruction that isn't begun, the next event after it, the end of a burst, the next instruction. Assumes
-- nothing.
use Prim.Native.Nat.{◌-◌}
use Rattle.burst.proofs.Riding.{Rides, Follows}
use Rattle.burst.proofs.burst.Given as goal

abbrev pub invariant-loop-o-2 : goal.invariant-loop-o-2
invariant-loop-o-2 l =
    Follows l.panel.skips l.panel.rom.now l.panel.sched.now l.panel.table.now l.panel.rows.now l.panel.positions.now l.chip.levels l.lines l.limit l.place l.already
    (record { core = l.initial.core; ram = l.initial.ram; ports = l.initial.ports; log = l.initial.log; at = l.initial.at; done = l.initial.done; begun = l.initial.begun; horizon = l.initial.horizon; since = l.initial.since; watch = l.initial.watch })
    (record { core = l.core; ram = l.ram; ports = l.ports; log = l.log; at = l.at; done = l.done; begun = l.begun; horizon = l.horizon; since = l.since; watch = l.watch })
    l.near

abbrev pub decreases-loop-o-2 : goal.decreases-loop-o-2
decreases-loop-o-2 l =
    l.limit - l.done

abbrev pub invariant-loop-o : goal.invariant-loop-o
invariant-loop-o l =
    Rides l.panel.skips l.panel.rom.now l.panel.sched.now l.panel.table.now l.panel.rows.now l.panel.positions.now l.chip.levels l.lines l.limit l.n l.initial.ram l.initial.ports l.initial.log l.place l.already l.initial.core
    (record { core = l.core; ram = l.ram; ports = l.ports; log = l.log; at = l.at; done = l.done; begun = l.begun; horizon = l.horizon; since = l.since; watch = l.watch })

abbrev pub decreases-loop-o : goal.decreases-loop-o
decreases-loop-o l =
    l.limit - l.done
