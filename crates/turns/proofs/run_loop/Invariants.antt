-- The loops of both runners: where they stand, the reset line, a jump, a stop, a turn, the next record, the finish. Assumes nothing.
use Prim.Native.Nat.{◌-◌}
use Rattle.upd546.specs.Parts.{with_count, state_of}
use Rattle.turns.proofs.Turning.{ByRecords, ToLimit}
use Rattle.turns.proofs.run_loop.Given as goal

abbrev pub invariant-loop-number-2 : goal.invariant-loop-number-2
invariant-loop-number-2 l =
    ToLimit l.panel.sheet l.panel.skips l.panel.rom.now l.panel.sched.now l.lines l.n l.start l.limit l.before l.count
    (record { core = l.initial.core; ram = l.initial.ram; ports = l.initial.ports; log = l.initial.log; at = l.initial.at; number = l.initial.number; begun = l.initial.begun; spared = l.initial.spared })
    (record { core = l.core; ram = l.ram; ports = l.ports; log = l.log; at = l.at; number = l.number; begun = l.begun; spared = l.spared })

abbrev pub decreases-loop-number-2 : goal.decreases-loop-number-2
decreases-loop-number-2 l =
    l.limit - l.number

abbrev pub invariant-loop-number : goal.invariant-loop-number
invariant-loop-number l =
    ByRecords l.panel.sheet l.panel.skips l.panel.rom.now l.panel.sched.now l.initial.log l.n (with_count l.initial.count (state_of l.initial.core l.initial.ram l.initial.ports l.start)) l.cursor
    (record { core = l.core; ram = l.ram; ports = l.ports; log = l.log; at = l.at; number = l.number; begun = l.begun; spared = l.spared }) l.count

abbrev pub decreases-loop-number : goal.decreases-loop-number
decreases-loop-number l =
    l.end - l.number
