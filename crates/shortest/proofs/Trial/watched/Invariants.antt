-- The run piece by piece: where it stands at a stop, came back, or is done. Assumes nothing.
use Rattle.shortest.proofs.Watching.{Watching}
use Rattle.shortest.proofs.Trial.watched.Given as goal

abbrev pub invariant-loop-here : goal.invariant-loop-here
invariant-loop-here l = Watching l.self.sheet l.self.rom.now l.self.sched.now l.initial.old.state l.initial.old.left l.old l.here l.initial.log l.log

abbrev pub decreases-loop-here : goal.decreases-loop-here
decreases-loop-here l = l.here.left
