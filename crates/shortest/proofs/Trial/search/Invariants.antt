-- The trials from no record on, each from where the run with its records is brought forward to. Assumes nothing.
use Rattle.runs.specs.Numbers.{stop_number}
use Rattle.shortest.proofs.Searching.{Searching}
use Rattle.shortest.proofs.Trial.search.Given as goal

abbrev pub invariant-loop-k : goal.invariant-loop-k
invariant-loop-k l =
    Searching l.self.sheet l.self.rom.now l.self.sched.now l.initial.kept.state l.initial.kept.left (stop_number l.why) l.k l.kept.state l.kept.left l.initial.log l.log
