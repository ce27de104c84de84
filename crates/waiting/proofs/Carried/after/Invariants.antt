-- `after` changes the landings one by one. Assumes nothing.
use Rattle.waiting.proofs.Landings.{AfterTo}
use Rattle.waiting.proofs.Carried.after.Given as goal

abbrev pub invariant-loop-i : goal.invariant-loop-i
invariant-loop-i l = AfterTo l.self.lamps l.lamps l.r.cycle.0 l.self.landings l.i l.landing-items
