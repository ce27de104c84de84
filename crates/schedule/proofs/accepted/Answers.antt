-- `accepted` counts records up to one that a number refuses. The loop has passed i records that none refuses, and keeps the
-- greatest head with the cycle of the last. Assumes nothing.
use native.Mathlib.Omega.{arith}
use Rattle.schedule.proofs.Records.{one_more, none_refused, last_first, last_next}
use Rattle.std.proofs.lemmas.Grind.{common_steps}
use Rattle.schedule.proofs.accepted.Goals as goal

pub loop-i-init : goal.loop-i-init
loop-i-init c = (none_refused _, omega (arith, last_first c.args.sched.now))

pub loop-i-preserved : goal.loop-i-preserved
loop-i-preserved c = grind (arith, common_steps, one_more, last_next)
