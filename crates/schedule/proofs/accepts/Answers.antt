-- `accepts` asks whether a number refuses one record. Assumes nothing.
use native.Mathlib.Omega.{arith}
use Rattle.schedule.proofs.Records.{bad_bytes, by_order, order_first, order_not, order_kept}
use Rattle.std.proofs.lemmas.Grind.{common_steps}
use Rattle.schedule.proofs.accepts.Goals as goal

pub returns-then-not-levels_sound : goal.returns-then-not-levels_sound
returns-then-not-levels_sound c = grind (arith, common_steps, bad_bytes)

pub returns-then-i-eq0 : goal.returns-then-i-eq0
returns-then-i-eq0 c = grind (arith, common_steps, order_first, by_order)

pub returns : goal.returns
returns c = grind (arith, common_steps, order_not, order_kept, by_order)
