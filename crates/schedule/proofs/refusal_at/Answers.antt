-- `refusal_at` answers the number of a record that one refuses. Assumes nothing.
use Rattle.schedule.proofs.Records.{bad_bytes, by_order, order_refused}
use Rattle.std.proofs.Common.{arith}
use Rattle.std.proofs.lemmas.Grind.{common_steps}
use Rattle.schedule.proofs.refusal_at.Goals as goal

pub returns-then-levels_sound : goal.returns-then-levels_sound
returns-then-levels_sound c = grind (arith, common_steps, by_order, order_refused)

pub returns : goal.returns
returns c = grind (arith, common_steps, bad_bytes)
