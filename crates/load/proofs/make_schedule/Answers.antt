-- A schedule that was made has few records. Assumes nothing.
use Rattle.std.proofs.Common.{arith, refl}
use Rattle.generator.proofs.Loads.{made_fits}
use Rattle.load.proofs.make_schedule.Goals as goal

pub overflow_mul-result : goal.overflow_mul-result
overflow_mul-result c = omega (arith, (made_fits _ _ _ c.in_ok-make_schedule.ensures refl).0)
