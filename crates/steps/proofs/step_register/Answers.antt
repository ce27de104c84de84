-- The register's next value, computed for all 256. Assumes nothing.
use Prim.Native.Nat.{◌+◌, ◌*◌, ◌/◌, ◌%◌}
use lib.Dec.{eqb, eqb→eq}
use Rattle.upd546.specs.Timer.{step_register}
use Rattle.upd546.proofs.Computed.{every_at}
use borrow.Author.Rules.{rules}
use Rattle.steps.proofs.step_register.Goals as goal

pub returns : goal.returns
unfolding step_register
returns c = eqb→eq _ _ (every_at (λ r. eqb (2 * (r % 32) + (r / 32 + r / 16) % 2) (step_register r)) 256 tt c.args.r (search rules))
