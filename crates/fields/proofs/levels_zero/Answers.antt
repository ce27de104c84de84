-- `levels_zero` tests the three entries of the stack, each by its level. Assumes nothing.
use Rattle.fields.proofs.Absent.{levels_tests}
use Rattle.std.proofs.Common.{arith}
use Rattle.std.proofs.lemmas.Grind.{common_steps}
use Rattle.fields.proofs.levels_zero.Goals as goal

pub returns : goal.returns
returns c = grind (arith, common_steps, levels_tests)
