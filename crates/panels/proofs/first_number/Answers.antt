-- 71, then 61. Assumes nothing.
use Rattle.runs.proofs.Refusals.{refusal-some}
use Rattle.panels.proofs.Cuts.{first_is, few_enough, too_many}
use Rattle.std.proofs.Common.{arith}
use Rattle.std.proofs.lemmas.Grind.{common_steps}
use Rattle.panels.proofs.first_number.Goals as goal

pub returns-in-Err : goal.returns-in-Err
returns-in-Err c = grind (arith, common_steps, first_is, refusal-some)

pub returns-then-m-le-MOST_PANELS : goal.returns-then-m-le-MOST_PANELS
returns-then-m-le-MOST_PANELS c = grind (arith, common_steps, few_enough)

pub returns-else-m-le-MOST_PANELS : goal.returns-else-m-le-MOST_PANELS
returns-else-m-le-MOST_PANELS c = grind (arith, common_steps, too_many)
