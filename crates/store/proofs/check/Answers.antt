-- A sheet that is refused, a store, a name, and none of them. Assumes nothing.
use Rattle.runs.proofs.Refusals.{refusal-some}
use Rattle.store.proofs.Answers.{judged_own, judged_store, judged_name, judged_none}
use Rattle.std.proofs.Common.{arith}
use Rattle.std.proofs.lemmas.Grind.{common_steps}
use Rattle.store.proofs.check.Goals as goal

pub returns-in_err-check_sheet : goal.returns-in_err-check_sheet
returns-in_err-check_sheet c = grind (arith, common_steps, judged_own, refusal-some)

pub returns-then-not-is_well_formed : goal.returns-then-not-is_well_formed
returns-then-not-is_well_formed c = grind (arith, common_steps, judged_store)

pub returns-then-not-is_name : goal.returns-then-not-is_name
returns-then-not-is_name c = grind (arith, common_steps, judged_name)

pub returns : goal.returns
returns c = grind (arith, common_steps, judged_none)
