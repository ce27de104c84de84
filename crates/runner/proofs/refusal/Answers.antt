-- The numbers of a refusal in their order. Assumes nothing.
use Rattle.runs.proofs.Refusals.{refusal-some}
use Rattle.runner.proofs.Refusing.{by_sheet, by_rom, by_schedule, by_state, by_limit, by_none}
use Rattle.std.proofs.Common.{arith}
use Rattle.std.proofs.lemmas.Grind.{common_steps}
use Rattle.runner.proofs.refusal.Goals as goal

pub returns-in_err-check_sheet : goal.returns-in_err-check_sheet
returns-in_err-check_sheet c = grind (arith, common_steps, by_sheet, refusal-some)

pub returns-then-rom-sheet : goal.returns-then-rom-sheet
returns-then-rom-sheet c = grind (arith, common_steps, by_rom)

pub returns-in_err-check : goal.returns-in_err-check
returns-in_err-check c = grind (arith, common_steps, by_schedule, refusal-some)

pub returns-in_err-check-2 : goal.returns-in_err-check-2
returns-in_err-check-2 c = grind (arith, common_steps, by_state, refusal-some)

pub returns-then-within_limit : goal.returns-then-within_limit
returns-then-within_limit c = grind (arith, common_steps, by_none)

pub returns : goal.returns
returns c = grind (arith, common_steps, by_limit)
