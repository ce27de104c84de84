-- A sheet that is refused, a head that is, fields that are, and a state. Assumes nothing.
use mathlib.Core.Path.{sym}
use Rattle.runs.proofs.Refusals.{refusal-some}
use Rattle.restore.proofs.Reading.{head_length, restore-illegal, restore_head, restore_fields, restore_done}
use Rattle.std.proofs.Common.{arith}
use Rattle.std.proofs.lemmas.Grind.{common_steps}
use Rattle.restore.proofs.restore.Goals as goal

pub returns-in-Err : goal.returns-in-Err
returns-in-Err c = grind (arith, common_steps, restore-illegal, refusal-some)

pub returns-in-Err-head_check : goal.returns-in-Err-head_check
returns-in-Err-head_check c = grind (arith, common_steps, restore_head, refusal-some)

pub state_at-state-requires : goal.state_at-state-requires
state_at-state-requires c = head_length c.args.bytes.now (sym c.in_default-head_check.ensures)

pub returns-in-Err-check : goal.returns-in-Err-check
returns-in-Err-check c = grind (arith, common_steps, restore_fields, refusal-some)

pub returns : goal.returns
returns c = grind (arith, common_steps, restore_done)
