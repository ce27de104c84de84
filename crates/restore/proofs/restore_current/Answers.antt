-- A sheet that is refused, another length, and version 2's. Assumes nothing.
use mathlib.Core.Path.{◌∙◌, sym, ap}
use Rattle.runs.proofs.Calls.{current_long, current_other}
use Rattle.upd546.specs.TwoRunners.{chip, restore_of}
use Rattle.runs.proofs.Refusals.{refusal-some}
use Rattle.restore.proofs.Reading.{current_illegal}
use Rattle.std.proofs.Common.{arith}
use Rattle.std.proofs.lemmas.Grind.{common_steps}
use Rattle.restore.proofs.restore_current.Goals as goal

pub returns-in-Err : goal.returns-in-Err
returns-in-Err c = grind (arith, common_steps, current_illegal, refusal-some)

pub returns-then-bytes-ne-IMAGE_LENGTH : goal.returns-then-bytes-ne-IMAGE_LENGTH
returns-then-bytes-ne-IMAGE_LENGTH c =
    let args = c.args in
    ap restore_of c.refused-then-bytes-ne-IMAGE_LENGTH.ensures
    ∙ sym (current_other (chip args.sheet) args.bytes.now (sym c.in_default.ensures) c.if-bytes-ne-IMAGE_LENGTH.true)

pub returns : goal.returns
returns c =
    let args = c.args in
    c.restore.ensures ∙ sym (current_long (chip args.sheet) args.bytes.now c.if-bytes-ne-IMAGE_LENGTH.false)
