-- 71, then 34, then 54, then 1, and then the image. Assumes nothing.
use mathlib.Core.Path.{◌∙◌, sym, ap, subst}
use Prim.Native.Nat.{ℕ, ◌≤◌}
use lib.ListN.{length}
use Rattle.runs.proofs.Refusals.{refusal-some}
use Rattle.upd546.specs.StateImage.{state_number}
use Rattle.laws.proofs.Sound.{accepted-valid}
use Rattle.save.proofs.Writing.{save_illegal, save_refused, save_old, save_short, save_done}
use Rattle.std.proofs.Common.{arith}
use Rattle.std.proofs.lemmas.Grind.{common_steps}
use Rattle.save.proofs.save.Goals as goal

pub returns-in_err-check_sheet : goal.returns-in_err-check_sheet
returns-in_err-check_sheet c = grind (arith, common_steps, save_illegal, refusal-some)

pub returns-in_err-check : goal.returns-in_err-check
returns-in_err-check c = grind (arith, common_steps, save_refused, refusal-some)

pub returns-then-not-can_hold : goal.returns-then-not-can_hold
returns-then-not-can_hold c = grind (arith, common_steps, save_old)

pub returns-then-buffer-image_length : goal.returns-then-buffer-image_length
returns-then-buffer-image_length c = grind (arith, common_steps, save_short)

pub write-requires : goal.write-requires
write-requires c =
    let args = c.args in (
      accepted-valid args.sheet args.s (sym (c.in_ok-check.ensures ∙ ap (state_number args.sheet) c.copied-given.ensures)),
      subst (λ (n : ℕ). n ≤ length args.buffer.now) c.image_length.ensures c.if-buffer-image_length.false,
    )

pub returns : goal.returns
returns c =
    let args = c.args in
    let buffer = args.buffer.now in
    save_done args.sheet args.version args.s buffer (sym c.in_ok-check_sheet.ensures)
    (sym (c.in_ok-check.ensures ∙ ap (state_number args.sheet) c.copied-given.ensures))
    (sym c.can_hold.ensures ∙ c.if-not-can_hold.false)
    (subst (λ (n : ℕ). n ≤ length buffer) c.image_length.ensures c.if-buffer-image_length.false) c.write.ensures
