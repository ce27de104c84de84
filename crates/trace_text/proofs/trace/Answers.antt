-- An input that is too short, and one that is split and run. Assumes nothing.
use mathlib.Core.Path.{refl}
use Rattle.laws.proofs.Tails.{mid_tail}
use Rattle.text.proofs.Writing.{told}
use Rattle.trace_text.proofs.Texts.{traced, short_text, long_text}
use Rattle.trace_text.proofs.trace.Goals as goal

pub returns-then-input-lt-SCHEDULE_AT : goal.returns-then-input-lt-SCHEDULE_AT
returns-then-input-lt-SCHEDULE_AT c =
    let t = c.new-text.ensures in
    let refused = told (short_text c.args.input.now c.if-input-lt-SCHEDULE_AT.true) c.push_refused.ensures in
    traced t.same_bytes t.empty refused c.len.ensures

pub returns : goal.returns
returns c =
    let t = c.new-text.ensures in
    let input = c.args.input.now in
    let same = long_text input c.if-input-lt-SCHEDULE_AT.false refl (mid_tail 2004 input) c.empty_log-log.ensures.0 c.number_at.ensures.0 in
    traced t.same_bytes t.empty (told same c.put_run.ensures) c.len-2.ensures
