-- `check` answers the number of its schedule. Assumes nothing.
use mathlib.Core.Path.{◌≡◌, ◌∙◌, sym, ap}
use native.Mathlib.Omega.{arith}
use Rattle.upd546.specs.TheLineSchedule.{record_count, records_number}
use Rattle.schedule.proofs.Records.{too_long, no_multiple, by_records, refused-at}
use Rattle.schedule.proofs.check.Goals as goal

pub returns-then-sched-gt-MAX_LENGTH : goal.returns-then-sched-gt-MAX_LENGTH
returns-then-sched-gt-MAX_LENGTH c = sym (too_long _ (omega arith))

pub returns-then-sched-ne0 : goal.returns-then-sched-ne0
returns-then-sched-ne0 c = sym (no_multiple _ (omega arith) (omega arith))

pub returns-then-i-sched : goal.returns-then-i-sched
returns-then-i-sched c =
    let found = c.accepted-i.ensures in
    c.refusal_at.ensures ∙ sym (refused-at _ _ (omega arith) (omega arith) (omega arith) found.passed (found.refused (omega arith)))

pub returns : goal.returns
returns c =
    let s = c.args.sched.now in
    let e : record_count s ≡ c.accepted-i.result = omega arith in
    sym (by_records s (omega arith) (omega arith) ∙ ap (records_number s) e ∙ c.accepted-i.ensures.passed)
