-- A report that is too short, a refusal, and a run that finished or stopped. Assumes nothing.
use Rattle.std.proofs.Common.{ap, arith}
use Rattle.runs.specs.TwoRunners.{SaveAnswer}
use Rattle.runs.specs.Numbers.{refusal_number, end_of}
use Rattle.runs.proofs.Refusals.{refusal-some}
use Rattle.upd546.specs.TwoRunners.{answer_of}
use Rattle.calls.proofs.Call.{short_call, refused_call, ran_call_lem}
use Rattle.board.proofs.Ends.{end_same, ran_end}
use Rattle.board.proofs.wharfnettle_call.Goals as goal

pub returns-then-report-lt-REPORT_LENGTH : goal.returns-then-report-lt-REPORT_LENGTH
returns-then-report-lt-REPORT_LENGTH c = short_call _ _ (omega (arith, c.if-report-lt-REPORT_LENGTH.true))

pub returns-in-Refused : goal.returns-in-Refused
returns-in-Refused c =
    let run = c.run_image-a in
    rw c.refusal_number.ensures
    (refused_call _ _ (omega (arith, c.if-report-lt-REPORT_LENGTH.false)) (answer_of run.result run.new.log) run.ensures c.put_counts.ensures
    (refusal_number c.in-Refused.why) (refusal-some c.in-Refused.why) (ap end_of c.in-Refused.is))

pub returns : goal.returns
returns c =
    let run = c.run_image-a in
    rw (c.end_number.ensures, end_same run.result.end)
    (ran_call_lem _ _ (omega (arith, c.if-report-lt-REPORT_LENGTH.false)) (answer_of run.result run.new.log) run.ensures c.put_counts.ensures
    (ran_end run.result.end c.in_default.not-Refused) (ap (λ (z : SaveAnswer). z.buffer) c.save.ensures))
