-- A refusal, a log that is too short, and the trials on its first 16n bytes. Assumes nothing.
use Rattle.std.proofs.Common.{◌∙◌, sym, ◌≤◌, length, arith}
use lib.Seq.{length-take-le}
use Rattle.std.proofs.lemmas.Result.{err_from_is_err_and}
use Rattle.runs.specs.TwoRunners.{log_bound}
use Rattle.runs.proofs.Calls.{run_fit}
use Rattle.upd546.specs.TwoRunners.{chip}
use Rattle.shortest.proofs.Finding.{refused-answers, short_answers, tried_answers}
use Rattle.shortest.proofs.find.Goals as goal

pub returns-in_err-refusal : goal.returns-in_err-refusal
returns-in_err-refusal c =
    let a = c.args in
    let p = err_from_is_err_and c.from_residual.result c.from_residual.ensures.1 in
    rw (p.1, p.2) (refused-answers (chip a.sheet) a.rom.now a.sched.now a.s a.n.0 a.log.now c.in_err-refusal.field-0.0 c.in_err-refusal.ensures)

pub overflow_mul-room : goal.overflow_mul-room
overflow_mul-room c =
    let a = c.args in
    let fit = run_fit (chip a.sheet) a.rom.now a.sched.now a.s a.n.0 (sym c.in_ok-refusal.ensures) in
    omega (arith, fit.limit)

pub returns-then-log-room : goal.returns-then-log-room
returns-then-log-room c =
    let a = c.args in
    short_answers (chip a.sheet) a.rom.now a.sched.now a.s a.n.0 a.log.now (sym c.in_ok-refusal.ensures) c.if-log-room.true

pub returns : goal.returns
returns c =
    let a = c.args in
    let enough : log_bound a.n.0 ≤ length a.log.now = omega (arith, c.if-log-room.false) in
    tried_answers (chip a.sheet) a.rom.now a.sched.now a.s a.n.0 a.log.now (sym c.in_ok-refusal.ensures) enough c.tried.result c.tried.new.log c.tried.ensures
    (c.tried.auto.log ∙ length-take-le (log_bound a.n.0) a.log.now enough)
