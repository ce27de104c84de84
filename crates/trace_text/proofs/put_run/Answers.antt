-- The text of what the call answers. Assumes nothing.
use Rattle.text.proofs.Writing.{told}
use Rattle.trace_text.proofs.Calls.{run_text_lem}
use Rattle.trace_text.proofs.put_run.Goals as goal

pub returns : goal.returns
returns c =
    let a = c.args in
    let same = run_text_lem a.rom.now a.sched.now a.log.now a.n.0 c.call_fresh-ended.result c.call_fresh-ended.ensures.tells_run in
    told same c.put_answer.ensures
