-- The refusals of a run of no cycle, and then that of n. Assumes nothing.
use Rattle.std.proofs.Common.{◌≡◌, ◌∙◌, sym, ap, List, ℕ}
use Rattle.runs.specs.Lists.{plain_one, refusal_of, run_answer}
use Rattle.runs.specs.Numbers.{refusal_number, end_of}
use Rattle.runs.specs.TwoRunners.{RunAnswer, run_number}
use Rattle.runs.proofs.Refusals.{numbered}
use Rattle.runs.proofs.Calls.{run_refusal}
use Rattle.upd546.specs.declared.Sheet.{Sheet}
use Rattle.upd546.specs.declared.State.{State}
use Rattle.upd546.specs.TwoRunners.{chip}
use Rattle.shortest.proofs.NoStop.{then_taken}
use Rattle.shortest.proofs.Order.{refused_by, by_limit, by_none}
use Rattle.shortest.proofs.Trial.refusal.Goals as goal

judged : (sheet : Sheet) (rom sched : List ℕ) (s : State) (log : List ℕ) {a : RunAnswer State} → a ≡ run_answer (chip sheet) plain_one rom sched s log 0
    → refusal_of a.end ≡ run_number (chip sheet) rom sched s 0
judged sheet rom sched s log e =
    ap (λ (r : RunAnswer State). refusal_of r.end) e ∙ run_refusal (chip sheet) plain_one rom sched s log 0

pub returns-in-Refused : goal.returns-in-Refused
returns-in-Refused c =
    let a = c.args in
    let k = numbered c.in-Refused.why in
    refused_by (chip a.self.sheet) a.self.rom.now a.self.sched.now a.s a.n.0 (refusal_number c.in-Refused.why) k.0 k.1
    (sym (ap (λ e. refusal_of (end_of e)) c.in-Refused.is) ∙ judged a.self.sheet a.self.rom.now a.self.sched.now a.s _ c.run_plain-a.ensures)

pub returns-then-within_limit : goal.returns-then-within_limit
returns-then-within_limit c =
    let a = c.args in
    sym
    (by_none (chip a.self.sheet) a.self.rom.now a.self.sched.now a.s a.n.0
    (sym (judged a.self.sheet a.self.rom.now a.self.sched.now a.s _ c.run_plain-a.ensures) ∙ then_taken c.run_plain-a.result.end c.in_default.not-Refused)
    (sym c.within_limit.ensures ∙ c.if-within_limit.true))

pub returns : goal.returns
returns c =
    let a = c.args in
    sym
    (by_limit (chip a.self.sheet) a.self.rom.now a.self.sched.now a.s a.n.0
    (sym (judged a.self.sheet a.self.rom.now a.self.sched.now a.s _ c.run_plain-a.ensures) ∙ then_taken c.run_plain-a.result.end c.in_default.not-Refused)
    (sym c.within_limit.ensures ∙ c.if-within_limit.false))
