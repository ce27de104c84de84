-- The run brought forward, by what its cycles come to. Assumes nothing.
use Rattle.std.proofs.Common.{◌≡◌, ◌∙◌, ap, ℕ, List, ◌-◌, ◌<◌, ◌≤◌, length, arith}
use Rattle.runs.specs.Lists.{skipping_one, run_answer}
use Rattle.runs.specs.TwoRunners.{RunAnswer, Ran, log_bound}
use Rattle.upd546.specs.declared.Sheet.{Sheet}
use Rattle.upd546.specs.declared.State.{State}
use Rattle.upd546.specs.TheLineSchedule.{record_count}
use Rattle.upd546.specs.TwoRunners.{chip}
use Rattle.shortest.specs.Search.{first_records}
use Rattle.shortest.specs.Tried.{Ahead}
use Rattle.shortest.proofs.Ends.{Sound, sound}
use Rattle.shortest.proofs.Shared.{beginning, done_within, leads_there, kept_from}
use Rattle.shortest.proofs.Trial.brought.Goals as goal

record Leads (t : State) (done : ℕ) (r : Ran State) : Type 0 where
  state : t ≡ r.state
  cycles : done ≡ r.cycles

-- the run of the cycles ahead leads to where they lead
leads : (sheet : Sheet) (rom sched : List ℕ) (s : State) (n : ℕ) (w : Sound sheet rom sched s n) (k : ℕ) (some : k < record_count sched) (d : ℕ)
    (ahead : Ahead sched k s.cycle.0 n d) (log : List ℕ) → log_bound n ≤ length log
    → {a : RunAnswer State} → a ≡ run_answer (chip sheet) skipping_one rom (first_records k sched) s log d
    → Leads a.state a.cycles (beginning sheet rom sched s n w k some d ahead)
leads sheet rom sched s n w k some d ahead log room e =
    let there = leads_there sheet rom sched s n w k some d ahead skipping_one log room in
    record { state = ap (λ (r : RunAnswer State). r.state) e ∙ there.state; cycles = ap (λ (r : RunAnswer State). r.cycles) e ∙ there.cycles }

pub overflow_sub-result : goal.overflow_sub-result
overflow_sub-result c =
    let a = c.args in
    let w = sound a.self.sheet a.self.rom.now a.self.sched.now a.s a.n a.self.rom_bytes a.self.sched_bytes c.requires.ready.taken in
    let some : a.k < record_count a.self.sched.now = omega (arith, c.requires.some) in
    let d = c.cycles_before-d in
    let there = leads a.self.sheet a.self.rom.now a.self.sched.now a.s a.n w a.k some d.result d.ensures a.log.now c.requires.ready.room c.run_skipping-a.ensures in
    omega (arith, there.cycles, done_within a.self.sheet a.self.rom.now a.self.sched.now a.s a.n w a.k some d.result d.ensures)

pub returns : goal.returns
returns c =
    let a = c.args in
    let w = sound a.self.sheet a.self.rom.now a.self.sched.now a.s a.n a.self.rom_bytes a.self.sched_bytes c.requires.ready.taken in
    let some : a.k < record_count a.self.sched.now = omega (arith, c.requires.some) in
    let d = c.cycles_before-d in
    let there = leads a.self.sheet a.self.rom.now a.self.sched.now a.s a.n w a.k some d.result d.ensures a.log.now c.requires.ready.room c.run_skipping-a.ensures in
    kept_from a.self.sheet a.self.rom.now a.self.sched.now a.s a.n w a.k some d.result d.ensures c.run_skipping-a.result.state
    (a.n - c.run_skipping-a.result.cycles.0) there.state (ap (λ (m : ℕ). a.n - m) there.cycles)
