-- The run brought forward, by what its cycles come to. Assumes nothing.
use Rattle.std.proofs.Common.{◌≡◌, ◌∙◌, ap, ℕ, List, ◌-◌, ◌≤◌, length, arith}
use Rattle.runs.specs.Lists.{skipping_one, run_answer}
use Rattle.runs.specs.TwoRunners.{RunAnswer, Ran, log_bound}
use Rattle.upd546.specs.declared.Sheet.{Sheet}
use Rattle.upd546.specs.declared.State.{State}
use Rattle.upd546.specs.TwoRunners.{chip}
use Rattle.shortest.proofs.Ends.{Sound, sound}
use Rattle.shortest.proofs.Watching.{there, reached, leads}
use Rattle.shortest.proofs.Trial.forward.Goals as goal

record Leads (t : State) (done : ℕ) (r : Ran State) : Type 0 where
  state : t ≡ r.state
  cycles : done ≡ r.cycles

-- the run of d cycles leads to where they lead
led : (sheet : Sheet) (rom sched : List ℕ) (s : State) (n : ℕ) (w : Sound sheet rom sched s n) (d : ℕ) (h : d ≤ n) (log : List ℕ)
    → log_bound n ≤ length log → {a : RunAnswer State} → a ≡ run_answer (chip sheet) skipping_one rom sched s log d
    → Leads a.state a.cycles (there sheet rom sched s n w d h)
led sheet rom sched s n w d h log room e =
    let got = leads sheet rom sched s n w d h log room in
    record { state = ap (λ (r : RunAnswer State). r.state) e ∙ got.state; cycles = ap (λ (r : RunAnswer State). r.cycles) e ∙ got.cycles }

pub overflow_sub-n : goal.overflow_sub-n
overflow_sub-n c =
    let a = c.args in
    let w = sound a.self.sheet a.self.rom.now a.self.sched.now a.s a.n a.self.rom_bytes a.self.sched_bytes c.requires.0.taken in
    let got = led a.self.sheet a.self.rom.now a.self.sched.now a.s a.n w a.d c.requires.1 a.log.now c.requires.0.room c.run_skipping-a.ensures in
    omega (arith, got.cycles, c.requires.1, (reached a.self.sheet a.self.rom.now a.self.sched.now a.s a.n w a.d c.requires.1).cycles)

pub returns : goal.returns
returns c =
    let a = c.args in
    let w = sound a.self.sheet a.self.rom.now a.self.sched.now a.s a.n a.self.rom_bytes a.self.sched_bytes c.requires.0.taken in
    let got = led a.self.sheet a.self.rom.now a.self.sched.now a.s a.n w a.d c.requires.1 a.log.now c.requires.0.room c.run_skipping-a.ensures in
    rw c.kept_at.ensures (record { state = got.state; left_is = ap (λ (m : ℕ). a.n - m) got.cycles })
