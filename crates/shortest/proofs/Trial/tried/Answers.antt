-- The full run, and the search where it stops. Assumes nothing.
use Rattle.std.proofs.Common.{◌≡◌, ◌∙◌, sym, ap, ℕ, List, ◌≤◌, length, arith}
use Rattle.runs.specs.Lists.{skipping_one, run_answer}
use Rattle.runs.specs.Numbers.{stop_number, end_of}
use Rattle.runs.specs.TwoRunners.{RunAnswer, log_bound, unbroken}
use Rattle.upd546.specs.declared.Sheet.{Sheet}
use Rattle.upd546.specs.declared.State.{State}
use Rattle.upd546.specs.TwoRunners.{chip}
use Rattle.shortest.specs.Search.{trial_end}
use Rattle.shortest.proofs.Ends.{Sound, sound, as_trial, trial_ends}
use Rattle.shortest.proofs.NoStop.{then_finished}
use Rattle.shortest.proofs.Order.{untried_none, answer_stops, answer_finishes}
use Rattle.shortest.proofs.Trial.tried.Goals as goal

-- the full run ends as the run did
ended : (sheet : Sheet) (rom sched : List ℕ) (s : State) (n : ℕ) → Sound sheet rom sched s n → (log : List ℕ) → log_bound n ≤ length log
    → {a : RunAnswer State} → a ≡ run_answer (chip sheet) skipping_one rom sched s log n → trial_end (chip sheet) rom s n sched ≡ a.end
ended sheet rom sched s n w log room e =
    sym (ap (λ (r : RunAnswer State). r.end) e ∙ as_trial sheet rom sched s n w skipping_one log room)

pub search-records-requires : goal.search-records-requires
search-records-requires c =
    let a = c.args in
    let w = sound a.self.sheet a.self.rom.now a.self.sched.now a.s a.n a.self.rom_bytes a.self.sched_bytes c.requires.taken in
    record {
      ready = record { taken = c.requires.taken; room = omega (arith, c.requires.room, c.run_skipping-a.auto.log) };
      full = ended a.self.sheet a.self.rom.now a.self.sched.now a.s a.n w a.log.now c.requires.room c.run_skipping-a.ensures ∙ ap end_of c.in-Stopped.is;
    }

pub returns-in-Stopped : goal.returns-in-Stopped
returns-in-Stopped c =
    let a = c.args in
    let w = sound a.self.sheet a.self.rom.now a.self.sched.now a.s a.n a.self.rom_bytes a.self.sched_bytes c.requires.taken in
    let why = stop_number c.in-Stopped.stop in
    let none = untried_none (chip a.self.sheet) a.self.rom.now a.self.sched.now a.s a.n a.log.now c.requires.taken c.requires.room in
    ap (λ (k : ℕ). record { number = why; records = k }) c.search-records.ensures
    ∙ sym
    (answer_stops (chip a.self.sheet) a.self.rom.now a.self.sched.now a.s a.n a.log.now none why
    (ended a.self.sheet a.self.rom.now a.self.sched.now a.s a.n w a.log.now c.requires.room c.run_skipping-a.ensures ∙ ap end_of c.in-Stopped.is))

pub returns : goal.returns
returns c =
    let a = c.args in
    let w = sound a.self.sheet a.self.rom.now a.self.sched.now a.s a.n a.self.rom_bytes a.self.sched_bytes c.requires.taken in
    let none = untried_none (chip a.self.sheet) a.self.rom.now a.self.sched.now a.s a.n a.log.now c.requires.taken c.requires.room in
    let e = ended a.self.sheet a.self.rom.now a.self.sched.now a.s a.n w a.log.now c.requires.room c.run_skipping-a.ensures in
    let comes_to = (unbroken (chip a.self.sheet) a.self.rom.now a.self.sched.now a.n a.s).number in
    sym
    (answer_finishes (chip a.self.sheet) a.self.rom.now a.self.sched.now a.s a.n a.log.now none
    (e ∙ then_finished c.run_skipping-a.result.end comes_to c.in_default.not-Stopped (sym e ∙ trial_ends a.self.sheet a.self.rom.now a.self.sched.now a.s a.n w)))
