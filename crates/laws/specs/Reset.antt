-- Document 02, R-8: when a cycle is a reset cycle, spans of cycles without one, and what a cycle makes of the count.
-- Assumes nothing: these are definitions.
use Rattle.std.specs.Prelude.{ℕ, zero, suc, ◌+◌, ◌<◌, ◌≤◌, min, ◌≡◌, Bool, true, not, ◌&&◌, List, [], eqb, replicate}
use Rattle.runs.specs.Machine.{Out, stop, went}
use Rattle.runs.specs.TwoRunners.{Ran, unbroken}
use Rattle.upd546.specs.declared.Lines.{Lines}
use Rattle.upd546.specs.declared.State.{State}
use Rattle.upd546.specs.declared.Sheet.{Sheet}
use Rattle.upd546.specs.TheMachine.{latches, mark_other, reset_count}
use Rattle.upd546.specs.Parts.{with_count, onward}
use Rattle.upd546.specs.TheLineSchedule.{lines_at}
use Rattle.upd546.specs.OneMachineCycle.{taken, counted, cleared, cycle}
use Rattle.upd546.specs.Ports.{log_record}
use Rattle.upd546.specs.TwoRunners.{chip}

-- the count that cycle n leaves, of the count before it
abbrev pub count_after : List ℕ → ℕ → ℕ → ℕ
count_after sched n count = counted (lines_at sched n).res count

-- the state with the count that its cycle leaves
abbrev pub recounted : List ℕ → State → State
recounted sched s = with_count (count_after sched s.cycle.0 s.count) s

-- the state's cycle is a reset cycle
abbrev pub ResetDue : List ℕ → State → Type 0
ResetDue sched s = count_after sched s.cycle.0 s.count ≡ reset_count

-- none of the k cycles from n on is a reset cycle, where the count before them is this
unfoldable pub no_reset : List ℕ → ℕ → ℕ → ℕ → Bool
no_reset sched zero n count = true
no_reset sched (suc k) n count = not (eqb (count_after sched n count) reset_count) && no_reset sched k (n + 1) (count_after sched n count)

-- an outcome with this count
abbrev pub carrying : ℕ → Out State → Out State
carrying k (stop n) = stop n
carrying k (went t w b) = went (with_count k t) w b

-- RES is low, and nothing is counted: such a cycle is an ordinary one, and leaves the count 0
pub record Unreset (sched : List ℕ) (s : State) : Type 0 where
  pub low : (lines_at sched s.cycle.0).res ≡ 0
  pub none : s.count ≡ 0

-- two runs that differ in the count alone
pub record SameButCount (r q : Ran State) : Type 0 where
  pub bytes : r.bytes ≡ q.bytes
  pub cycles : r.cycles ≡ q.cycles
  pub begun : r.begun ≡ q.begun
  pub number : r.number ≡ q.number
  pub state : with_count 0 r.state ≡ with_count 0 q.state

-- what reset cycles with these lines leave of a state, j cycles on
abbrev pub held_reset : Lines → ℕ → State → State
held_reset l j s = onward j (with_count reset_count s) (cleared (taken l s.core)) s.ram (replicate latches 0)

-- What a reset cycle makes of a state, and that it begins nothing: "PC, owed, INT, INTE, TM, timer and ports become 0 and the mark
-- other; RAM, Acc, DP, carries and stack are kept"; "lines are taken first". "On reaching 4 it appends one record".
pub record Resets (sched : List ℕ) (s t : State) (w : List ℕ) (b : ℕ) : Type 0 where
  pub pc : t.core.flow.pc ≡ 0
  pub owed : t.core.owed ≡ 0
  pub int : t.core.interrupt.int ≡ 0
  pub inte : t.core.interrupt.inte ≡ 0
  pub timer : t.core.timer ≡ record { tm = 0; register = 0; counter = 0 }
  pub ports : t.ports ≡ replicate latches 0
  pub mark : t.core.mark ≡ mark_other
  pub ram : t.ram ≡ s.ram
  pub registers : t.core.registers ≡ s.core.registers
  pub stack : t.core.flow.stack ≡ s.core.flow.stack
  pub level : t.core.interrupt.level ≡ (lines_at sched s.cycle.0).int
  pub begins_none : b ≡ 0
  pub reaching : (s.count ≡ reset_count → ⊥) → w ≡ log_record s.cycle.0 (record { port = 0; value = 0 })
  pub staying : s.count ≡ reset_count → w ≡ []

-- a cycle counts RES, and is a reset cycle where its count is 4
pub record Counts (sched : List ℕ) (s t : State) (w : List ℕ) (b : ℕ) : Type 0 where
  pub rises : t.cycle.0 ≡ s.cycle.0 + 1
  pub count : t.count ≡ count_after sched s.cycle.0 s.count
  pub resets : t.count ≡ reset_count → Resets sched s t w b

abbrev pub EveryCycleCountsRes : Type 0
EveryCycleCountsRes =
    (sheet : Sheet) (rom sched : List ℕ) (s t : State) (w : List ℕ) (b : ℕ) → cycle sheet rom sched s ≡ went t w b → Counts sched s t w b

-- "a count of consecutive cycles with RES high, at most 4": after k cycles of a run, with RES high in each of them
abbrev pub EveryRunCountsRes : Type 0
EveryRunCountsRes =
    (sheet : Sheet) (rom sched : List ℕ) (k : ℕ) (s : State) → s.count ≤ reset_count → (unbroken (chip sheet) rom sched k s).cycles ≡ k
    → ((i : ℕ) → i < k → (lines_at sched (s.cycle.0 + i)).res ≡ 1)
    → (unbroken (chip sheet) rom sched k s).state.count ≡ min reset_count (s.count + k)
