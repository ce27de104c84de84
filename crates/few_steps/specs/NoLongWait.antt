-- Document 02, R-13, "No long wait is walked": "how few steps the jump needs". `proofs/NoLongWait` shows it.
-- Assumes nothing: these are definitions.
use Rattle.std.specs.Prelude.{ℕ, ◌+◌, ◌-◌, ◌%◌, ◌≤◌, ◌≡◌, true, false, cond, List, eqb}
use Rattle.std.proofs.Math.Option.{none}
use Rattle.runs.specs.Machine.{Machine, Out, stop, went}
use Rattle.runs.specs.TwoRunners.{Stepped, still, run_number}
use Rattle.runs.specs.Laws.{Bytes}
use Rattle.upd546.specs.declared.State.{State}
use Rattle.upd546.specs.declared.Sheet.{Sheet}
use Rattle.upd546.specs.TheMachine.{follows}
use Rattle.upd546.specs.TheLineSchedule.{lines_at, no_record}
use Rattle.upd546.specs.Timer.{ticks_left}
use Rattle.upd546.specs.OneMachineCycle.{accepts, cycle}
use Rattle.upd546.specs.StateImage.{state_number}
use Rattle.upd546.specs.TwoRunners.{at_ttm, may_jump, chip}
use Rattle.few_steps.specs.Steps.{first_steps}

-- "the skipping runner": the chip that it runs, and jumps on
abbrev pub the_chip : Sheet → Machine State
the_chip sheet = chip sheet

-- A boundary at which the program waits on the timer, with this span of cycles: so many are in the budget, and the span has no record
-- after its first cycle, the present one. A record there is in the lines already, of which the conditions for a jump speak.
pub record Wait (sheet : Sheet) (rom sched : List ℕ) (s : State) (r span n : ℕ) : Type 0 where
  -- "from any boundary where the program stands at a TTM with a JCP back to it, meeting document 01's conditions for a jump apart
  -- from j"
  pub waits : may_jump sheet rom sched s ≡ true
  -- "with r ticks left"
  pub ticks : ticks_left s.core.timer ≡ r
  -- "at least r + 2 cycles of budget": n is the budget, the cycles that the run has left
  pub budget : span ≤ n
  -- "RES low"
  pub low : (lines_at sched s.cycle.0).res ≡ 0
  -- "with its count 0"
  pub count : s.count ≡ 0
  -- "and no schedule record in the next r + 2 cycles"
  pub quiet : no_record sched (s.cycle.0 + 1) (s.cycle.0 + span) ≡ true

-- The request's span is r + 2 cycles. They are counted from the present one on, which asks for less than counting them from the next.
abbrev pub LongWait : Sheet → (rom sched : List ℕ) → State → (r n : ℕ) → Type 0
LongWait sheet rom sched s r n = Wait sheet rom sched s r (r + 2) n

-- "at most 3 steps": how many with r ticks left. A jump of r, where r is even; TTM and JCP, where r is 1; else a jump of r - 1, TTM
-- and JCP.
abbrev pub steps_for : ℕ → ℕ
steps_for r = cond (eqb (r % 2) 0) 1 (cond (eqb r 1) 2 3)

-- The cycles of these steps: TTM is met at every second cycle.
abbrev pub cycles_for : ℕ → ℕ
cycles_for r = r + r % 2

-- "to stand at the TTM that skips", which t does where s waited: PC is at the same TTM, TM is 1, no cycle is owed, and neither an
-- acceptance nor a reset comes in its place.
pub record AtTheSkip (sheet : Sheet) (rom : List ℕ) (s t : State) : Type 0 where
  pub same : t.core.flow.pc ≡ s.core.flow.pc
  pub ttm : at_ttm sheet rom t.core.flow.pc ≡ true
  pub tm : t.core.timer.tm ≡ 1
  pub owed : t.core.owed ≡ 0
  pub free : accepts t.core ≡ false
  pub count : t.count ≡ 0

-- That it skips: the next cycle begins TTM, passes over JCP's one byte and owes a cycle for it.
abbrev pub SkipBegun : ℕ → Out State → Type 0
SkipBegun pc (stop k) = ⊥
SkipBegun pc (went t w b) = (t.core.flow.pc ≡ follows (follows pc)) × (t.core.owed ≡ 1) × (b ≡ 1)

-- q is where a run waits with r ticks left, and p where it stands after the steps of the wait: it stopped nowhere and wrote nothing.
pub record Waited (sheet : Sheet) (rom sched : List ℕ) (r : ℕ) (q p : Stepped State) : Type 0 where
  pub steps : p.steps ≡ q.steps + steps_for r
  -- "takes at most 3 steps"
  pub few : p.steps ≤ q.steps + 3
  pub cycles : p.ran.cycles ≡ q.ran.cycles + cycles_for r
  pub bytes : p.ran.bytes ≡ q.ran.bytes
  pub number : p.ran.number ≡ none
  pub stands : AtTheSkip sheet rom q.ran.state p.ran.state
  pub skips : SkipBegun q.ran.state.core.flow.pc (cycle sheet rom sched p.ran.state)

-- no step yet, at s
abbrev pub no_steps : State → Stepped State
no_steps s = record { ran = still s none; steps = 0 }

-- "the skipping runner takes at most 3 steps to stand at the TTM that skips": of every sheet, from every state that 34 doesn't
-- refuse, with n cycles left, on a log with any room.
abbrev pub NoLongWaitIsWalked : Type 0
NoLongWaitIsWalked =
    (sheet : Sheet) (rom sched : List ℕ) (s : State) (r room n : ℕ) → state_number sheet s ≡ 0 → LongWait sheet rom sched s r n
    → Waited sheet rom sched r (no_steps s) (first_steps (the_chip sheet) rom sched (steps_for r) room n s)

-- The cycles of the wait itself are enough, r or r + 1 of them: a record that comes when they are over changes nothing of it.
abbrev pub NoWaitIsWalked : Type 0
NoWaitIsWalked =
    (sheet : Sheet) (rom sched : List ℕ) (s : State) (r room n : ℕ) → state_number sheet s ≡ 0
    → Wait sheet rom sched s r (cycles_for r) n
    → Waited sheet rom sched r (no_steps s) (first_steps (the_chip sheet) rom sched (steps_for r) room n s)

-- "from any boundary": inside a run of n cycles that isn't refused, whose first k steps lead to the wait, so many more lead to the
-- skip. The run is those and then the rest, by `RunsGoOnFromTheirSteps`.
abbrev pub NoLongWaitOfARunIsWalked : Type 0
NoLongWaitOfARunIsWalked =
    (sheet : Sheet) (rom sched : List ℕ) (s : State) (k r room n : ℕ) → Bytes rom → Bytes sched
    → run_number (the_chip sheet) rom sched s n ≡ 0
    → let q = first_steps (the_chip sheet) rom sched k room n s in
    q.ran.number ≡ none → LongWait sheet rom sched q.ran.state r (n - q.ran.cycles)
    → Waited sheet rom sched r q (first_steps (the_chip sheet) rom sched (k + steps_for r) room n s)
