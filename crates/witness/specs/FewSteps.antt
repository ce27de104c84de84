-- R-13: the theorems of `few_steps` a second time, for every argument, with the request's figures in place of names; and waits with 1, 2,
-- 3, 63 and 4,032 ticks left, with the steps that they take. Assumes nothing: these are definitions.
use Rattle.std.specs.Prelude.{ℕ, ◌+◌, ◌-◌, ◌%◌, ◌<◌, ◌≤◌, ◌≡◌, true, false, List, [], ◌∷◌, ◌++◌, length, get_or}
use Rattle.std.proofs.Math.Option.{none}
use Rattle.runs.specs.Machine.{Machine, stop, went}
use Rattle.runs.specs.TwoRunners.{Stepped, strides, run_number, skipping}
use Rattle.runs.specs.Laws.{Bytes}
use Rattle.upd546.specs.declared.State.{State}
use Rattle.upd546.specs.declared.Sheet.{Sheet}
use Rattle.upd546.specs.TheMachine.{follows, fresh}
use Rattle.upd546.specs.TheSheet.{upd546_sheet}
use Rattle.upd546.specs.TheLineSchedule.{lines_at, no_record}
use Rattle.upd546.specs.Parts.{with_timer, set_inte}
use Rattle.upd546.specs.Timer.{ticks_left}
use Rattle.upd546.specs.OneMachineCycle.{accepts, cycle}
use Rattle.upd546.specs.StateImage.{state_number}
use Rattle.upd546.specs.BenchCases.{rom_at, from}
use Rattle.upd546.specs.TwoRunners.{may_jump, chip, upd546}
use Rattle.few_steps.specs.NoLongWait.{steps_for}

-- EVERY WAIT

-- k steps and c cycles lead from q to p, at the TTM that skips
pub record StandsAt (sheet : Sheet) (rom sched : List ℕ) (k c : ℕ) (q p : Stepped State) : Type 0 where
  pub steps : p.steps ≡ q.steps + k
  pub cycles : p.ran.cycles ≡ q.ran.cycles + c
  pub bytes : p.ran.bytes ≡ q.ran.bytes
  pub number : p.ran.number ≡ none
  pub pc : p.ran.state.core.flow.pc ≡ q.ran.state.core.flow.pc
  pub in_rom : p.ran.state.core.flow.pc < sheet.rom
  pub ttm : get_or rom p.ran.state.core.flow.pc 0 ≡ 0x05
  pub tm : p.ran.state.core.timer.tm ≡ 1
  pub owed : p.ran.state.core.owed ≡ 0
  pub free : accepts p.ran.state.core ≡ false
  pub count : p.ran.state.count ≡ 0
  pub begins : (k : ℕ) → cycle sheet rom sched p.ran.state ≡ stop k → ⊥
  pub skips : (t : State) (w : List ℕ) (b : ℕ) → cycle sheet rom sched p.ran.state ≡ went t w b
      → (t.core.flow.pc ≡ follows (follows q.ran.state.core.flow.pc)) × (t.core.owed ≡ 1) × (b ≡ 1)

-- a wait with r ticks left at q, where `more k` is k steps on
pub record OfEveryWait (sheet : Sheet) (rom sched : List ℕ) (r : ℕ) (q : Stepped State) (more : ℕ → Stepped State) : Type 0 where
  pub even : r % 2 ≡ 0 → StandsAt sheet rom sched 1 r q (more 1)
  pub one : r ≡ 1 → StandsAt sheet rom sched 2 2 q (more 2)
  pub odd : r % 2 ≡ 1 → (r ≡ 1 → ⊥) → StandsAt sheet rom sched 3 (r + 1) q (more 3)
  pub few : (more (steps_for r)).steps ≤ q.steps + 3

-- no step yet
abbrev pub standing : State → Stepped State
standing s = record { ran = record { state = s; bytes = []; cycles = 0; begun = 0; number = none }; steps = 0 }

-- what q comes to, and then p
abbrev pub joined : {S : Type 0} → Stepped S → Stepped S → Stepped S
joined q p = record {
  ran = record {
    state = p.ran.state;
    bytes = q.ran.bytes ++ p.ran.bytes;
    cycles = q.ran.cycles + p.ran.cycles;
    begun = q.ran.begun + p.ran.begun;
    number = p.ran.number;
  };
  steps = q.steps + p.steps;
}

pub record WaitFacts (sheet : Sheet) : Type 0 where
  -- `NoLongWaitIsWalked`
  pub long : (rom sched : List ℕ) (s : State) (r room n : ℕ) → state_number sheet s ≡ 0 → may_jump sheet rom sched s ≡ true
      → ticks_left s.core.timer ≡ r
      → r + 2 ≤ n → (lines_at sched s.cycle.0).res ≡ 0 → s.count ≡ 0 → no_record sched (s.cycle.0 + 1) (s.cycle.0 + (r + 2)) ≡ true
      → OfEveryWait sheet rom sched r (standing s) (λ k. strides (chip sheet) rom sched k room n s)
  -- `NoWaitIsWalked`
  pub own : (rom sched : List ℕ) (s : State) (r room n : ℕ) → state_number sheet s ≡ 0 → may_jump sheet rom sched s ≡ true
      → ticks_left s.core.timer ≡ r
      → r + r % 2 ≤ n → (lines_at sched s.cycle.0).res ≡ 0 → s.count ≡ 0
      → no_record sched (s.cycle.0 + 1) (s.cycle.0 + (r + r % 2)) ≡ true
      → OfEveryWait sheet rom sched r (standing s) (λ k. strides (chip sheet) rom sched k room n s)
  -- `NoLongWaitOfARunIsWalked`
  pub in_a_run : (rom sched : List ℕ) (s : State) (k r room n : ℕ) → Bytes rom → Bytes sched → run_number (chip sheet) rom sched s n ≡ 0
      → let q = strides (chip sheet) rom sched k room n s in let t = q.ran.state in q.ran.number ≡ none
      → may_jump sheet rom sched t ≡ true → ticks_left t.core.timer ≡ r
      → r + 2 ≤ n - q.ran.cycles → (lines_at sched t.cycle.0).res ≡ 0 → t.count ≡ 0
      → no_record sched (t.cycle.0 + 1) (t.cycle.0 + (r + 2)) ≡ true
      → OfEveryWait sheet rom sched r q (λ i. strides (chip sheet) rom sched (k + i) room n s)

-- `StepsGoOnFromSteps`, `RunsGoOnFromTheirSteps`, `AnswersGoOnFromTheirSteps`
pub record StepFacts {S : Type 0} (M : Machine S) : Type 0 where
  pub steps : (rom sched : List ℕ) (k i room n : ℕ) (s : S) → let q = strides M rom sched k room n s in q.ran.number ≡ none
      → strides M rom sched (k + i) room n s
      ≡ joined q (strides M rom sched i (room - length q.ran.bytes) (n - q.ran.cycles) q.ran.state)
  pub run : (rom sched : List ℕ) (k room n : ℕ) (s : S) → let q = strides M rom sched k room n s in q.ran.number ≡ none
      → let left = n - q.ran.cycles in strides M rom sched n room n s
      ≡ joined q (strides M rom sched left (room - length q.ran.bytes) left q.ran.state)
  pub answer : (rom sched : List ℕ) (k n : ℕ) (s : S) (log : List ℕ) → run_number M rom sched s n ≡ 0
      → let q = strides M rom sched k (length log) n s in q.ran.number ≡ none
      → let left = n - q.ran.cycles in (skipping M rom sched s log n).steps
      ≡ q.steps + (strides M rom sched left (length log - length q.ran.bytes) left q.ran.state).steps

-- IN FIGURES

-- TTM at 000, and JCP back to it: in 2,000 bytes, and as a ROM of two
abbrev pub loop_bytes : List ℕ
loop_bytes = 0x05 ∷ 0xC0 ∷ []

abbrev pub loop_rom : List ℕ
loop_rom = rom_at 0 loop_bytes

-- the chip that has no more: two bytes, no row but 7, one level
abbrev pub least_sheet : Sheet
least_sheet = record { rom = 2; rows = 0; levels = 1 }

-- STM 80, and behind it TTM and a JCP back to TTM
abbrev pub stm_rom : List ℕ
stm_rom = rom_at 0 (0x14 ∷ 0x80 ∷ 0x05 ∷ 0xC2 ∷ [])

-- INT falls at a cycle below 2^16
abbrev pub fall_at : (high low : ℕ) → List ℕ
fall_at high low = 0 ∷ 0 ∷ 0 ∷ 0 ∷ high ∷ low ∷ 0 ∷ 0 ∷ 0 ∷ 0 ∷ []

-- the fresh state with a timer that runs, and interrupts enabled
abbrev pub timed : (register counter : ℕ) → State
timed register counter = from (λ c. set_inte 1 (with_timer c (record { tm = 0; register = register; counter = counter })))

-- k steps of a run of n cycles from there, on a log without room
abbrev pub wait_steps : Sheet → (rom sched : List ℕ) (k n register counter : ℕ) → Stepped State
wait_steps sheet rom sched k n register counter = strides (chip sheet) rom sched k 0 n (timed register counter)

-- so many steps are taken, in so many cycles, and TM is 1 at the TTM at this address
pub record AtTtm (k c at : ℕ) (p : Stepped State) : Type 0 where
  pub steps : p.steps ≡ k
  pub cycles : p.ran.cycles ≡ c
  pub pc : p.ran.state.core.flow.pc ≡ at
  pub tm : p.ran.state.core.timer.tm ≡ 1
  pub free : accepts p.ran.state.core ≡ false

-- r + 2 cycles are left, and INT falls at the first that the request doesn't speak of.
pub record StepFigures : Type 0 where
  pub one : AtTtm 2 2 0 (wait_steps upd546_sheet loop_rom (fall_at 0 3) 2 3 32 0)
  pub two : AtTtm 1 2 0 (wait_steps upd546_sheet loop_rom (fall_at 0 4) 1 4 48 0)
  pub three : AtTtm 3 4 0 (wait_steps upd546_sheet loop_rom (fall_at 0 5) 3 5 56 0)
  -- as STM 80 leaves the timer
  pub sixty_three : AtTtm 3 64 0 (wait_steps upd546_sheet loop_rom (fall_at 0 65) 3 65 1 0)
  -- as STM BF does: 4,034 is 0FC2
  pub longest : AtTtm 1 4032 0 (wait_steps upd546_sheet loop_rom (fall_at 0x0F 0xC2) 1 4034 1 63)
  -- a ROM of two bytes
  pub two_bytes : AtTtm 3 4 0 (wait_steps least_sheet loop_bytes (fall_at 0 5) 3 5 56 0)
  -- within a run, behind STM's two steps
  pub behind_stm : AtTtm 5 66 2 (strides upd546 stm_rom (fall_at 0 67) 5 0 67 fresh)
  -- of whose 67 cycles TTM's is the last
  pub answered : (skipping upd546 stm_rom (fall_at 0 67) fresh [] 67).steps ≡ 6
  -- Three ticks left, and a record about the end of the wait's 4 cycles. INT falls one cycle after them: three steps lead to the skip.
  pub after : AtTtm 3 4 0 (wait_steps upd546_sheet loop_rom (fall_at 0 4) 3 4 56 0)
  -- It falls in the last of them: an interrupt is due after three steps, and the fourth accepts it.
  pub last : no_record (fall_at 0 3) 1 4 ≡ false
  pub due : accepts (wait_steps upd546_sheet loop_rom (fall_at 0 3) 3 5 56 0).ran.state.core ≡ true
  pub fourth : (wait_steps upd546_sheet loop_rom (fall_at 0 3) 4 5 56 0).steps ≡ 4
  pub accepted : (wait_steps upd546_sheet loop_rom (fall_at 0 3) 4 5 56 0).ran.state.core.flow.pc ≡ 0x03C
