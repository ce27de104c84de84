-- The first steps of a run of the timer-skipping runner, over any machine, and the rest of that run. `proofs/Steps` shows that the
-- run is both. Assumes nothing: these are definitions.
use Rattle.std.specs.Prelude.{ℕ, ◌+◌, ◌-◌, ◌≡◌, List, length}
use Rattle.std.proofs.Math.Option.{none}
use Rattle.runs.specs.Machine.{Machine}
use Rattle.runs.specs.TwoRunners.{Stepped, then, strides, run_number, told, skipping}

-- what q comes to in its steps, and then p from where q stands
abbrev pub and_then : {S : Type 0} → Stepped S → Stepped S → Stepped S
and_then q p = record { ran = then q.ran p.ran; steps = q.steps + p.steps }

module _ {S : Type 0} (M : Machine S) (rom sched : List ℕ) where
  -- The whole run: n cycles from s, on a log with so much room. `skipping` tells what this comes to.
  abbrev pub whole : (room n : ℕ) → S → Stepped S
  whole room n s = strides M rom sched n room n s

  -- Its first k steps: `strides` bounds the steps by its fuel. Where the run ends or stops before, they are all that it has.
  abbrev pub first_steps : (k room n : ℕ) → S → Stepped S
  first_steps k room n s = strides M rom sched k room n s

  -- i steps more from where q stands, with the cycles that q leaves of n, on the part of the log that q leaves empty
  abbrev pub steps_from : (i room n : ℕ) → Stepped S → Stepped S
  steps_from i room n q = first_steps i (room - length q.ran.bytes) (n - q.ran.cycles) q.ran.state

  -- the whole run of those cycles
  abbrev pub rest : (room n : ℕ) → Stepped S → Stepped S
  rest room n q = whole (room - length q.ran.bytes) (n - q.ran.cycles) q.ran.state

-- A run is its first k steps and then the run of the rest, unless it stopped before.
abbrev pub RunsGoOnFromTheirSteps : {S : Type 0} → Machine S → Type 0
RunsGoOnFromTheirSteps {S} M =
    (rom sched : List ℕ) (k room n : ℕ) (s : S) → (first_steps M rom sched k room n s).ran.number ≡ none
    → let q = first_steps M rom sched k room n s in whole M rom sched room n s ≡ and_then q (rest M rom sched room n q)

-- Its first k + i steps are the first k and then i more.
abbrev pub StepsGoOnFromSteps : {S : Type 0} → Machine S → Type 0
StepsGoOnFromSteps {S} M =
    (rom sched : List ℕ) (k i room n : ℕ) (s : S) → (first_steps M rom sched k room n s).ran.number ≡ none
    → let q = first_steps M rom sched k room n s in first_steps M rom sched (k + i) room n s ≡ and_then q (steps_from M rom sched i room n q)

-- So the runner answers, where it isn't refused, what its first k steps and the rest come to: its steps are both together.
abbrev pub AnswersGoOnFromTheirSteps : {S : Type 0} → Machine S → Type 0
AnswersGoOnFromTheirSteps {S} M =
    (rom sched : List ℕ) (k n : ℕ) (s : S) (log : List ℕ) → run_number M rom sched s n ≡ 0
    → (first_steps M rom sched k (length log) n s).ran.number ≡ none
    → let q = first_steps M rom sched k (length log) n s in
    skipping M rom sched s log n ≡ told M 0 (and_then q (rest M rom sched (length log) n q)) s log
