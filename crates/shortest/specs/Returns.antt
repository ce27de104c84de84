-- Lines that don't change, under which the machine moves by its state alone, but for the cycle number. Scaffolding: no claim comes to it.
-- Assumes nothing: these are definitions.
use Rattle.std.specs.Prelude.{ℕ, ◌-◌, ◌≤◌, ◌≡◌, List, replicate}
use Rattle.runs.specs.Machine.{Machine}
use Rattle.runs.specs.declared.Version.TheVariants.{Two}
use Rattle.runs.specs.TwoRunners.{unbroken, run_number, save_answer}
use Rattle.upd546.specs.declared.Sheet.{Sheet}
use Rattle.upd546.specs.declared.State.{State}
use Rattle.upd546.specs.Parts.{with_parts}
use Rattle.upd546.specs.StateImage.{image_length}
use Rattle.upd546.specs.TheLineSchedule.{lines_at}
use Rattle.upd546.specs.TwoRunners.{chip}
use Rattle.shortest.specs.Search.{trial_end}

-- a state at another cycle
abbrev pub at_cycle : ℕ → State → State
at_cycle c s = with_parts s s.core s.ram s.ports c

-- all of a state but its cycle number
abbrev pub timeless : State → State
timeless s = at_cycle 0 s

-- from this cycle on the lines stay as they are
abbrev pub Settled : List ℕ → ℕ → Type 0
Settled sched from = (c : ℕ) → from ≤ c → lines_at sched c ≡ lines_at sched from

-- all of a state but its cycle number as bytes: its image at cycle 0, saved to a buffer of zeros
unfoldable pub look_of : Sheet → State → List ℕ
look_of sheet s = (save_answer (chip sheet) Two (timeless s) (replicate (image_length Two) 0)).buffer

-- what is found of two states of a run, a before b
pub record CameBack (sheet : Sheet) (sched : List ℕ) (a b : State) : Type 0 where
  pub settled : Settled sched a.cycle.0
  pub same : look_of sheet a ≡ look_of sheet b

module _ {S : Type 0} (M : Machine S) (rom sched : List ℕ) (s : S) (n : ℕ) where
  -- d cycles of n lead to t, with `left` to go
  pub record LedTo (d : ℕ) (t : S) (left : ℕ) : Type 0 where
    pub state : t ≡ (unbroken M rom sched d s).state
    pub left_is : left ≡ n - (unbroken M rom sched d s).cycles

  -- from t, with `left` to go, the run ends as it does from s with n
  pub record GoesOn (t : S) (left : ℕ) : Type 0 where
    pub taken : run_number M rom sched t left ≡ 0
    pub fewer : left ≤ n
    pub same : trial_end M rom t left sched ≡ trial_end M rom s n sched
