-- What an instruction on lent RAM, latches and log comes to. Assumes nothing: these are definitions.
use Rattle.std.specs.Prelude.{ℕ, ◌+◌, ◌-◌, cond, List, ◌++◌, Result, Ok, Err, leb, length, take, drop}
use Rattle.runs.specs.declared.Stop.{Stop}
use Rattle.runs.specs.Numbers.{stop_number}
use Rattle.runs.specs.Machine.{Out, stop, went}
use Rattle.upd546.specs.declared.Core.{Core}
use Rattle.upd546.specs.declared.State.{State}
use Rattle.effect.specs.declared.Started.{Started}

-- what an instruction answers, and what stands in the lent RAM, latches and log when it returns
pub record Answer : Type 0 where
  pub stop : ℕ
  pub core : Core
  pub ram : List ℕ
  pub ports : List ℕ
  pub log : List ℕ
  pub at : ℕ

-- the part of it that isn't lent
pub record Told : Type 0 where
  pub core : Core
  pub at : ℕ
  pub stop : ℕ

-- what is answered, of an instruction that is due at this core and place in the log: both stay where it isn't begun
abbrev pub told : Core → (at : ℕ) → Result Started Stop → Told
told c at (Ok r) = record { core = r.core; at = r.at; stop = 0 }
told c at (Err s) = record { core = c; at = at; stop = stop_number s }

abbrev pub start_of : Told → List ℕ → List ℕ → List ℕ → Answer
start_of r ram ports log = record { stop = r.stop; core = r.core; ram = ram; ports = ports; log = log; at = r.at }

-- an instruction that isn't begun
abbrev pub held_back : Core → (at : ℕ) → ℕ → Told
held_back c at k = record { core = c; at = at; stop = k }

abbrev pub holds : (at : ℕ) → ℕ → State → List ℕ → Answer
holds at k s log = start_of (held_back s.core at k) s.ram s.ports log

-- what an outcome is on a log that is empty from `at` on; 3 where its records don't fit
unfoldable pub answer_on : ℕ → Out State → State → List ℕ → Answer
answer_on at (stop k) s log = holds at k s log
answer_on at (went t w b) s log =
    cond (leb (length w) (length log - at))
    (record { stop = 0; core = t.core; ram = t.ram; ports = t.ports; log = take at log ++ w ++ drop (at + length w) log; at = at + length w })
    (holds at 3 s log)
