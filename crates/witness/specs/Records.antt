-- What the theorems about a run's log have to say of one. Assumes nothing: these are definitions.
use Rattle.std.specs.Prelude.{ℕ, zero, suc, ◌≤◌, ◌<◌, ◌≡◌, List, [], ◌∷◌, ◌++◌, get_or, take, drop, replicate}
use Rattle.runs.specs.Lists.{Kind, skipping_one, run_answer, run_log}
use Rattle.upd546.specs.TheMachine.{fresh}
use Rattle.upd546.specs.TwoRunners.{upd546}
use Rattle.driver.specs.Lending.{kept_before}
use Rattle.witness.specs.Calls.{rom, sched, back, wanted_log}

-- a record of the log: the low byte of its cycle, the port, the value
pub record Entry : Type 0 where
  pub cycle : ℕ
  pub port : ℕ
  pub value : ℕ

-- the first k records of a log
abbrev pub entries_in : ℕ → List ℕ → List Entry
entries_in zero log = []
entries_in (suc k) log = record { cycle = get_or log 5 0; port = get_or log 6 0; value = get_or log 7 0 } ∷ entries_in k (drop 8 log)

-- a reset's has port 0 and value 0
pub record Stands (first end : ℕ) (r : Entry) : Type 0 where
  pub not_before : first ≤ r.cycle
  pub before_end : r.cycle < end
  pub reset : r.port ≡ 0 → r.value ≡ 0
  pub from_port_c : (r.port ≡ 0 → ⊥) → 2 ≤ r.port
  pub to_port_i : r.port ≤ 8
  pub value : r.value < 16
  pub value_of_i : r.port ≡ 8 → r.value < 8

-- each from the cycle of the one before it on
abbrev pub InOrder : (first end : ℕ) → List Entry → Type 0
InOrder first end [] = Unit {0}
InOrder first end (r ∷ rs) = Stands first end r × InOrder r.cycle end rs

-- 3 to E, between a switch-off and a reset
abbrev pub third : Entry
third = record { cycle = 3; port = 4; value = 3 }

abbrev pub wanted_entries : List Entry
wanted_entries =
    record { cycle = 0; port = 2; value = 5 }
    ∷ record { cycle = 0; port = 3; value = 10 }
    ∷ third
    ∷ record { cycle = 4; port = 0; value = 0 }
    ∷ record { cycle = 6; port = 2; value = 5 }
    ∷ record { cycle = 6; port = 3; value = 10 }
    ∷ record { cycle = 9; port = 4; value = 3 }
    ∷ []

pub record LogFigures : Type 0 where
  -- `EveryRunWritesRecords`, of a run by either runner
  pub entries : (kind : Kind) → entries_in 7 (run_log (run_answer upd546 kind rom sched fresh (replicate 224 0) 14)) ≡ wanted_entries
  pub in_order : InOrder 0 11 wanted_entries
  -- and of one from cycle 1 on
  pub in_order_from_1 : InOrder 1 4 (third ∷ [])
  -- `log_grows`: two records stand in a day's log, and a run is lent the rest of it
  pub day : take 24 (kept_before 16 (take 16 wanted_log ++ replicate 48 0) (run_answer upd546 skipping_one rom sched back (replicate 48 0) 3)).log ≡ take 24 wanted_log
