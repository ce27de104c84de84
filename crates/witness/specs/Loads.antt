-- What the theorems about loads have to say of some seeds: a figure or a plain fact for each clause. Assumes nothing: these are definitions.
use Rattle.std.specs.Prelude.{ℕ, ◌≡◌, List, [], ◌∷◌, take}
use Rattle.runs.specs.TwoRunners.{run_number}
use Rattle.upd546.specs.TheMachine.{fresh}
use Rattle.upd546.specs.TheLineSchedule.{schedule_number}
use Rattle.upd546.specs.TwoRunners.{upd546}
use Rattle.generator.specs.Loads.{drawn_bytes, rom_of, schedule_of}

-- the longest schedule of a seed
abbrev pub longest : List ℕ
longest = schedule_of 20 4096

-- the only record of the shortest schedule of seed 0: its gap is 60 + 1, its ports are 71 and 209, and 170 is even
abbrev pub first_record : List ℕ
first_record = 0 ∷ 0 ∷ 0 ∷ 0 ∷ 0 ∷ 61 ∷ 71 ∷ 209 ∷ 0 ∷ 0 ∷ []

-- the run's number, for a ROM and a schedule, from the fresh state for ten million cycles
abbrev pub ten_million : List ℕ → List ℕ → ℕ
ten_million rom sched = run_number upd546 rom sched fresh 10000000

pub record LoadFigures : Type 0 where
  -- the definitions themselves: from seed 0 the first new s is 1013904223
  pub first_bytes : drawn_bytes 0 5 ≡ 60 ∷ 71 ∷ 209 ∷ 170 ∷ 98 ∷ []
  -- `EverySchedule`
  pub accepted : schedule_number longest ≡ 0
  pub not_12 : ten_million [] longest ≡ 12 → ⊥
  pub not_11 : ten_million [] longest ≡ 11 → ⊥
  pub not_13 : ten_million [] longest ≡ 13 → ⊥
  pub not_14 : ten_million [] longest ≡ 14 → ⊥
  -- `EveryRom`, with a schedule that is refused
  pub not_21 : ten_million (rom_of 20) (0 ∷ []) ≡ 21 → ⊥
  -- `EveryLoad`: a run of a ROM and a schedule of two seeds isn't refused
  pub runs : ten_million (rom_of 7) longest ≡ 0
  -- `EveryBeginning`
  pub begins : take 10 (schedule_of 0 2) ≡ first_record
