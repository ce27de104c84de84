-- A list of three slices, and what the theorem about lists of slices has to say of it. Assumes nothing: these are definitions.
use Rattle.std.specs.Prelude.{ℕ, ◌≡◌, List, [], ◌∷◌, length, replicate}
use Rattle.runs.specs.declared.Version.TheVariants.{Two}
use Rattle.runs.specs.Lists.{plain_one, skipping_one, Call, save, not_refused, last, runs, joined_log, AllFinish, asked, Slice, slice_calls}
use Rattle.upd546.specs.declared.State.{State}
use Rattle.upd546.specs.declared.Sheet.{Sheet}
use Rattle.upd546.specs.TheMachine.{fresh}
use Rattle.upd546.specs.TheSheet.{upd546_sheet}
use Rattle.upd546.specs.BenchCases.{rom_at}
use Rattle.upd546.specs.TwoRunners.{chip}

-- STM 80, TTM and a JCP back to it, IA, OE
abbrev pub rom : List ℕ
rom = rom_at 0 (0x14 ∷ 0x80 ∷ 0x05 ∷ 0xC2 ∷ 0x40 ∷ 0x44 ∷ [])

-- from cycle 30 on port A is 5
abbrev pub sched : List ℕ
sched = 0 ∷ 0 ∷ 0 ∷ 0 ∷ 0 ∷ 30 ∷ 0x50 ∷ 0 ∷ 1 ∷ 0 ∷ []

-- both switch-offs fall into the timer's wait
abbrev pub slices : List Slice
slices =
    record { kind = plain_one; log = replicate 320 0; n = 20; buffer = replicate 82 0 }
    ∷ record { kind = skipping_one; log = replicate 640 0; n = 40; buffer = replicate 100 255 }
    ∷ record { kind = skipping_one; log = replicate 240 0; n = 15; buffer = replicate 82 1 }
    ∷ []

abbrev pub calls : List (Call Sheet State)
calls = slice_calls chip upd546_sheet rom sched fresh slices

-- a refused save before them
abbrev pub with_refused : List (Call Sheet State)
with_refused = save Two fresh [] upd546_sheet ∷ calls

-- 5 to E at cycle 70
abbrev pub wanted_log : List ℕ
wanted_log = 0 ∷ 0 ∷ 0 ∷ 0 ∷ 0 ∷ 70 ∷ 4 ∷ 5 ∷ []

pub record SliceFigures : Type 0 where
  -- `none_refused`, `ends`, `asks`, `among`
  pub all_carried_out : length (not_refused chip calls) ≡ 9
  pub log : joined_log (runs chip calls) ≡ wanted_log
  pub cycle : (last chip fresh calls).cycle.0 ≡ 75
  pub all_finish : AllFinish (runs chip calls)
  pub asks : asked chip calls ≡ 75
  pub among : joined_log (runs chip with_refused) ≡ wanted_log
