-- What refuses a run, number by number. Assumes nothing.
use mathlib.Core.Path.{◌≡◌, refl}
use mathlib.Core.Bool.{Bool, true, false}
use mathlib.Core.List.{List}
use Prim.Native.Nat.{ℕ, zero, suc, ◌+◌}
use lib.Dec.{leb}
use lib.ListN.{length}
use borrow.Author.Tests.{eq-eqb, ne_eqb}
use Rattle.runs.specs.declared.Refusal.{Refusal}
use Rattle.runs.specs.Numbers.{refusal_number}
use Rattle.runs.specs.TwoRunners.{refused_run, run_number, plain, skipping}
use Rattle.runs.specs.Refusals.{cycle_limit, first_of}
use Rattle.runs.proofs.Refusals.{refusal-some}
use Rattle.upd546.specs.declared.State.{State}
use Rattle.upd546.specs.declared.Sheet.{Sheet}
use Rattle.upd546.specs.TheSheet.{sheet_number}
use Rattle.upd546.specs.TheLineSchedule.{schedule_number}
use Rattle.upd546.specs.StateImage.{state_number}
use Rattle.upd546.specs.TwoRunners.{panel_number, chip}
use Rattle.turns.specs.Either.{run_by}

module _ (sheet : Sheet) (rom sched : List ℕ) (s : State) (n : ℕ) where
  pub by_sheet : (k : ℕ) → k ≡ sheet_number sheet → (k ≡ 0 → ⊥) → k ≡ run_number (chip sheet) rom sched s n
  unfolding run_number first_of
  by_sheet zero e h = absurd (h refl)
  by_sheet (suc k) e h = rw (← e)

  module _ (l : sheet_number sheet ≡ 0) where
    pub by_rom : (length rom ≡ sheet.rom → ⊥) → 21 ≡ run_number (chip sheet) rom sched s n
    unfolding run_number panel_number first_of
    by_rom h = rw (l, ne_eqb (length rom) sheet.rom h)

    module _ (r : length rom ≡ sheet.rom) where
      pub by_schedule : (k : ℕ) → k ≡ schedule_number sched → (k ≡ 0 → ⊥) → k ≡ run_number (chip sheet) rom sched s n
      unfolding run_number panel_number first_of
      by_schedule zero e h = absurd (h refl)
      by_schedule (suc k) e h = rw (l, eq-eqb (length rom) sheet.rom r, ← e)

      module _ (c : schedule_number sched ≡ 0) where
        pub by_state : (k : ℕ) → k ≡ state_number sheet s → (k ≡ 0 → ⊥) → k ≡ run_number (chip sheet) rom sched s n
        unfolding run_number panel_number first_of
        by_state zero e h = absurd (h refl)
        by_state (suc k) e h = rw (l, eq-eqb (length rom) sheet.rom r, c, ← e)

        module _ (v : state_number sheet s ≡ 0) where
          pub by_limit : leb (s.cycle.0 + n) cycle_limit ≡ false → 2 ≡ run_number (chip sheet) rom sched s n
          unfolding run_number panel_number first_of
          by_limit h = rw (l, eq-eqb (length rom) sheet.rom r, c, v, h)

          pub by_none : leb (s.cycle.0 + n) cycle_limit ≡ true → 0 ≡ run_number (chip sheet) rom sched s n
          unfolding run_number panel_number first_of
          by_none h = rw (l, eq-eqb (length rom) sheet.rom r, c, v, h)

refused_by : (skips : Bool) (sheet : Sheet) (rom sched log : List ℕ) (s : State) (n k : ℕ) → k ≡ run_number (chip sheet) rom sched s n
    → (k ≡ 0 → ⊥) → refused_run k s log ≡ run_by skips sheet rom sched s log n
unfolding plain skipping
refused_by skips sheet rom sched log s n zero e h = absurd (h refl)
refused_by false sheet rom sched log s n (suc k) e h = rw (← e)
refused_by true sheet rom sched log s n (suc k) e h = rw (← e)

-- the answer of a refused run
pub tells_refused : (skips : Bool) (sheet : Sheet) (rom sched log : List ℕ) (s : State) (n : ℕ) (w : Refusal)
    → refusal_number w ≡ run_number (chip sheet) rom sched s n → refused_run (refusal_number w) s log ≡ run_by skips sheet rom sched s log n
tells_refused skips sheet rom sched log s n w e = refused_by skips sheet rom sched log s n (refusal_number w) e (refusal-some w)
