-- What holds of a run that isn't refused. Assumes nothing.
use mathlib.Core.Path.{◌≡◌, refl, sym}
use mathlib.Core.List.{List}
use Prim.Native.Nat.{ℕ, ◌+◌, ◌≤◌}
use lib.Dec.{eqb, leb}
use lib.ListN.{length}
use borrow.Author.Tests.{eqb-true, leb-true}
use Rattle.runs.specs.TwoRunners.{run_number}
use Rattle.runs.specs.Refusals.{cycle_limit}
use Rattle.runs.proofs.Refusals.{first_at, passes}
use Rattle.upd546.specs.declared.Sheet.{Sheet}
use Rattle.upd546.specs.declared.State.{State}
use Rattle.upd546.specs.TheSheet.{sheet_number}
use Rattle.upd546.specs.TheLineSchedule.{schedule_number}
use Rattle.upd546.specs.StateImage.{state_number}
use Rattle.upd546.specs.TwoRunners.{panel_number, chip}

-- a run that isn't refused
pub record Taken (sheet : Sheet) (rom sched : List ℕ) (s : State) (n : ℕ) : Type 0 where
  pub legal : sheet_number sheet ≡ 0
  pub panel : panel_number sheet rom sched ≡ 0
  pub rom_length_is : sheet.rom ≡ length rom
  pub schedule : schedule_number sched ≡ 0
  pub state : state_number sheet s ≡ 0
  pub limit : s.cycle.0 + n ≤ cycle_limit

pub run_taken : (sheet : Sheet) (rom sched : List ℕ) (s : State) (n : ℕ) → run_number (chip sheet) rom sched s n ≡ 0
    → Taken sheet rom sched s n
unfolding run_number panel_number
run_taken sheet rom sched s n e =
    let panel = first_at _ e 1 in
    let rom_passes = passes (eqb (length rom) sheet.rom) 21 refl (first_at _ panel 0) in
    record {
      legal = first_at _ e 0;
      panel = panel;
      rom_length_is = sym (eqb-true (length rom) sheet.rom rom_passes);
      schedule = first_at _ panel 1;
      state = first_at _ e 2;
      limit = leb-true (s.cycle.0 + n) cycle_limit (passes (leb (s.cycle.0 + n) cycle_limit) 2 refl (first_at _ e 3));
    }
