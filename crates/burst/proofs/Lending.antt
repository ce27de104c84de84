-- What the numbers of a sheet, a ROM and a schedule that aren't refused say: the sheet's limits, the ROM's length. Assumes nothing.
use mathlib.Core.Path.{◌≡◌, refl, sym}
use mathlib.Core.List.{List}
use Prim.Native.Nat.{ℕ}
use lib.Dec.{eqb}
use lib.ListN.{length}
use borrow.Author.Tests.{eqb-true}
use Rattle.runs.proofs.Refusals.{first_at, passes}
use Rattle.upd546.specs.declared.Sheet.{Sheet}
use Rattle.upd546.specs.TwoRunners.{panel_number}
use Rattle.laws.proofs.Sheets.{Legal, legal_sheet}
use Rattle.effect.specs.Endings.{Fits}
use Rattle.burst.specs.Turn.{Lent}

-- the ROM of a panel that isn't refused
pub panel_rom : (sheet : Sheet) (rom sched : List ℕ) → panel_number sheet rom sched ≡ 0 → sheet.rom ≡ length rom
unfolding panel_number
panel_rom sheet rom sched e = sym (eqb-true (length rom) sheet.rom (passes (eqb (length rom) sheet.rom) 21 refl (first_at _ e 0)))

module _ {sheet : Sheet} {rom sched table rows positions : List ℕ} (k : Lent sheet rom sched table rows positions) where
  pub lent_legal : Legal sheet
  lent_legal = legal_sheet sheet k.panel.legal

  pub lent_rom : sheet.rom ≡ length rom
  lent_rom = panel_rom sheet rom sched k.panel.not_refused_is

  pub lent_fits : {levels : ℕ} → sheet.levels ≡ levels → Fits sheet rom rows levels
  lent_fits e = record { rom_is = lent_rom; rows_is = k.row_table_is; levels_is = e }
