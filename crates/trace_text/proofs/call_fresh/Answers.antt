-- What the call tells, and that its log is records. Assumes nothing.
use mathlib.Core.Path.{refl}
use native.Mathlib.Omega.{arith}
use Prim.Native.Nat.{◌^◌, ◌<◌}
use lib.ListN.{length}
use Rattle.runs.specs.Laws.{Bytes}
use Rattle.runs.specs.TwoRunners.{plain}
use Rattle.upd546.specs.TheMachine.{fresh}
use Rattle.upd546.specs.TwoRunners.{upd546}
use Rattle.trace_text.specs.Texts.{TellsRun}
use Rattle.trace_text.proofs.Records.{recorded, by_end}
use Rattle.trace_text.proofs.Calls.{fresh_image, call_ends, same_end}
use Rattle.trace_text.proofs.call_fresh.Goals as goal
use Rattle.trace_text.proofs.call_fresh.Goals.{After-told}

-- what is told is the run's
ends : (c : After-told) → TellsRun (plain upd546 c.args.rom.now c.args.sched.now fresh c.args.log.now c.args.n.0) c.told.result c.wharfnettle_call-number.new.log
ends c =
    let rom = c.args.rom.now in
    let sched = c.args.sched.now in
    let log = c.args.log.now in
    let image = fresh_image _ _ refl c.wharfnettle_fresh.ensures in
    let small : length log < 2 ^ 64 = omega arith in
    let sheet = c.upd546_sheet-sheet in
    same_end c.told.ensures
    (call_ends rom sched log _ c.args.n.0 _ sheet.result image small (omega arith) sheet.ensures c.wharfnettle_call-number.ensures)

pub returns-clause-tells_run : goal.returns-clause-tells_run
returns-clause-tells_run c = ends c

pub returns-clause-recorded : goal.returns-clause-recorded
returns-clause-recorded c =
    let bytes_of_rom : Bytes c.args.rom.now = λ i. omega (arith, c.type_inv.rom i) in
    let bytes_of_sched : Bytes c.args.sched.now = λ i. omega (arith, c.type_inv.sched i) in
    by_end (ends c) (recorded c.args.rom.now c.args.sched.now bytes_of_rom bytes_of_sched fresh c.args.log.now c.args.n.0)
