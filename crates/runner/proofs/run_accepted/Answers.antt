-- The tables, the cursor, and the loop. Assumes nothing.
use Prim.Native.Nat.{◌≤◌}
use native.Mathlib.Omega.{arith}
use Rattle.laws.proofs.Sheets.{legal_sheet}
use Rattle.turns.proofs.Taken.{Taken, run_taken}
use Rattle.runner.proofs.run_accepted.Goals as goal
use Rattle.runner.proofs.run_accepted.Goals.{After-start-arg-1, After-struct_known-1}

taken : (c : After-struct_known-1) → Taken c.args.sheet c.args.rom.now c.args.sched.now c.args.s c.args.n
taken c = run_taken c.args.sheet c.args.rom.now c.args.sched.now c.args.s c.args.n c.requires

taken_2 : (c : After-start-arg-1) → Taken c.args.sheet c.args.rom.now c.args.sched.now c.args.s c.args.n
taken_2 c = run_taken c.args.sheet c.args.rom.now c.args.sched.now c.args.s c.args.n c.requires

pub overflow_cast-sheet : goal.overflow_cast-sheet
overflow_cast-sheet c =
    let few : c.args.sheet.rows ≤ 31 = (legal_sheet c.args.sheet (taken c).legal).rows in
    omega arith

pub start-first-requires : goal.start-first-requires
start-first-requires c = (taken_2 c).schedule
