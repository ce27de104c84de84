-- A fetch that stops, and an instruction that is fetched. Assumes nothing.
use mathlib.Core.Path.{◌∙◌, refl, sym, ap}
use Prim.Native.Nat.{◌≤◌}
use native.Mathlib.Omega.{arith}
use Rattle.runs.specs.Machine.{Out}
use Rattle.upd546.specs.declared.State.{State}
use Rattle.upd546.specs.Parts.{state_of}
use Rattle.effect.specs.Answer.{answer_on}
use Rattle.std.proofs.lemmas.Result.{err_from_is_err_and}
use Rattle.effect.proofs.Ends.{sized, some_number}
use Rattle.cycle.proofs.Executing.{holds_fetch, outcome_same, begins, outputs}
use Rattle.cycle.proofs.execute.Goals as goal

pub returns-in_err-f : goal.returns-in_err-f
returns-in_err-f c sheet fits =
    let a = c.args in
    let e = err_from_is_err_and c.from_residual.result c.from_residual.ensures.1 in
    rw (e.1, e.2)
    (holds_fetch sheet a.chip.rom.now a.lines (state_of a.c a.ram.now a.ports.now a.number) a.c a.at a.log.now
    _ (some_number _) (c.in_err-f.ensures sheet fits.rom_is).stop)

pub outcome-requires : goal.outcome-requires
outcome-requires c =
    let a = c.args in
    let sheet = sized a.chip.rom.now in
    let few : sheet.levels ≤ 3 = omega arith in
    let f = c.in_ok-f.ensures sheet refl in
    let r = c.requires.0 in
    let b = begins sheet a.chip.rom.now a.lines a.ram.now a.ports.now a.number a.c c.in_ok-f.f (sym f.stop) f.begins few r in
    let o = outputs sheet a.chip.rom.now a.lines a.ram.now a.ports.now a.number a.c c.in_ok-f.f (sym f.stop) f.begins few r in
    record { rows_are = r.rows_are; some_level = r.some_level; three_levels = r.three_levels; writes = record { begins = b; outputs = o; latches = r.valid.ports; place = c.requires.1; below = r.below }; words = r.valid.ram }

pub returns : goal.returns
returns c sheet fits =
    let a = c.args in
    let f = c.in_ok-f.ensures sheet fits.rom_is in
    let s = state_of a.c a.ram.now a.ports.now a.number in
    c.outcome.ensures sheet fits
    ∙ ap (λ (o : Out State). answer_on a.at o s a.log.now)
    (outcome_same sheet a.chip.rom.now a.lines a.ram.now a.ports.now a.number a.c c.in_ok-f.f (sym f.stop) f.begins)
