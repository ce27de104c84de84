-- The entry's needs, its lot, and the board's call on its parts of the buffers. Assumes nothing.
use mathlib.Core.Path.{◌≡◌, ◌∙◌, ap}
use mathlib.Core.List.{List}
use Prim.Native.Nat.{ℕ}
use native.Mathlib.Omega.{arith}
use Rattle.upd546.specs.TwoRunners.{chip}
use Rattle.panels.specs.declared.Course.{Course}
use Rattle.panels.specs.declared.Needs.{Needs}
use Rattle.panels.specs.Courses.{lot_of, after_of}
use Rattle.bank_calls.specs.Entries.{entry_needs, entry_after}
use Rattle.bank_calls.specs.InTurn.{Within}
use Rattle.bank_calls.proofs.Lots.{Lent, lent, own_answer_lem, own_logs}
use Rattle.bank_calls.proofs.serve_one.Goals as goal

-- where the next course is known
parts : (entry roms schedules logs : List ℕ) (c next : Course) {n : Needs} → Within c roms schedules logs → next ≡ after_of c n → n ≡ entry_needs entry
    → Lent c.at next.at roms schedules logs
parts entry roms schedules logs c next within e f = lent roms schedules logs c within (entry_needs entry) (e ∙ ap (after_of c) f)

pub slice_bounds-turn-count : goal.slice_bounds-turn-count
slice_bounds-turn-count c =
    let a = c.args in
    (parts a.entry.now a.roms.now a.schedules.now a.logs.now a.c _ c.requires.1 c.after-next.ensures c.needs_of-needs.ensures).rom

pub slice_bounds-turn-start : goal.slice_bounds-turn-start
slice_bounds-turn-start c =
    let a = c.args in
    let p = parts a.entry.now a.roms.now a.schedules.now a.logs.now a.c _ c.requires.1 c.after-next.ensures c.needs_of-needs.ensures in
    omega (arith, p.rom, p.rom_end)

pub slice_bounds-turn-end : goal.slice_bounds-turn-end
slice_bounds-turn-end c =
    let a = c.args in
    let p = parts a.entry.now a.roms.now a.schedules.now a.logs.now a.c _ c.requires.1 c.after-next.ensures c.needs_of-needs.ensures in
    omega (arith, p.rom, p.rom_end)

pub slice_bounds-turn-count-2 : goal.slice_bounds-turn-count-2
slice_bounds-turn-count-2 c =
    let a = c.args in
    (parts a.entry.now a.roms.now a.schedules.now a.logs.now a.c _ c.requires.1 c.after-next.ensures c.needs_of-needs.ensures).schedule

pub slice_bounds-turn-start-2 : goal.slice_bounds-turn-start-2
slice_bounds-turn-start-2 c =
    let a = c.args in
    let p = parts a.entry.now a.roms.now a.schedules.now a.logs.now a.c _ c.requires.1 c.after-next.ensures c.needs_of-needs.ensures in
    omega (arith, p.schedule, p.schedule_end)

pub slice_bounds-turn-end-2 : goal.slice_bounds-turn-end-2
slice_bounds-turn-end-2 c =
    let a = c.args in
    let p = parts a.entry.now a.roms.now a.schedules.now a.logs.now a.c _ c.requires.1 c.after-next.ensures c.needs_of-needs.ensures in
    omega (arith, p.schedule, p.schedule_end)

pub slice_bounds-turn-count-3 : goal.slice_bounds-turn-count-3
slice_bounds-turn-count-3 c =
    let a = c.args in
    (parts a.entry.now a.roms.now a.schedules.now a.logs.now a.c _ c.requires.1 c.after-next.ensures c.needs_of-needs.ensures).log

pub slice_bounds-turn-start-3 : goal.slice_bounds-turn-start-3
slice_bounds-turn-start-3 c =
    let a = c.args in
    let p = parts a.entry.now a.roms.now a.schedules.now a.logs.now a.c _ c.requires.1 c.after-next.ensures c.needs_of-needs.ensures in
    omega (arith, p.log, p.log_end)

pub slice_bounds-turn-end-3 : goal.slice_bounds-turn-end-3
slice_bounds-turn-end-3 c =
    let a = c.args in
    let p = parts a.entry.now a.roms.now a.schedules.now a.logs.now a.c _ c.requires.1 c.after-next.ensures c.needs_of-needs.ensures in
    omega (arith, p.log, p.log_end)

pub returns-clause-after : goal.returns-clause-after
returns-clause-after c =
    let a = c.args in
    let ends = c.after-next.ensures ∙ ap (after_of a.c) c.needs_of-needs.ensures in
    let its = c.lot_of-lot.ensures ∙ ap (lot_of a.c) c.needs_of-needs.ensures in
    c.turn.ensures.after
    ∙ ap (entry_after a.entry.now) (own_answer_lem a.roms.now a.schedules.now a.logs.now a.c c.requires.1 chip a.sheet a.entry.now ends its)

pub returns-clause-logs_after : goal.returns-clause-logs_after
returns-clause-logs_after c =
    let a = c.args in
    let ends = c.after-next.ensures ∙ ap (after_of a.c) c.needs_of-needs.ensures in
    let its = c.lot_of-lot.ensures ∙ ap (lot_of a.c) c.needs_of-needs.ensures in
    own_logs a.roms.now a.schedules.now a.logs.now a.c c.requires.1 chip a.sheet a.entry.now ends its c.turn.ensures.log_after

pub returns-clause-value : goal.returns-clause-value
returns-clause-value c = c.after-next.ensures ∙ ap (after_of c.args.c) c.needs_of-needs.ensures
