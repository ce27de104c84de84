-- A refusal of the round, a bank that is no multiple of its entries, and a round. Assumes nothing.
use Rattle.upd546.specs.declared.Sheet.{Sheet}
use Rattle.bank_calls.proofs.Rounds.{planned_is, noted_fit, round_refused, round_odd, all_served, first_within, round_done}
use Rattle.bank_calls.proofs.wharfnettle_round.Goals as goal

pub noted_all-requires : goal.noted_all-requires
noted_all-requires c =
    let a = c.args in
    noted_fit (record { rom = a.rom_bytes; rows = a.rows; levels = a.levels }) a.bank.now a.roms.now a.schedules.now a.logs.now a.t c.begin-begun.ensures

pub returns-then-course-ne0 : goal.returns-then-course-ne0
returns-then-course-ne0 c =
    let a = c.args in
    let s : Sheet = record { rom = a.rom_bytes; rows = a.rows; levels = a.levels } in
    let plan = planned_is s a.bank.now a.roms.now a.schedules.now a.logs.now a.t c.begin-begun.ensures c.noted_all.ensures c.planned-course.ensures in
    round_refused s a.bank.now a.roms.now a.schedules.now a.logs.now a.t plan c.if-course-ne0.true

pub returns-then-bank-ne0 : goal.returns-then-bank-ne0
returns-then-bank-ne0 c =
    let a = c.args in
    let s : Sheet = record { rom = a.rom_bytes; rows = a.rows; levels = a.levels } in
    let plan = planned_is s a.bank.now a.roms.now a.schedules.now a.logs.now a.t c.begin-begun.ensures c.noted_all.ensures c.planned-course.ensures in
    round_odd s a.bank.now a.roms.now a.schedules.now a.logs.now a.t plan c.if-course-ne0.false c.if-bank-ne0.true

pub serve-requires : goal.serve-requires
serve-requires c =
    let a = c.args in
    let s : Sheet = record { rom = a.rom_bytes; rows = a.rows; levels = a.levels } in
    let plan = planned_is s a.bank.now a.roms.now a.schedules.now a.logs.now a.t c.begin-begun.ensures c.noted_all.ensures c.planned-course.ensures in (
      all_served s a.bank.now a.roms.now a.schedules.now a.logs.now a.t plan c.if-course-ne0.false c.if-bank-ne0.false,
      first_within s a.bank.now a.roms.now a.schedules.now a.logs.now a.t plan c.if-course-ne0.false c.if-bank-ne0.false,
    )

pub returns : goal.returns
returns c =
    let a = c.args in
    let s : Sheet = record { rom = a.rom_bytes; rows = a.rows; levels = a.levels } in
    let plan = planned_is s a.bank.now a.roms.now a.schedules.now a.logs.now a.t c.begin-begun.ensures c.noted_all.ensures c.planned-course.ensures in
    round_done s a.bank.now a.roms.now a.schedules.now a.logs.now a.t plan c.if-course-ne0.false c.if-bank-ne0.false c.serve.ensures
