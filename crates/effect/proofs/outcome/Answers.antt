-- Each group ends as the instruction that is decoded. Assumes nothing.
use Rattle.effect.proofs.Joins.{as_answers, on_answers, with_answers}
use Rattle.effect.proofs.outcome.Goals as goal

pub returns-in-Tests : goal.returns-in-Tests
returns-in-Tests c sheet fits =
    let a = c.args in
    as_answers sheet a.chip.rom.now a.at a.g a.ram.now a.ports.now a.number a.log.now c.in-Tests.ensures (c.tests.ensures sheet fits.rom_is)

pub returns-in-Accs : goal.returns-in-Accs
returns-in-Accs c sheet fits =
    let a = c.args in
    as_answers sheet a.chip.rom.now a.at a.g a.ram.now a.ports.now a.number a.log.now c.in-Accs.ensures (c.accs.ensures sheet fits.rom_is)

pub returns-in-Moves : goal.returns-in-Moves
returns-in-Moves c sheet fits =
    let a = c.args in
    as_answers sheet a.chip.rom.now a.at a.g a.ram.now a.ports.now a.number a.log.now c.in-Moves.ensures (c.moves.ensures sheet fits.rom_is)

pub returns-in-Jumps : goal.returns-in-Jumps
returns-in-Jumps c sheet fits =
    let a = c.args in
    as_answers sheet a.chip.rom.now a.at a.g a.ram.now a.ports.now a.number a.log.now c.in-Jumps.ensures (c.jumps.ensures sheet fits.rom_is fits.levels_is)

pub returns-in-Controls : goal.returns-in-Controls
returns-in-Controls c sheet fits =
    let a = c.args in
    as_answers sheet a.chip.rom.now a.at a.g a.ram.now a.ports.now a.number a.log.now c.in-Controls.ensures (c.controls.ensures sheet fits.rom_is)

pub returns-in-Sums : goal.returns-in-Sums
returns-in-Sums c sheet fits =
    let a = c.args in
    on_answers sheet a.chip.rom.now a.at a.g a.ram.now a.ports.now a.number a.log.now c.in-Sums.ensures (c.sums.ensures sheet fits.rom_is fits.rows_is a.ports.now)

pub returns-in-Pointers : goal.returns-in-Pointers
returns-in-Pointers c sheet fits =
    let a = c.args in
    on_answers sheet a.chip.rom.now a.at a.g a.ram.now a.ports.now a.number a.log.now c.in-Pointers.ensures (c.pointers.ensures sheet fits.rom_is fits.rows_is a.ports.now)

pub returns-in-Workings : goal.returns-in-Workings
returns-in-Workings c sheet fits =
    let a = c.args in
    on_answers sheet a.chip.rom.now a.at a.g a.ram.now a.ports.now a.number a.log.now c.in-Workings.ensures (c.workings.ensures sheet a.chip.rom.now a.ports.now)

pub returns-in-Flags : goal.returns-in-Flags
returns-in-Flags c sheet fits =
    let a = c.args in
    on_answers sheet a.chip.rom.now a.at a.g a.ram.now a.ports.now a.number a.log.now c.in-Flags.ensures (c.flags.ensures sheet fits.rom_is a.ports.now)

pub returns-in-Ports : goal.returns-in-Ports
returns-in-Ports c sheet fits =
    let a = c.args in
    with_answers sheet a.chip.rom.now a.at a.g a.ram.now a.ports.now a.number a.log.now c.in-Ports.ensures (c.writes.ensures sheet fits.rom_is)
