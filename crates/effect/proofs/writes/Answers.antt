-- Held back by what it skips or by a log without room, or begun with its records written. Assumes nothing.
use mathlib.Core.Path.{refl, ap}
use native.Mathlib.Omega.{arith}
use Rattle.upd546.specs.declared.Core.{Core}
use Rattle.upd546.specs.Parts.{set_acc}
use Rattle.decode.specs.Named.{named_port}
use Rattle.instructions.specs.Groups.{given_of, port_effect}
use Rattle.std.proofs.lemmas.Result.{err_from_is_err_and}
use Rattle.effect.proofs.Ends.{sized, over_small, held_with, full_with, begun_with}
use Rattle.effect.proofs.writes.Goals as goal

pub returns-in_err-p : goal.returns-in_err-p
returns-in_err-p c sheet same word ram =
    let a = c.args in
    let p = err_from_is_err_and c.from_residual.result c.from_residual.ensures.1 in
    rw (p.1, p.2)
    (held_with sheet a.chip.rom.now (named_port a.op) a.g word a.ports.now (port_effect (given_of sheet a.g word a.ports.now) c.port_group-r.result) (c.port_group-r.ensures sheet word) refl
    a.at a.number ram a.log.now (c.in_err-p.ensures sheet same))

pub returns-then-log-at : goal.returns-then-log-at
returns-then-log-at c sheet same word ram =
    let a = c.args in
    full_with sheet a.chip.rom.now (named_port a.op) a.g word a.ports.now (port_effect (given_of sheet a.g word a.ports.now) c.port_group-r.result) (c.port_group-r.ensures sheet word) refl
    a.at a.number ram a.log.now (c.in_ok-p.ensures sheet same)
    (rw (c.room.ensures c.port_group-r.result.value) at c.if-log-at.true)

pub overflow_add-cycles : goal.overflow_add-cycles
overflow_add-cycles c =
    omega (arith, c.requires.begins.two_cycles, over_small (sized c.args.chip.rom.now) c.args.chip.rom.now _ _ _ (c.in_ok-p.ensures (sized c.args.chip.rom.now) refl))

pub returns : goal.returns
returns c sheet same word ram =
    let a = c.args in
    let r = c.port_group-r.result in
    begun_with sheet a.chip.rom.now (named_port a.op) a.g word a.ports.now (port_effect (given_of sheet a.g word a.ports.now) r) (c.port_group-r.ensures sheet word) refl
    a.at a.number ram a.log.now (c.in_ok-p.ensures sheet same)
    (rw (c.room.ensures r.value) at c.if-log-at.false) a.cycles c.requires.begins.cycles_are
    (ap (λ (x : Core). set_acc r.acc x) c.begun-c.ensures) c.output-bytes.ensures
