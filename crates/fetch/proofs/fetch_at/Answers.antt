-- The stops in their order, and the instruction of one or two bytes. Assumes nothing.
use mathlib.Core.Path.{◌∙◌, refl, sym, ap}
use native.Mathlib.Omega.{arith}
use Rattle.upd546.specs.TheMachine.{byte_at, follows}
use Rattle.fetch.proofs.Stops.{size_at, bytes_at, stops_past, stops_none, begins_one, stops_second, begins_two}
use Rattle.fetch.proofs.fetch_at.Goals as goal

pub returns-then-rom-pc : goal.returns-then-rom-pc
returns-then-rom-pc c sheet same =
    stops_past sheet c.args.rom.now same c.args.pc c.if-rom-pc.true

pub returns-then-size-eq0 : goal.returns-then-size-eq0
returns-then-size-eq0 c sheet same =
    let s = size_at c.args.rom.now c.args.pc c.byte_in-code.ensures
    c.size_of-size.ensures in
    stops_none sheet c.args.rom.now same c.args.pc c.if-rom-pc.false (sym s.1 ∙ c.if-size-eq0.true)

pub returns-then-size-lt2 : goal.returns-then-size-lt2
returns-then-size-lt2 c sheet same =
    let s = size_at c.args.rom.now c.args.pc c.byte_in-code.ensures
    c.size_of-size.ensures in
    begins_one sheet c.args.rom.now same c.args.pc c.if-rom-pc.false (omega (arith, s.1, c.if-size-eq0.false))
    (omega (arith, s.0, bytes_at c.args.rom.now c.args.pc, c.if-size-lt2.true)) c.byte_in-code.ensures refl c.follows-next.ensures s.1

pub returns-then-rom-next : goal.returns-then-rom-next
returns-then-rom-next c sheet same =
    let s = size_at c.args.rom.now c.args.pc c.byte_in-code.ensures
    c.size_of-size.ensures in
    stops_second sheet c.args.rom.now same c.args.pc c.if-rom-pc.false
    (omega (arith, s.1, c.if-size-eq0.false))
    (omega (arith, s.0, bytes_at c.args.rom.now c.args.pc, c.if-size-lt2.false))
    (rw c.follows-next.ensures at c.if-rom-next.true)

pub returns : goal.returns
returns c sheet same =
    let s = size_at c.args.rom.now c.args.pc c.byte_in-code.ensures
    c.size_of-size.ensures in
    let f = c.follows-next.ensures in
    begins_two sheet c.args.rom.now same c.args.pc c.if-rom-pc.false (omega (arith, s.1, c.if-size-eq0.false))
    (omega (arith, s.0, bytes_at c.args.rom.now c.args.pc, c.if-size-lt2.false))
    (rw f at c.if-rom-next.false) c.byte_in-code.ensures
    (c.byte_in.ensures ∙ ap (byte_at c.args.rom.now) f) (c.follows.ensures ∙ ap follows f) s.1
