-- No skip, a skip past the ROM, and a skip. Assumes nothing.
use mathlib.Core.Path.{refl}
use Rattle.fetch.proofs.Stops.{size_at, bytes_at, passes_none, passes_one}
use Rattle.fetch.proofs.pass_over.Goals as goal

pub returns-then-not-skip : goal.returns-then-not-skip
returns-then-not-skip c sheet same =
    rw (c.if-not-skip.true)
    (passes_none sheet c.args.rom.now same c.args.to refl refl)

pub past_bytes-requires : goal.past_bytes-requires
past_bytes-requires c =
    let s = size_at c.args.rom.now c.args.to c.byte_in.ensures c.size_of-size.ensures in
    rw s.0 (bytes_at c.args.rom.now c.args.to)

pub returns : goal.returns
returns c sheet same =
    let s = size_at c.args.rom.now c.args.to c.byte_in.ensures
    c.size_of-size.ensures in
    rw (c.if-not-skip.false)
    (passes_one sheet c.args.rom.now same c.args.to c.if-rom-to.false s.0 c.past_bytes.ensures)
