-- The byte after that at PC. Assumes nothing.
use Rattle.jump.proofs.Lengths.{next_past_rom, no_jcp, is_jcp_back}
use Rattle.jump.proofs.jcp_back.Goals as goal

pub returns-then-rom-next : goal.returns-then-rom-next
returns-then-rom-next c sheet same =
    let a = c.args in
    next_past_rom sheet a.rom.now same a.pc c.follows-next.ensures c.if-rom-next.true

pub returns-then-code-lt-FIRST_JCP : goal.returns-then-code-lt-FIRST_JCP
returns-then-code-lt-FIRST_JCP c sheet same =
    let a = c.args in
    no_jcp sheet a.rom.now same a.pc c.follows-next.ensures c.byte_in-code.ensures c.if-rom-next.false
    c.if-code-lt-FIRST_JCP.true

pub returns : goal.returns
returns c sheet same =
    let a = c.args in
    is_jcp_back sheet a.rom.now same a.pc c.follows-next.ensures c.byte_in-code.ensures c.if-rom-next.false
    c.if-code-lt-FIRST_JCP.false
