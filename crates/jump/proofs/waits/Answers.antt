-- The byte at PC, and then the byte after it. Assumes nothing.
use mathlib.Core.Path.{◌∙◌, sym}
use Rattle.jump.proofs.Lengths.{past_rom, no_ttm, is_ttm}
use Rattle.jump.proofs.waits.Goals as goal

pub returns-then-rom-pc : goal.returns-then-rom-pc
returns-then-rom-pc c sheet same =
    let a = c.args in
    rw (past_rom sheet a.rom.now same a.pc c.if-rom-pc.true)

pub returns-then-byte_in-ne-CODE_TTM : goal.returns-then-byte_in-ne-CODE_TTM
returns-then-byte_in-ne-CODE_TTM c sheet same =
    let a = c.args in
    rw (no_ttm sheet a.rom.now same a.pc (λ z. c.if-byte_in-ne-CODE_TTM.true (c.byte_in.ensures ∙ z)))

pub returns : goal.returns
returns c sheet same =
    let a = c.args in
    rw (is_ttm sheet a.rom.now same a.pc c.if-rom-pc.false (sym c.byte_in.ensures ∙ c.if-byte_in-ne-CODE_TTM.false))
    (c.jcp_back.ensures sheet same)
