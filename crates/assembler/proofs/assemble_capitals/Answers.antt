-- The bytes stand at the front. Assumes nothing.
use borrow.Author.Rules.{rules}
use Rattle.assembler.proofs.Filling.{some_bytes}
use Rattle.assembler.proofs.assemble_capitals.Goals as goal

pub returns : goal.returns
returns c =
    some_bytes _ c.args.rom.now c.in_ok-take_lines.field-0 c.take_lines.new.cells c.in_ok-take_lines.ensures (search rules) c.requires _
    c.min-size.ensures _ c.fill.ensures
