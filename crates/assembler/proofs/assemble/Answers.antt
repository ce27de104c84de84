-- Capital letters first, and then the ROM of these. Assumes nothing.
use mathlib.Core.Path.{◌∙◌}
use Rattle.assembly.proofs.Parts.{uppers_by}
use Rattle.assembler.proofs.Filling.{in_capitals}
use Rattle.assembler.proofs.assemble.Goals as goal

pub returns : goal.returns
returns c =
    let capitals = c.make_ascii_uppercase.ensures.after ∙ uppers_by c.args.text.now in
    (in_capitals _ _ capitals _ _ _ c.assemble_capitals.ensures, capitals)
