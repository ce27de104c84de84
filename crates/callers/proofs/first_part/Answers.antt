-- Nothing was read before. Assumes nothing.
use mathlib.Core.Path.{◌∙◌, ap}
use Rattle.waiting.specs.declared.Reading.{Reading}
use Rattle.waits_text.specs.Parts.{part_read}
use Rattle.callers.proofs.Uses.{first_read}
use Rattle.callers.proofs.first_part.Goals as goal

pub returns : goal.returns
returns c =
    let part = c.args.part.now in
    c.part_read.ensures ∙ ap (λ (before : Reading). part_read before part) c.no_parts.ensures ∙ first_read part
