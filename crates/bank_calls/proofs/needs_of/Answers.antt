-- Four numbers, read one after the other. Assumes nothing.
use Rattle.bank_calls.specs.Entries.{entry_needs}
use Rattle.bank_calls.proofs.needs_of.Goals as goal

pub returns : goal.returns
unfolding entry_needs
returns c =
    rw (
      c.number_at.ensures.0,
      c.number_at-2.ensures.0,
      c.number_at-3.ensures.0,
      c.number_at-4.ensures.0,
    )
