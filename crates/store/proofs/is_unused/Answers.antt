-- Eight bytes that are 0 or aren't. Assumes nothing.
use native.Mathlib.Omega.{arith}
use mathlib.Core.Path.{sym}
use lib.ListN.{length-take}
use Rattle.store.specs.Entries.{name_length}
use Rattle.store.proofs.Names.{zero_compared, part_bytes}
use Rattle.store.proofs.is_unused.Goals as goal

pub returns : goal.returns
returns c =
    let entry = c.args.entry.now in
    rw c.number_at.ensures.0
    (sym (zero_compared _ (part_bytes entry 0 name_length (λ k. omega (arith, c.fits-entry k))) (omega (arith, length-take name_length entry, c.told-entry))))
