-- Another length, and eight bytes that are 0 or aren't. Assumes nothing.
use mathlib.Core.Path.{◌≡◌, ◌∙◌, ap}
use native.Mathlib.Omega.{arith}
use lib.ListN.{length}
use lib.Seq.{take_all}
use borrow.Author.Tests.{eq-eqb}
use Rattle.upd546.specs.Bytes.{number_of}
use Rattle.store.specs.Entries.{name_length}
use Rattle.store.proofs.Names.{zero_compared}
use Rattle.store.proofs.is_name.Goals as goal

pub returns : goal.returns
returns c =
    let name = c.args.name.now in
    let eight : length name ≡ name_length = c.if-name-ne-NAME_LENGTH.false in
    let number : c.number_at.result ≡ number_of name = c.number_at.ensures.0 ∙ ap number_of (take_all name_length name (omega arith)) in
    rw (eq-eqb (length name) name_length eight, zero_compared name (λ k. omega (arith, c.type_inv.name k)) eight, ← number)
