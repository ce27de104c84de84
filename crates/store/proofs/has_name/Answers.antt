-- Two names as two numbers. Assumes nothing.
use native.Mathlib.Omega.{arith}
use mathlib.Core.Path.{◌≡◌, ◌∙◌, refl, ap}
use lib.ListN.{take, length-take}
use lib.Seq.{take_all}
use Rattle.upd546.specs.Bytes.{number_of}
use Rattle.store.specs.Entries.{name_length}
use Rattle.store.proofs.Names.{compared, part_bytes}
use Rattle.store.proofs.has_name.Goals as goal

pub returns : goal.returns
returns c =
    let entry = c.args.entry.now in
    let name = c.args.name.now in
    let same = compared name (take name_length entry) (λ k. omega (arith, c.type_inv.name k))
    (part_bytes entry 0 name_length (λ k. omega (arith, c.fits-entry k))) (omega (arith, c.requires, length-take name_length entry, c.told-entry)) in
    let number : c.number_at.result ≡ number_of name = c.number_at.ensures.0 ∙ ap number_of (take_all name_length name (omega (arith, c.requires))) in
    rw (same, ← number, ← c.number_at-number.ensures.0) refl
