-- The two remarks. Assumes nothing.
use mathlib.Core.Path.{◌∙◌, sym, ap}
use native.Mathlib.Omega.{arith}
use lib.ListN.{length, take}
use Rattle.mnemonics.specs.Mnemonics.{none_for, long_for}
use Rattle.mnemonics.specs.declared.Kind.{Kind}
use Rattle.mnemonics.specs.Kinds.{kind_by}
use Rattle.listing.specs.Listed.{item_by}
use Rattle.text.proofs.Writing.{told, then}
use Rattle.listing.proofs.Lines.{elsewhere, no_code}
use Rattle.listing.proofs.put_remark.Goals as goal

pub returns-then-is_long : goal.returns-then-is_long
returns-then-is_long c =
    let none = ap (λ (k : Kind). none_for (kind_by k)) c.in-NoInstruction.is in
    let two = ap long_for (sym c.entry.ensures.kind) ∙ sym c.is_long.ensures ∙ c.if-is_long.true in
    let place = ap (take 3) (rw c.follows.ensures at c.three-place.ensures) in
    let words = c.push.ensures in
    let digits = c.push-then-is_long.ensures in
    (told (elsewhere (item_by c.args.item) none two place) (then words digits), omega (arith, words.appended.ends, digits.appended.ends, ap length place))

pub returns-else-is_long : goal.returns-else-is_long
returns-else-is_long c =
    let none = ap (λ (k : Kind). none_for (kind_by k)) c.in-NoInstruction.is in
    let one = ap long_for (sym c.entry.ensures.kind) ∙ sym c.is_long.ensures ∙ c.if-is_long.false in
    let words = c.push-else-is_long.ensures in
    (told (no_code (item_by c.args.item) none one) words, omega (arith, words.appended.ends))
