-- Three pieces. Assumes nothing.
use native.Mathlib.Omega.{arith}
use mathlib.Core.Path.{◌≡◌, ◌∙◌, ap}
use lib.ListN.{length}
use Rattle.text.proofs.Writing.{told, then}
use Rattle.walk_text.proofs.Joined.{cycle_length, place_length, head_same}
use borrow.Author.Rules.{rules}
use Rattle.walk_text.proofs.put_head.Goals as goal

pub returns : goal.returns
returns c =
    let w = c.args.w in
    let cycle = c.cycle_column.ensures in
    let kind = c.doing-kind in
    let at = c.place.ensures in
    let does = c.words.ensures in
    let ten = ap length cycle ∙ cycle_length w.before.cycle.0 in
    let five = ap length at ∙ place_length kind.result w.before.core.flow.pc in
    let eight : length c.words.result ≡ 8 = search rules in (
      told (head_same c.args.rom.now w cycle kind.ensures at does) (then (then c.push.ensures c.push-2.ensures) c.push-3.ensures),
      omega (arith, c.push.ensures.appended.ends, c.push-2.ensures.appended.ends, c.push-3.ensures.appended.ends, ten, five, eight),
    )
