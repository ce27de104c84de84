-- The heading, and a line more. Assumes nothing.
use mathlib.Core.Path.{◌≡◌}
use Rattle.std.proofs.Common.{rules, arith, length}
use Rattle.text.proofs.Writing.{told, then}
use Rattle.waits_text.proofs.Texts.{report_more, report_whole}
use Rattle.waits_text.proofs.put_report.Goals as goal

pub loop-i-preserved : goal.loop-i-preserved
loop-i-preserved c =
    let four : length c.args.carried.landings ≡ 4 = search rules in (
      told (report_more c.loop-i.i c.args.carried.landings (omega (arith, four, c.loop-i-test.true)))
          (then c.loop-i.invariant.0 c.put_landing.ensures.0),
      omega (arith, c.loop-i.invariant.1, c.put_landing.ensures.1),
    )

pub returns : goal.returns
returns c =
    let four : length c.args.carried.landings ≡ 4 = search rules in
    told (report_whole c.loop-i.i c.args.carried (omega (arith, four, c.loop-i-test.false))) c.loop-i.invariant.0
