-- Neighbours are joined bar by bar; no wait is lost. Assumes nothing.
use Rattle.std.proofs.Common.{◌≡◌, arith, length, rules, refl}
use Rattle.bar_rows.proofs.Rows.{one_more, all_thinned}
use Rattle.bar_rows.proofs.Row.thin.Goals as goal

pub loop-k-init : goal.loop-k-init
loop-k-init c = record { count = omega arith; others = λ j p. refl; kept = λ p. refl }

pub loop-k-preserved : goal.loop-k-preserved
loop-k-preserved c =
    let turn = c.loop-k in
    let old : length c.args.self.now.all ≡ 2048 = search rules in
    let now : length turn.self.all ≡ 2048 = search rules in
    let within = c.args.self.now.within in
    one_more _ _ turn.self _ turn.k _ _ turn.invariant (omega (arith, within, old)) (omega (arith, within, now)) refl c.add.ensures.kept c.add.ensures.count c.add.ensures.others

pub returns : goal.returns
returns c = all_thinned _ _ _ _ c.loop-k.invariant (omega arith)
