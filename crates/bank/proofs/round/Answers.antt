-- Panel after panel is noted, and then has its turn. Assumes nothing.
use Rattle.std.proofs.Common.{◌≡◌, ◌∙◌, refl, sym, subst, ap, List, ◌++◌, ◌≤◌, length, drop, arith}
use Rattle.std.proofs.lemmas.List.{length-take-le, take-append-drop}
use Rattle.laws.proofs.Demand3.{every_run_counts_within}
use Rattle.upd546.specs.TwoRunners.{chip}
use Rattle.panels.specs.declared.Course.{Course}
use Rattle.panels.specs.declared.Panel.{Panel}
use Rattle.panels.specs.Courses.{plan_of}
use Rattle.panels.specs.Round.{RoundAnswer}
use Rattle.bank.proofs.Passes.{Served, noted_none, noted_next, all_noted, noted_all, served_start, served_next, served_all, noting, serving, round_is}
use Rattle.bank.proofs.round.Goals as goal

pub slice_bounds-panel-items-end : goal.slice_bounds-panel-items-end
slice_bounds-panel-items-end c =
    omega (arith, (noted_none _ _ _ c.args.bank.now c.begin-course.result c.begin-course.ensures).within)

pub slice_bounds-panel-items-end-2 : goal.slice_bounds-panel-items-end-2
slice_bounds-panel-items-end-2 c =
    let start = noted_none _ _ _ c.args.bank.now c.begin-course.result c.begin-course.ensures in
    omega (arith, length-take-le c.begin-course.result.count c.args.bank.now start.within)

pub loop-panel-init : goal.loop-panel-init
loop-panel-init c = noted_none _ _ _ c.args.bank.now c.begin-course.result c.begin-course.ensures

pub loop-panel-preserved : goal.loop-panel-preserved
loop-panel-preserved c =
    noted_next _ c.loop-panel.panel-index c.args.bank.now _ c.loop-panel.course _ _ c.loop-panel.invariant c.loop-panel-test.true c.panel_noted-course.ensures

pub slice_bounds-lent-items-end : goal.slice_bounds-lent-items-end
slice_bounds-lent-items-end c =
    let start = served_start (chip c.args.sheet) c.args.roms.now c.args.schedules.now _ c.loop-panel.panel-index c.args.bank.now c.args.logs.now
    c.loop-panel.course _ _ c.loop-panel.invariant c.loop-panel-test.false refl c.planned-course.ensures in
    omega (arith, start.within)

pub slice_bounds-lent-items-end-2 : goal.slice_bounds-lent-items-end-2
slice_bounds-lent-items-end-2 c =
    let start = served_start (chip c.args.sheet) c.args.roms.now c.args.schedules.now _ c.loop-panel.panel-index c.args.bank.now c.args.logs.now
    c.loop-panel.course _ _ c.loop-panel.invariant c.loop-panel-test.false refl c.planned-course.ensures in
    omega (arith, length-take-le c.planned-course.result.count c.args.bank.now start.within)

pub loop-lent-init : goal.loop-lent-init
loop-lent-init c =
    let start = served_start (chip c.args.sheet) c.args.roms.now c.args.schedules.now _ c.loop-panel.panel-index c.args.bank.now c.args.logs.now
    c.loop-panel.course _ _ c.loop-panel.invariant c.loop-panel-test.false refl c.planned-course.ensures in
    let n = c.planned-course.result.count in
    subst
    (λ (row : List Panel). Served (chip c.args.sheet) c.args.roms.now c.args.schedules.now n 0 row c.args.logs.now c.planned-course.result c.args.bank.now c.args.logs.now c.planned-course.result)
    (sym (take-append-drop n c.args.bank.now))
    start

pub loop-lent-preserved : goal.loop-lent-preserved
loop-lent-preserved c =
    let start = served_start (chip c.args.sheet) c.args.roms.now c.args.schedules.now _ c.loop-panel.panel-index c.args.bank.now c.args.logs.now
    c.loop-panel.course _ _ c.loop-panel.invariant c.loop-panel-test.false refl c.planned-course.ensures in
    let n = c.planned-course.result.count in
    let l = c.loop-lent in
    let long : length l.lent-items ≡ n = omega (arith, length-take-le n c.args.bank.now start.within) in
    served_next (chip c.args.sheet) c.args.roms.now c.args.schedules.now n l.lent-index l.lent-items (drop n c.args.bank.now) l.logs l.course _ _ _
    l.invariant long (omega arith) _ _ _ _ c.turn-turned.ensures.0 c.turn-turned.ensures.1.0 c.turn-turned.ensures.1.1

pub returns : goal.returns
returns c =
    let start = served_start (chip c.args.sheet) c.args.roms.now c.args.schedules.now _ c.loop-panel.panel-index c.args.bank.now c.args.logs.now
    c.loop-panel.course _ _ c.loop-panel.invariant c.loop-panel-test.false refl c.planned-course.ensures in
    let M = chip c.args.sheet in
    let roms = c.args.roms.now in
    let scheds = c.args.schedules.now in
    let logs = c.args.logs.now in
    let bank = c.args.bank.now in
    let n = c.planned-course.result.count in
    let l = c.loop-lent in
    let noted = c.loop-panel.invariant in
    let done = all_noted c.begin-course.result.count c.loop-panel.panel-index bank c.loop-panel.course _ noted c.loop-panel-test.false in
    let plan = c.planned-course.ensures ∙ ap plan_of (noted_all _ c.loop-panel.panel-index bank _ _ noted done ∙ ap (λ (z : Course). noting z.count 0 bank z) c.begin-course.ensures) in
    let all_served : n ≤ l.lent-index = omega (arith, length-take-le n bank start.within) in
    let all = served_all M roms scheds _ l.lent-index (l.lent-items ++ drop n bank) l.logs l.course _ _ _ l.invariant all_served
    ∙ ap (λ (z : Course). serving M roms scheds z.count 0 bank logs z) plan
    ∙ round_is M (every_run_counts_within c.args.sheet) roms scheds c.args.t.0 bank logs in
    (ap (λ (a : RoundAnswer). a.panels) all, (ap (λ (a : RoundAnswer). a.logs) all, ap (λ (a : RoundAnswer). a.number) all))
