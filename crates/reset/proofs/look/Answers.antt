-- An ordinary cycle is next, a reset cycle that the log has no room for, or reset cycles. Assumes nothing.
use mathlib.Core.Path.{◌≡◌, ◌∙◌, sym, ap}
use native.Mathlib.Omega.{arith}
use Rattle.upd546.specs.TheMachine.{reset_count}
use Rattle.upd546.specs.OneMachineCycle.{counted, cleared}
use Rattle.reset.specs.Line.{ordinary_next}
use Rattle.reset.proofs.Seeing.{lacks, fits, looked_ordinary, looked_full, resets_to}
use Rattle.std.proofs.lemmas.Grind.{common_steps}
use Rattle.reset.proofs.look.Goals as goal
use Rattle.reset.proofs.look.Goals.{After-cleared-core}

-- the next cycle is a reset cycle
resets : (c : After-cleared-core) → let a = c.args in counted a.lines.res a.count ≡ reset_count
resets c = sym c.counted-after.ensures ∙ c.if-after-ne-RESET_COUNT.false

pub returns-then-after-ne-RESET_COUNT : goal.returns-then-after-ne-RESET_COUNT
returns-then-after-ne-RESET_COUNT c =
    let a = c.args in
    ap (ordinary_next a.before a.ports.now a.log.now a.at a.lines a.n a.limit a.count) c.counted-after.ensures
    ∙ sym (looked_ordinary a.before a.ports.now a.log.now a.at a.lines a.n a.limit a.count (λ e. c.if-after-ne-RESET_COUNT.true (c.counted-after.ensures ∙ e)))

pub returns-then-count-log : goal.returns-then-count-log
returns-then-count-log c = grind (arith, common_steps, looked_full, lacks, fits)

pub returns : goal.returns
returns c =
    let a = c.args in
    resets_to a.before a.ports.now a.log.now a.at a.lines a.n a.limit a.count (resets c) (fits a.n a.count _ c.if-count-log.false)
    (c.cleared-core.ensures ∙ ap cleared c.taken.ensures) c.recorded-end.ensures.0 c.if-after-ne-RESET_COUNT.false c.clear.ensures c.recorded-end.ensures.1
