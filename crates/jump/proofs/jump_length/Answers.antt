-- Each test that fails, and where none does the lesser of two numbers, rounded down to even. Assumes nothing.
use mathlib.Core.Path.{◌∙◌, sym}
use native.Mathlib.Omega.{arith}
use Rattle.jump.proofs.Lengths.{stopped_none, tm_none, owed_none, loop_none, both_none, level_none, jumps}
use Rattle.jump.proofs.jump_length.Goals as goal

pub returns-then-timer-eq0 : goal.returns-then-timer-eq0
returns-then-timer-eq0 c = stopped_none c.if-timer-eq0.true

pub returns-then-timer-ne0 : goal.returns-then-timer-ne0
returns-then-timer-ne0 c = tm_none c.if-timer-ne0.true

pub returns-then-owed-ne0 : goal.returns-then-owed-ne0
returns-then-owed-ne0 c = owed_none c.if-owed-ne0.true

pub returns-then-not-waits : goal.returns-then-not-waits
returns-then-not-waits c =
    loop_none (λ sheet same. sym (c.waits.ensures sheet same) ∙ c.if-not-waits.true)

pub returns-then-interrupt : goal.returns-then-interrupt
returns-then-interrupt c = both_none c.if-interrupt.true

pub returns-then-level-interrupt : goal.returns-then-level-interrupt
returns-then-level-interrupt c = level_none c.if-level-interrupt.true

pub returns : goal.returns
returns c =
    jumps (c.if-not-skips.false) c.if-owed-ne0.false c.if-timer-ne0.false (omega (arith, c.if-timer-eq0.false)) c.if-interrupt.false
    (λ sheet same. sym (c.waits.ensures sheet same) ∙ c.if-not-waits.false) c.if-level-interrupt.false
    c.min.result c.even_below.result (omega (arith, c.min.ensures, c.ticks_left-ticks.ensures)) c.even_below.ensures
