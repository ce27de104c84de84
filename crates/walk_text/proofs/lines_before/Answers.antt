-- An empty schedule stands before cycle 0. Assumes nothing.
use mathlib.Core.Path.{◌∙◌}
use Rattle.walk_text.proofs.Stepping.{empty_sound, empty_lines, before_none}
use Rattle.walk_text.proofs.lines_before.Goals as goal

pub start-requires : goal.start-requires
start-requires c = empty_sound

pub returns-then-n-eq0 : goal.returns-then-n-eq0
returns-then-n-eq0 c = c.start.ensures.lines ∙ empty_lines ∙ before_none c.args.sched.now c.args.n c.if-n-eq0.true
