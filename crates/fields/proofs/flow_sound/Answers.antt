-- `flow_sound` tests PC and the three entries of the stack. Assumes nothing.
use mathlib.Core.Path.{◌≡◌}
use mathlib.Core.Bool.{and_assoc, and-true}
use lib.ListN.{length}
use borrow.Author.Rules.{rules}
use borrow.Author.Tests.{eq-eqb}
use Rattle.upd546.specs.TheMachine.{stack_depth}
use Rattle.upd546.specs.Sequences.{all_of}
use Rattle.upd546.specs.StateImage.{flow_sound}
use Rattle.upd546.proofs.Computed.{entries-of}
use Rattle.fields.proofs.flow_sound.Goals as goal

pub returns : goal.returns
unfolding all_of flow_sound
returns c =
    let stack = c.args.f.stack in
    let depth : length stack ≡ stack_depth = search rules in
    rw (eq-eqb _ _ depth, rw depth at (entries-of stack)) (simp (and_assoc, and-true))
