-- The four conditions of an acceptance. Assumes nothing.
use mathlib.Core.Bool.{and_assoc, and-true}
use Rattle.upd546.specs.Sequences.{all_of}
use Rattle.upd546.specs.OneMachineCycle.{accepts as acceptsOf}
use Rattle.steps.proofs.accepts.Goals as goal

pub returns : goal.returns
unfolding acceptsOf all_of
returns c = rw c.blocks-kept.ensures (simp (and_assoc, and-true))
