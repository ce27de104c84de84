-- The cycles left fall with each slice. Assumes nothing.
use Rattle.walk.proofs.Walk.reach.Given as goal

abbrev pub decreases-loop-sheet : goal.decreases-loop-sheet
decreases-loop-sheet l = l.left
