-- The cycles that are left get fewer with each slice. Assumes nothing.
use Rattle.slices.proofs.write_log.Given as goal

abbrev pub decreases-loop-number : goal.decreases-loop-number
decreases-loop-number g l = l.left
