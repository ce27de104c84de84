-- The parts of a state. Assumes nothing.
use Rattle.upd546.specs.StateImage.{of_image}
use Rattle.restore.specs.Head.{core_of}
use Rattle.restore.proofs.state_at.Goals as goal

pub returns : goal.returns
unfolding core_of of_image
returns c =
    rw (
      c.core_at.ensures,
      c.ports_at.ensures,
      c.ram_at.ensures,
      c.count_at.ensures,
      c.number_at.ensures.0,
    )
