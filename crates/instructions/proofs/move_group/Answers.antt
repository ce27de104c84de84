-- Each instruction of the group leaves what its definition says. Assumes nothing.
use Rattle.instructions.proofs.move_group.Goals as goal

pub returns-in-Ldi : goal.returns-in-Ldi
returns-in-Ldi c sheet word ports = rw c.in-Ldi.is (c.ldi.ensures sheet word ports)

pub returns-in-Li : goal.returns-in-Li
returns-in-Li c sheet word ports = rw c.in-Li.is (c.li.ensures sheet word ports)
