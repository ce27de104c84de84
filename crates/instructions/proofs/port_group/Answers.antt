-- Each instruction of the group leaves what its definition says. Assumes nothing.
use Rattle.portlog.specs.Appending.{writes_of}
use Rattle.instructions.proofs.port_group.Goals as goal

pub returns-in-Ocd : goal.returns-in-Ocd
unfolding writes_of
returns-in-Ocd c sheet word = rw (c.in-Ocd.is, c.port_left.ensures)

pub returns-in-Oe : goal.returns-in-Oe
unfolding writes_of
returns-in-Oe c sheet word = rw (c.in-Oe.is, c.port_left-in-Oe.ensures)

pub returns-in-Reb : goal.returns-in-Reb
unfolding writes_of
returns-in-Reb c sheet word = rw (c.in-Reb.is, c.port_left-in-Reb.ensures, c.with_bit.ensures)

pub returns-in-Seb : goal.returns-in-Seb
unfolding writes_of
returns-in-Seb c sheet word = rw (c.in-Seb.is, c.port_left-in-Seb.ensures, c.with_bit-in-Seb.ensures)

pub returns-in-Ip : goal.returns-in-Ip
unfolding writes_of
returns-in-Ip c sheet word = rw (c.in-Ip.is, c.port_left-in-Ip.ensures, c.read_port.ensures)

pub returns-in-Ia : goal.returns-in-Ia
unfolding writes_of
returns-in-Ia c sheet word = rw (c.in-Ia.is, c.port_left-in-Ia.ensures)

pub returns-in-Tpb : goal.returns-in-Tpb
unfolding writes_of
returns-in-Tpb c sheet word = rw (c.in-Tpb.is, c.port_left-in-Tpb.ensures, c.bit.ensures, c.read_port-in-Tpb.ensures)

pub returns-in-Tpa : goal.returns-in-Tpa
unfolding writes_of
returns-in-Tpa c sheet word = rw (c.in-Tpa.is, c.port_left-in-Tpa.ensures, c.bit-in-Tpa.ensures)
