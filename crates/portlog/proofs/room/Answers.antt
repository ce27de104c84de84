-- 8 bytes for each write. Assumes nothing.
use Rattle.portlog.proofs.Records.{one_write, none_of, both_of}
use Rattle.portlog.proofs.room.Goals as goal

pub returns-then-port-eq-NO_PORT : goal.returns-then-port-eq-NO_PORT
returns-then-port-eq-NO_PORT c value = rw (none_of c.args.port value c.if-port-eq-NO_PORT.true)

pub returns-then-port-eq-PORTS_C_AND_D : goal.returns-then-port-eq-PORTS_C_AND_D
returns-then-port-eq-PORTS_C_AND_D c value = rw (both_of c.args.port value c.if-port-eq-PORTS_C_AND_D.true)

pub returns : goal.returns
returns c value = rw (one_write c.args.port value c.if-port-eq-NO_PORT.false c.if-port-eq-PORTS_C_AND_D.false)
