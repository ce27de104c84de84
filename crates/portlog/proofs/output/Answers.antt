-- No write, the two of OCD, and one. Assumes nothing.
use mathlib.Core.Path.{ap}
use native.Mathlib.Omega.{arith}
use lib.ListN.{length}
use Rattle.laws.proofs.Tails.{mid_tail}
use Rattle.portlog.proofs.Records.{one_write, both_of, port_of, writes_none, writes_one, writes_both}
use Rattle.std.proofs.lemmas.Grind.{common_steps}
use Rattle.portlog.proofs.output.Goals as goal

pub returns-then-port-eq-NO_PORT : goal.returns-then-port-eq-NO_PORT
returns-then-port-eq-NO_PORT c =
    writes_none c.args.log.now c.args.ports.now c.args.n c.args.port
    c.args.value c.if-port-eq-NO_PORT.true

pub put_record-requires : goal.put_record-requires
put_record-requires c =
    omega (arith, c.requires.0, ap length (both_of c.args.port c.args.value c.if-port-eq-PORTS_C_AND_D.true))

pub put_record-requires-then-port-eq-PORTS_C_AND_D : goal.put_record-requires-then-port-eq-PORTS_C_AND_D
put_record-requires-then-port-eq-PORTS_C_AND_D c = grind (arith, common_steps, both_of, mid_tail)

pub returns-then-port-eq-PORTS_C_AND_D : goal.returns-then-port-eq-PORTS_C_AND_D
returns-then-port-eq-PORTS_C_AND_D c =
    writes_both c.args.log.now c.args.ports.now c.args.n c.args.port
    c.args.value c.if-port-eq-PORTS_C_AND_D.true c.put_record.ensures c.put_record-then-port-eq-PORTS_C_AND_D.ensures
    c.latch.ensures c.latch-then-port-eq-PORTS_C_AND_D.ensures

pub put_record-requires-2 : goal.put_record-requires-2
put_record-requires-2 c =
    omega (
      arith,
      c.requires.0,
      ap length (one_write c.args.port c.args.value c.if-port-eq-NO_PORT.false c.if-port-eq-PORTS_C_AND_D.false),
    )

pub latch-requires-2 : goal.latch-requires-2
latch-requires-2 c =
    port_of c.args.port c.args.value c.if-port-eq-NO_PORT.false c.if-port-eq-PORTS_C_AND_D.false c.requires.1

pub returns : goal.returns
returns c =
    writes_one c.args.log.now c.args.ports.now c.args.n c.args.port
    c.args.value c.if-port-eq-NO_PORT.false c.if-port-eq-PORTS_C_AND_D.false c.put_record-2.ensures
    c.latch-2.ensures
