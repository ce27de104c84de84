-- What OP writes, by the port. Assumes nothing.
use native.Mathlib.Omega.{arith}
use borrow.Author.Tests.{le-leb, lt-leb, ne_eqb}
use Rattle.upd546.specs.Ports.{outputs, port_c, port_i}
use Rattle.portlog.specs.Appending.{writes_of}
use Rattle.portlog.proofs.Records.{one_write}
use Rattle.instructions.proofs.output_port.Goals as goal

pub returns-then-p-lt-PORT_C : goal.returns-then-p-lt-PORT_C
unfolding outputs writes_of
returns-then-p-lt-PORT_C c = rw (lt-leb port_c _ c.if-p-lt-PORT_C.true)

pub returns-then-p-gt-PORT_I : goal.returns-then-p-gt-PORT_I
unfolding outputs writes_of
returns-then-p-gt-PORT_I c = rw (le-leb port_c _ c.if-p-lt-PORT_C.false, lt-leb _ port_i c.if-p-gt-PORT_I.true)

pub returns-then-p-eq-PORT_I : goal.returns-then-p-eq-PORT_I
unfolding outputs writes_of
returns-then-p-eq-PORT_I c = rw c.if-p-eq-PORT_I.true

pub returns : goal.returns
unfolding outputs
returns c =
    rw (
      one_write c.args.p c.args.v (λ e. omega arith) (λ e. omega arith),
      le-leb port_c _ c.if-p-lt-PORT_C.false,
      le-leb _ port_i c.if-p-gt-PORT_I.false,
      ne_eqb _ port_i c.if-p-eq-PORT_I.false,
    )
