-- What SPB and RPB write, by the port and the bit. Assumes nothing.
use mathlib.Core.Path.{◌∙◌, sym, ap}
use native.Mathlib.Omega.{arith}
use Rattle.upd546.specs.Ports.{written}
use Rattle.portlog.proofs.Records.{no_write, one_write}
use Rattle.instructions.proofs.Writes.{bit_low, bit_past, bit_below, bit_i, bit_i3}
use Rattle.instructions.proofs.output_bit.Goals as goal

pub returns-then-p-lt-PORT_E : goal.returns-then-p-lt-PORT_E
returns-then-p-lt-PORT_E c =
    no_write ∙ sym
    (bit_low c.args.ports.now c.args.p c.args.b c.args.v c.if-p-lt-PORT_E.true)

pub returns-then-p-gt-PORT_I : goal.returns-then-p-gt-PORT_I
returns-then-p-gt-PORT_I c =
    no_write ∙ sym
    (bit_past c.args.ports.now c.args.p c.args.b c.args.v c.if-p-lt-PORT_E.false
    c.if-p-gt-PORT_I.true)

pub returns-then-p-lt-PORT_I : goal.returns-then-p-lt-PORT_I
returns-then-p-lt-PORT_I c =
    one_write c.args.p c.with_bit.result (λ e. omega arith) (λ e. omega arith)
    ∙ ap (written c.args.p) c.with_bit.ensures
    ∙ sym
    (bit_below c.args.ports.now c.args.p c.args.b c.args.v c.if-p-lt-PORT_E.false
    c.if-p-lt-PORT_I.true)

pub returns-then-b-lt3 : goal.returns-then-b-lt3
returns-then-b-lt3 c =
    one_write 8 c.with_bit-then-b-lt3.result (λ e. omega arith) (λ e. omega arith)
    ∙ ap (written 8) c.with_bit-then-b-lt3.ensures
    ∙ sym
    (bit_i c.args.ports.now c.args.p c.args.b c.args.v (omega arith)
    c.if-b-lt3.true)

pub returns : goal.returns
returns c =
    no_write ∙ sym
    (bit_i3 c.args.ports.now c.args.p c.args.b c.args.v (omega arith)
    (omega arith))
