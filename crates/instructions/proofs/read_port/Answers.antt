-- The lines of ports A to D, on C and D with their latches, and 0 for any other port. Assumes nothing.
use mathlib.Core.Path.{sym}
use Rattle.upd546.specs.Ports.{read_port}
use Rattle.decode.proofs.Keys.{past}
use Rattle.laws.proofs.Reading.{c_and_d_read_back}
use Rattle.instructions.proofs.read_port.Goals as goal

pub returns-in-0 : goal.returns-in-0
unfolding read_port
returns-in-0 c = rw c.in-0.is

pub returns-in-1 : goal.returns-in-1
unfolding read_port
returns-in-1 c = rw c.in-1.is

pub returns-in-2 : goal.returns-in-2
unfolding read_port
returns-in-2 c = rw c.in-2.is

pub returns-in-3 : goal.returns-in-3
unfolding read_port
returns-in-3 c = rw c.in-3.is

pub returns-in_default : goal.returns-in_default
returns-in_default c =
    sym ((c_and_d_read_back c.args.l c.args.ports.now).others c.args.p (past 4 c.args.p c.in_default.in_default-own.rest))
