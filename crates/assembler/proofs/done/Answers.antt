-- By what the word asks for. Assumes nothing.
use mathlib.Core.Path.{subst}
use Rattle.assembly.specs.Assembling.{Action, done_by}
use Rattle.assembler.specs.Answers.{lines_found, state_of, StepIs}
use Rattle.assembler.proofs.done.Goals as goal

pub returns-in-Length : goal.returns-in-Length
returns-in-Length c =
    let a = c.args in
    let lines = lines_found a.text.now in
    let cells = a.cells.now in
    subst (λ (d : Action). StepIs c.set_length.result cells (done_by d lines a.line.operand.now (state_of a.place cells))) c.in-Length.ensures (c.set_length.ensures lines cells)

pub returns-in-Address : goal.returns-in-Address
returns-in-Address c =
    let a = c.args in
    let lines = lines_found a.text.now in
    let cells = a.cells.now in
    subst (λ (d : Action). StepIs c.set_address.result cells (done_by d lines a.line.operand.now (state_of a.place cells))) c.in-Address.ensures (c.set_address.ensures lines cells)
