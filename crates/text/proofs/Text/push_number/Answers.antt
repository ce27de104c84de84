-- What `io::decimal` writes is the decimal text. Assumes nothing.
use Rattle.text.proofs.Writing.{told, then}
use Rattle.text.proofs.Digits.{decimal-same, decimal-short}
use Rattle.std.proofs.Common.{arith}
use Rattle.std.proofs.lemmas.Grind.{common_steps}
use Rattle.text.proofs.Text.push_number.Goals as goal

pub returns : goal.returns
returns c = grind (arith, common_steps, decimal-short, decimal-same, told, then)
