-- The digits passed are the value; the rest is still to be read. Assumes nothing.
use Rattle.std.proofs.Common.{◌≡◌, ◌≤◌, ◌+◌, ◌*◌, ◌^◌, drop}
use Rattle.load_line.specs.Commands.{most_digits, numeral_from, numeral_at}
use Rattle.load_line.proofs.read_number.Given as goal

abbrev pub invariant-loop-b : goal.invariant-loop-b
invariant-loop-b l = record {
  few : l.digits ≤ most_digits;
  small : l.value + 2 ≤ 2 * 10 ^ l.digits;
  read : numeral_from l.value l.digits (drop l.b-index l.rest) ≡ numeral_at l.line l.at;
}
