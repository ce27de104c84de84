-- The digits passed are the value; the rest is still to be read. Assumes nothing.
use Rattle.std.proofs.Common.{◌≡◌, ◌%◌, true, get_or, arith, sym, ◌∙◌}
use Rattle.load_line.specs.Commands.{is_read}
use Rattle.load_line.proofs.Commands.{one_digit, no_digit, line_done, one_of_18, digits_below, digits_fit}
use Rattle.load_line.proofs.read_number.Goals as goal

pub overflow_mul-value : goal.overflow_mul-value
overflow_mul-value c = let l = c.loop-b in omega (arith, digits_fit l.digits l.value l.invariant.small (one_of_18 _ _ (sym c.if-not-is_read.ensures)))

pub overflow_add-value : goal.overflow_add-value
overflow_add-value c = let l = c.loop-b in omega (arith, digits_fit l.digits l.value l.invariant.small (one_of_18 _ _ (sym c.if-not-is_read.ensures)))

pub loop-b-preserved : goal.loop-b-preserved
loop-b-preserved c =
    let l = c.loop-b in
    let rest = c.unwrap_or-rest.result.now in
    let read : is_read l.digits (get_or rest l.b-index 0) ≡ true = sym c.if-not-is_read.ensures in
    record {
      few = omega (arith, one_of_18 _ _ read);
      small = digits_below l.digits l.value (get_or rest l.b-index 0 % 16) l.invariant.small (omega arith);
      read = one_digit rest l.value l.digits l.b-index (omega arith) read ∙ l.invariant.read;
    }

pub returns-after-loop-b : goal.returns-after-loop-b
returns-after-loop-b c =
    let l = c.loop-b in
    (line_done c.unwrap_or-rest.result.now l.value l.digits l.b-index (omega arith) ∙ l.invariant.read, omega arith)

pub returns-then-not-is_read : goal.returns-then-not-is_read
returns-then-not-is_read c =
    let l = c.loop-b in
    (no_digit c.unwrap_or-rest.result.now l.value l.digits l.b-index (omega arith) (sym c.is_read.ensures ∙ c.if-not-is_read.true) ∙ l.invariant.read, omega arith)
