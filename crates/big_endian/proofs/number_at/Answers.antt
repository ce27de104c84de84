-- Byte by byte. Assumes nothing.
use Prim.Native.Nat.{◌+◌}
use lib.ListN.{get_or}
use native.Mathlib.Omega.{arith}
use Rattle.big_endian.proofs.Numbers.{number_next, number_below, number_fits}
use Rattle.big_endian.proofs.number_at.Goals as goal

pub overflow_mul-number : goal.overflow_mul-number
overflow_mul-number c =
    let l = c.loop-i in
    omega (arith, number_fits l.i l.number l.invariant.1 (omega (arith, c.loop-i-test.true, c.requires.1)))

pub overflow_add-number-in-loop-i : goal.overflow_add-number-in-loop-i
overflow_add-number-in-loop-i c =
    let l = c.loop-i in
    omega
    (arith, number_fits l.i l.number l.invariant.1 (omega (arith, c.loop-i-test.true, c.requires.1)), c.type_inv.bytes (c.args.at + l.i))

pub loop-i-preserved : goal.loop-i-preserved
loop-i-preserved c =
    let a = c.args in
    let l = c.loop-i in (
      number_next a.bytes.now a.at l.i l.invariant.0 (omega (arith, c.loop-i-test.true, c.requires.0)),
      number_below l.i l.number (get_or a.bytes.now (a.at + l.i) 0) l.invariant.1 (omega (arith, c.type_inv.bytes (a.at + l.i))),
    )
