-- Two slices, by the contract of one and the theorem about lists. Assumes nothing.
use native.Mathlib.Omega.{arith}
use Rattle.runs.specs.Laws.{Bytes}
use Rattle.witness.proofs.Day.{one_run}
use Rattle.witness.proofs.two_slices.Goals as goal

pub returns : goal.returns
returns c =
    let a = c.args in
    let rom_bytes : Bytes a.rom.now = λ i. omega (arith, c.type_inv.rom i) in
    let sched_bytes : Bytes a.sched.now = λ i. omega (arith, c.type_inv.sched i) in
    record {
      between = _;
      first = c.one_slice-first.ensures;
      second = c.one_slice-second.ensures;
      one_run = one_run a.sheet a.rom.now a.sched.now rom_bytes sched_bytes a.s a.log.now _ _ a.n.0 a.m.0
          c.one_slice-first.result c.one_slice-second.result c.one_slice-first.ensures c.one_slice-second.ensures;
    }
