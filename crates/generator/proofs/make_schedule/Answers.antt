-- So many records are written, and the generator and the last cycle are those behind them. Assumes nothing.
use Prim.Native.Nat.{◌*◌, ◌≤◌}
use native.Mathlib.Omega.{arith}
use lib.ListN.{length, length-drop}
use Rattle.std.proofs.lemmas.Result.{err_from_is_err_and}
use Rattle.upd546.specs.TheLineSchedule.{record_length, max_records}
use Rattle.laws.proofs.Tails.{mid_tail}
use Rattle.generator.proofs.Loads.{cycle_most, stands_first, stands_next, cycle_next, no_records, one_record, fits, schedule_refused, schedule_done}
use Rattle.generator.proofs.make_schedule.Goals as goal
use Rattle.generator.proofs.make_schedule.Goals.{In-loop-i}

small : (c : In-loop-i) → (c.args.m ≤ max_records) × (record_length * c.args.m ≤ length c.args.buffer.now)
small c = fits _ _ c.in_ok-schedule_refusal.ensures

pub returns-in_err-schedule_refusal : goal.returns-in_err-schedule_refusal
returns-in_err-schedule_refusal c =
    let p = err_from_is_err_and c.from_residual.result c.from_residual.ensures.1 in
    rw (p.1, p.2) (schedule_refused _ _ _ _ c.in_err-schedule_refusal.ensures)

pub loop-i-init : goal.loop-i-init
loop-i-init c = let first = stands_first c.args.seed in record { behind = first.0; last = first.1; written = no_records _ _ }

pub overflow_mul-at : goal.overflow_mul-at
overflow_mul-at c = omega (arith, small c)

pub slice_bounds-draw_record-count : goal.slice_bounds-draw_record-count
slice_bounds-draw_record-count c = omega (arith, small c)

pub slice_bounds-draw_record-start : goal.slice_bounds-draw_record-start
slice_bounds-draw_record-start c = omega (arith, small c)

pub draw_record-stand-requires : goal.draw_record-stand-requires
draw_record-stand-requires c =
    let l = c.loop-i in
    let a = c.args in
    let few = fits _ _ c.in_ok-schedule_refusal.ensures in
    (rw (mid_tail (record_length * l.i) l.buffer, length-drop) (omega (arith, few)), omega (arith, few, cycle_most a.seed l.i))

pub loop-i-preserved : goal.loop-i-preserved
loop-i-preserved c =
    let drew = c.draw_record-stand.ensures in
    let l = c.loop-i in
    let a = c.args in
    record {
      behind = stands_next a.seed l.i l.invariant.behind drew.1;
      last = cycle_next a.seed l.i l.invariant.last l.invariant.behind drew.2;
      written = one_record a.seed l.i a.buffer.now l.buffer l.invariant.written l.invariant.last l.invariant.behind drew.0;
    }

pub returns : goal.returns
returns c =
    let a = c.args in
    schedule_done a.seed a.m c.loop-i.i a.buffer.now c.in_ok-schedule_refusal.ensures (omega arith) c.loop-i.invariant.written
