-- The board's call on the image of the entry, and what it tells. Assumes nothing.
use mathlib.Core.Path.{ap, sym}
use native.Mathlib.Omega.{arith}
use lib.Seq.{length-take-le}
use Rattle.upd546.specs.TwoRunners.{chip}
use Rattle.calls.specs.Call.{BoardAnswer}
use Rattle.bank_calls.specs.Entries.{image_bytes, own_answer}
use Rattle.bank_calls.proofs.Told.{turn_done}
use Rattle.bank_calls.proofs.turn.Goals as goal

pub slice_bounds-wharfnettle_call-end-2 : goal.slice_bounds-wharfnettle_call-end-2
slice_bounds-wharfnettle_call-end-2 c = sym (length-take-le image_bytes c.args.entry.now (omega (arith, c.requires)))

pub returns-clause-after : goal.returns-clause-after
returns-clause-after c =
    let a = c.args in
    let call = c.wharfnettle_call-number in
    (turn_done chip a.sheet a.entry.now a.rom.now a.schedule.now a.log.now a.n
    (record { number = call.result; image = call.new.image; log = call.new.log; report = call.new.report })
    call.ensures (omega (arith, call.auto.image, length-take-le image_bytes a.entry.now (omega (arith, c.requires)))) c.put_told.ensures).0

pub returns-clause-log_after : goal.returns-clause-log_after
unfolding own_answer
returns-clause-log_after c = ap (λ (z : BoardAnswer). z.log) c.wharfnettle_call-number.ensures
