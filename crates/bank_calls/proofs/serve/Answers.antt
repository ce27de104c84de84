-- Entry by entry: what the first i left, and what the others will leave. Assumes nothing.
use mathlib.Core.Path.{◌≡◌, ◌∙◌, refl, sym, subst}
use Prim.Native.Nat.{◌+◌, ◌-◌, ◌*◌, ◌≤◌}
use native.Mathlib.Omega.{arith}
use lib.ListN.{length}
use borrow.Rule.Slice.PartMut.{put_mid, same_len_mid}
use Rattle.upd546.specs.TwoRunners.{chip}
use Rattle.upd546.specs.Bytes.{part}
use Rattle.laws.proofs.Parts.{length_part}
use Rattle.panels.specs.declared.Course.{Course}
use Rattle.bank_calls.specs.Entries.{entry_length, entry_needs}
use Rattle.bank_calls.specs.InTurn.{Within}
use Rattle.bank_calls.proofs.Turning.{left, left_first, left_last, left_next}
use Rattle.bank_calls.proofs.Lots.{within_on}
use Rattle.bank_calls.proofs.serve.Goals as goal

pub loop-i-init : goal.loop-i-init
loop-i-init c =
    let a = c.args in
    (omega arith, c.requires.0, refl, refl, c.requires.1, left_first chip a.sheet a.roms.now a.schedules.now a.bank.now a.logs.now a.planned a.planned.count)

pub serve_one-course-requires : goal.serve_one-course-requires
serve_one-course-requires c =
    let l = c.loop-i in
    let at = entry_length * l.i in
    let all : at + entry_length - at ≡ entry_length = omega arith in
    (rw all (length_part l.bank at entry_length (omega (arith, c.loop-i-test.true, l.invariant.1, l.invariant.2))), l.invariant.4)

pub loop-i-preserved : goal.loop-i-preserved
loop-i-preserved c =
    let more = c.loop-i-test.true in
    let a = c.args in
    let l = c.loop-i in
    let call = c.serve_one-course in
    let at = entry_length * l.i in
    let all : at + entry_length - at ≡ entry_length = omega arith in
    let own = part l.bank at entry_length in
    let fits : at + entry_length ≤ length l.bank = omega (arith, more, l.invariant.1, l.invariant.2) in
    let long : length call.new.entry ≡ entry_length = rw all at call.auto.entry ∙ length_part l.bank at entry_length fits in
    let same_logs : length call.new.logs ≡ length l.logs = call.auto.logs in
    let logs_left = rw all at call.ensures.logs_after in
    let onward = rw all at call.ensures.value in (
      omega (arith, more),
      l.invariant.1,
      same_len_mid at (at + entry_length - at) l.bank call.new.entry call.auto.entry ∙ l.invariant.2,
      same_logs ∙ l.invariant.3,
      subst (λ (z : Course). Within z a.roms.now a.schedules.now call.new.logs) (sym onward)
          (within_on a.roms.now a.schedules.now l.logs l.course l.invariant.4 (entry_needs own) same_logs),
      (λ j. left chip a.sheet a.roms.now a.schedules.now (put_mid at (all j) l.bank call.new.entry) (logs_left j) (onward j) (l.i + 1) a.planned.count)
          ∙ left_next chip a.sheet a.roms.now a.schedules.now l.bank l.logs l.course l.i a.planned.count more fits call.new.entry
          (rw all at call.ensures.after) long refl
          ∙ l.invariant.5,
    )

pub returns : goal.returns
returns c =
    let l = c.loop-i in
    let a = c.args in
    left_last chip a.sheet a.roms.now a.schedules.now l.bank l.logs l.course l.i a.planned.count c.loop-i-test.false
    (omega (arith, c.loop-i-test.false, l.invariant.1, l.invariant.2))
    ∙ l.invariant.5
