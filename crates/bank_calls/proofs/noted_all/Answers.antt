-- Entry by entry. Assumes nothing.
use mathlib.Core.Path.{◌≡◌, ◌∙◌, sym, ap}
use Prim.Native.Nat.{◌+◌, ◌-◌, ◌*◌}
use native.Mathlib.Omega.{arith}
use Rattle.panels.specs.declared.Course.{Course}
use Rattle.panels.specs.Courses.{note_of, note_all}
use Rattle.bank_calls.specs.Entries.{entry_length, needs_in}
use Rattle.bank_calls.proofs.Span.{span}
use Rattle.bank_calls.proofs.Turning.{note_next, note_end}
use Rattle.bank_calls.proofs.noted_all.Goals as goal

pub loop-i-preserved : goal.loop-i-preserved
loop-i-preserved c =
    let more = c.loop-i-test.true in
    let a = c.args in
    let l = c.loop-i in
    let at = entry_length * l.i in
    let all : at + entry_length - at ≡ entry_length = omega arith in
    let seen = c.noted-course.ensures ∙ ap (note_of l.course) (rw all at c.needs_of-needs.ensures) in (
      omega (arith, more),
      ap (λ (z : Course). note_all z (needs_in (span a.bank.now (l.i + 1) a.begun.count))) seen
          ∙ note_next a.bank.now l.i a.begun.count l.course more
          ∙ l.invariant.1,
      l.invariant.2,
    )

pub returns : goal.returns
returns c =
    let a = c.args in
    let l = c.loop-i in
    sym (note_end a.bank.now l.i a.begun.count l.course c.loop-i-test.false) ∙ l.invariant.1
