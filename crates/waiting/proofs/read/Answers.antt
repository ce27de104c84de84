-- `read` reads record by record: the loop has passed so many records, and c is what is carried after them. No figure overflows, since
-- what was carried in is at most 2^60. Assumes nothing.
use mathlib.Core.Path.{◌≡◌, ◌∙◌, sym}
use Prim.Native.Nat.{◌*◌, ◌/◌, ◌<◌}
use native.Mathlib.Omega.{arith}
use lib.ListN.{length, drop}
use Rattle.waiting.specs.WaitingTimes.{record_here}
use Rattle.waiting.proofs.Growth.{accepted, can_read}
use Rattle.waiting.proofs.Records.{record_of_chunk}
use Rattle.waiting.proofs.Progress.{torn, not_carried, none_read, next_read, refused_here, all_read}
use Rattle.std.proofs.lemmas.Result.{err_from_is_err_and}
use borrow.Author.Tests.{eqb-true, eq-eqb}
use Rattle.waiting.proofs.read.Goals as goal
use Rattle.waiting.proofs.read.Goals.{After-from}

pub returns-then-not-is_empty : goal.returns-then-not-is_empty
returns-then-not-is_empty c =
    torn _ _ (λ z.
    let none : length c.as_chunks.result.1.now ≡ 0 = omega (arith, c.as_chunks.ensures.back_len) in
    cc (eq-eqb _ _ none, c.is_empty.ensures, c.if-not-is_empty.true))

pub returns-then-not-is_sound : goal.returns-then-not-is_sound
returns-then-not-is_sound c =
    let none = eqb-true (length c.as_chunks.result.1.now) 0 (sym c.is_empty.ensures ∙ c.if-not-is_empty.false) in
    not_carried _ _ (omega (arith, none, c.as_chunks.ensures.back_len)) (sym c.is_sound.ensures ∙ c.if-not-is_sound.true)

pub loop-bytes-init : goal.loop-bytes-init
loop-bytes-init c =
    let none = eqb-true (length c.as_chunks.result.1.now) 0 (sym c.is_empty.ensures ∙ c.if-not-is_empty.false) in
    none_read _ _ (omega (arith, none, c.as_chunks.ensures.back_len)) (sym c.is_sound.ensures ∙ c.if-not-is_sound.false)

pub read-requires : goal.read-requires
read-requires c = λ e.
    let turn = c.loop-bytes in
    can_read turn.bytes-index _ turn.c turn.invariant.grown (accepted _ _ e).later c.from.ensures.1 (omega arith)

-- where the loop stands there is a record of the log, and it is the one that was read
there : (c : After-from) → c.loop-bytes.bytes-index < length c.args.log.now / 8
there c = omega (arith, c.as_chunks.ensures.front_len)

here : (c : After-from) → c.from.result ≡ record_here (drop (8 * c.loop-bytes.bytes-index) c.args.log.now)
here c = record_of_chunk c.args.log.now c.loop-bytes.bytes-index c.as_chunks.ensures.front (there c) c.from.ensures.0

pub returns-in_err-c : goal.returns-in_err-c
returns-in_err-c c =
    let turn = c.loop-bytes in
    let of = (goal.at.returns-in_err-c c).After-from in
    let p = err_from_is_err_and c.from_residual.result c.from_residual.ensures.1 in
    rw (p.1, p.2, c.in_err-c.ensures.1) (refused_here _ _ turn.bytes-index turn.c turn.invariant c.from.result (here of) (there of) c.in_err-c.ensures.0)

pub loop-bytes-preserved : goal.loop-bytes-preserved
loop-bytes-preserved c =
    let turn = c.loop-bytes in
    let of = (goal.at.loop-bytes-preserved c).After-from in
    next_read _ _ turn.bytes-index turn.c turn.invariant c.from.result (here of) (there of) c.in_ok-c.ensures.0 c.in_ok-c.ensures.1

pub returns : goal.returns
returns c =
    let turn = c.loop-bytes in
    all_read _ _ turn.bytes-index turn.c turn.invariant (omega (arith, c.as_chunks.ensures.front_len))
