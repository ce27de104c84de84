-- What is judged, then the image, and then the place among all entries. Assumes nothing.
use mathlib.Core.Path.{◌≡◌, ◌∙◌, sym, ap}
use mathlib.Core.Bool.{true}
use native.Mathlib.Omega.{arith}
use Rattle.runs.proofs.Refusals.{refusal-some}
use Rattle.upd546.specs.TwoRunners.{chip}
use Rattle.store.specs.Entries.{place_of, accepted}
use Rattle.store.specs.Answers.{place_in, judged_number}
use Rattle.store.proofs.Answers.{store_judged, store_image, store_full, store_room, judged_fit}
use Rattle.std.proofs.lemmas.Grind.{common_steps}
use Rattle.store.proofs.find_room.Goals as goal
use Rattle.store.proofs.find_room.Goals.{Else-not-is_accepted, Else-room-store, Then-not-is_accepted, Then-room-store}

judged : (c : Then-not-is_accepted) → judged_number (chip c.args.sheet) c.args.store.now c.args.name.now ≡ 0
judged c = sym c.in_ok-check.ensures

judged-2 : (c : Else-not-is_accepted) → judged_number (chip c.args.sheet) c.args.store.now c.args.name.now ≡ 0
judged-2 c = sym c.in_ok-check.ensures

judged-3 : (c : Then-room-store) → judged_number (chip c.args.sheet) c.args.store.now c.args.name.now ≡ 0
judged-3 c = sym c.in_ok-check.ensures

judged-4 : (c : Else-room-store) → judged_number (chip c.args.sheet) c.args.store.now c.args.name.now ≡ 0
judged-4 c = sym c.in_ok-check.ensures

taken : (c : Then-room-store) → accepted (chip c.args.sheet) c.args.image.now ≡ true
taken c = sym c.is_accepted.ensures ∙ c.if-not-is_accepted.false

taken-2 : (c : Else-room-store) → accepted (chip c.args.sheet) c.args.image.now ≡ true
taken-2 c = sym c.is_accepted.ensures ∙ c.if-not-is_accepted.false

-- what is found there
place : (c : Then-room-store)
    → c.place_among-room.result
    ≡ place_in (chip c.args.sheet) c.args.store.now c.args.name.now
place c =
    let a = c.args in
    c.place_among-room.ensures ∙ ap (place_of a.name.now) c.used_entries-used.ensures

-- what is found there
place-2 : (c : Else-room-store)
    → c.place_among-room.result
    ≡ place_in (chip c.args.sheet) c.args.store.now c.args.name.now
place-2 c =
    let a = c.args in
    c.place_among-room.ensures ∙ ap (place_of a.name.now) c.used_entries-used.ensures

pub returns-in_err-check : goal.returns-in_err-check
returns-in_err-check c = grind (arith, common_steps, store_judged, refusal-some)

pub returns-then-not-is_accepted : goal.returns-then-not-is_accepted
returns-then-not-is_accepted c =
    let a = c.args in
    store_image (chip a.sheet) a.store.now a.name.now a.image.now (judged c)
    (sym c.is_accepted.ensures ∙ c.if-not-is_accepted.true)

pub place_among-room-requires : goal.place_among-room-requires
place_among-room-requires c =
    let a = c.args in
    (judged_fit (chip a.sheet) a.store.now a.name.now (judged-2 c)).eight

pub returns-then-room-store : goal.returns-then-room-store
returns-then-room-store c =
    let a = c.args in
    store_full (chip a.sheet) a.store.now a.name.now a.image.now (judged-3 c) (taken c)
    (sym (place c) ∙ c.if-room-store.true)

pub returns : goal.returns
returns c =
    let a = c.args in (
      store_room (chip a.sheet) a.store.now a.name.now a.image.now (judged-4 c) (taken-2 c)
          (λ e. c.if-room-store.false (place-2 c ∙ e)),
      sym (place-2 c),
    )
