-- What is judged, and then the place among the used entries. Assumes nothing.
use mathlib.Core.Path.{◌≡◌, ◌∙◌, sym, ap}
use native.Mathlib.Omega.{arith}
use lib.ListN.{length}
use Rattle.runs.proofs.Refusals.{refusal-some}
use Rattle.upd546.specs.TwoRunners.{chip}
use Rattle.store.specs.Entries.{place_of}
use Rattle.store.specs.Answers.{place_in, judged_number}
use Rattle.store.proofs.Entries.{length-entries_in}
use Rattle.store.proofs.Answers.{recall_judged, recall_unknown, recall_known, judged_fit}
use Rattle.std.proofs.lemmas.Grind.{common_steps}
use Rattle.store.proofs.find.Goals as goal
use Rattle.store.proofs.find.Goals.{Else-i-used, In_ok-check, Then-i-used}

judged : (c : In_ok-check) → judged_number (chip c.args.sheet) c.args.store.now c.args.name.now ≡ 0
judged c = sym c.in_ok-check.ensures

judged-2 : (c : Then-i-used) → judged_number (chip c.args.sheet) c.args.store.now c.args.name.now ≡ 0
judged-2 c = sym c.in_ok-check.ensures

judged-3 : (c : Else-i-used) → judged_number (chip c.args.sheet) c.args.store.now c.args.name.now ≡ 0
judged-3 c = sym c.in_ok-check.ensures

-- what is found there
place : (c : Then-i-used)
    → c.place_among-i.result ≡ place_in (chip c.args.sheet) c.args.store.now c.args.name.now
place c =
    let a = c.args in
    c.place_among-i.ensures ∙ ap (place_of a.name.now) c.used_entries-used.ensures

-- what is found there
place-2 : (c : Else-i-used)
    → c.place_among-i.result ≡ place_in (chip c.args.sheet) c.args.store.now c.args.name.now
place-2 c =
    let a = c.args in
    c.place_among-i.ensures ∙ ap (place_of a.name.now) c.used_entries-used.ensures

pub returns-in_err-check : goal.returns-in_err-check
returns-in_err-check c = grind (arith, common_steps, recall_judged, refusal-some)

pub place_among-i-requires : goal.place_among-i-requires
place_among-i-requires c =
    let a = c.args in
    (judged_fit (chip a.sheet) a.store.now a.name.now (judged c)).eight

pub returns-then-i-used : goal.returns-then-i-used
returns-then-i-used c =
    let a = c.args in
    recall_unknown (chip a.sheet) a.store.now a.name.now (judged-2 c)
    (sym (place c) ∙ c.if-i-used.true ∙ sym (length-entries_in c.used_entries-used.result.now) ∙ ap length c.used_entries-used.ensures)

pub returns : goal.returns
returns c =
    let a = c.args in (
      recall_known (chip a.sheet) a.store.now a.name.now (judged-3 c)
          (λ e. c.if-i-used.false (place-2 c ∙ e ∙ sym (ap length c.used_entries-used.ensures) ∙ length-entries_in c.used_entries-used.result.now)),
      sym (place-2 c),
    )
