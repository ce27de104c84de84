-- A place, whose bytes are replaced, or none. Assumes nothing.
use mathlib.Core.Path.{◌∙◌, sym, ap}
use mathlib.Core.List.{List}
use Prim.Native.Nat.{ℕ, ◌<◌}
use native.Mathlib.Omega.{arith}
use Rattle.runs.proofs.Refusals.{refusal-some}
use Rattle.runs.proofs.Calls.{current_fit}
use Rattle.upd546.specs.TwoRunners.{chip}
use Rattle.store.specs.Entries.{chip_image, capacity, with_entry}
use Rattle.store.proofs.Answers.{store_fit, judged_fit, entry_within, stored_refused, stored_done}
use Rattle.std.proofs.lemmas.Grind.{common_steps}
use Rattle.store.proofs.keep.Goals as goal

pub put_entry-requires : goal.put_entry-requires
put_entry-requires c =
    let a = c.args in
    let f = c.in_ok-i.ensures in
    let fit = store_fit (chip a.sheet) a.store.now a.name.now a.image.now f.0 in
    let room : c.in_ok-i.i < capacity chip_image a.store.now = omega (arith, fit.room, f.1) in (
      entry_within chip_image a.store.now _ room,
      (judged_fit (chip a.sheet) a.store.now a.name.now fit.judged).eight,
      (current_fit (chip a.sheet) a.image.now fit.taken).long,
    )

pub returns-in_err-i : goal.returns-in_err-i
returns-in_err-i c = grind (arith, common_steps, stored_refused, refusal-some)

pub returns : goal.returns
returns c =
    let a = c.args in
    let f = c.in_ok-i.ensures in
    let entered = ap (λ (k : ℕ). with_entry chip_image k (record { name = a.name.now; image = a.image.now }) a.store.now) (sym f.1) in
    ap (λ (l : List ℕ). record { number = 0; store = l }) (c.put_entry.ensures ∙ entered)
    ∙ stored_done (chip a.sheet) a.store.now a.name.now a.image.now f.0
