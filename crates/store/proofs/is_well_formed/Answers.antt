-- Test by test. Assumes nothing.
use mathlib.Core.Path.{◌≡◌, ◌∙◌, sym, ap}
use mathlib.Core.List.{List}
use Prim.Native.Nat.{ℕ, ◌*◌, ◌≤◌}
use native.Mathlib.Omega.{arith}
use lib.ListN.{length}
use Rattle.upd546.specs.TwoRunners.{chip}
use Rattle.laws.proofs.Tails.{mid_tail}
use Rattle.store.specs.Entries.{chip_image, entry_length, entries_in, kept}
use Rattle.store.proofs.Entries.{kept_most, length-entries_in}
use Rattle.store.proofs.Answers.{odd_length, tail_used, name_twice, by_images}
use Rattle.std.proofs.lemmas.Grind.{common_steps}
use Rattle.store.proofs.is_well_formed.Goals as goal

-- the used entries are as many as the definition's
count : (store : List ℕ) (used : List (List ℕ)) → entries_in used ≡ kept chip_image store → length used ≡ length (kept chip_image store)
count store used e = sym (length-entries_in used) ∙ ap length e

-- and lie within the store
within : (store : List ℕ) (used : List (List ℕ)) → entries_in used ≡ kept chip_image store → entry_length chip_image * length used ≤ length store
within store used e = omega (arith, count store used e, kept_most chip_image store)

pub returns-then-store-ne0 : goal.returns-then-store-ne0
returns-then-store-ne0 c =
    let a = c.args in
    odd_length (chip a.sheet) a.store.now c.if-store-ne0.true

pub overflow_mul-used : goal.overflow_mul-used
overflow_mul-used c = omega (arith, within c.args.store.now c.args.used.now c.requires)

pub slice_bounds-all_below-count : goal.slice_bounds-all_below-count
slice_bounds-all_below-count c = omega (arith, within c.args.store.now c.args.used.now c.requires)

pub slice_bounds-all_below-start : goal.slice_bounds-all_below-start
slice_bounds-all_below-start c = omega (arith, within c.args.store.now c.args.used.now c.requires)

pub returns-then-not-all_below : goal.returns-then-not-all_below
returns-then-not-all_below c = grind (arith, common_steps, tail_used, mid_tail, count)

pub returns-then-not-names_differ : goal.returns-then-not-names_differ
returns-then-not-names_differ c = grind (arith, common_steps, name_twice, mid_tail, count)

pub returns : goal.returns
returns c = grind (arith, common_steps, by_images, mid_tail, count)
