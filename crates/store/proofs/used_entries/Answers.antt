-- Entry by entry, up to the first zero name. Assumes nothing.
use mathlib.Core.Path.{◌≡◌, ◌∙◌, refl, sym, ap}
use mathlib.Core.List.{List}
use Prim.Native.Nat.{ℕ, ◌/◌}
use native.Mathlib.Omega.{arith}
use lib.ListN.{length, take}
use lib.Seq.{take_all}
use Rattle.std.specs.Simd.{first_chunks}
use Rattle.store.specs.Entries.{chip_image, Entry, entries_of, used_of, entries_in, capacity, kept}
use Rattle.store.proofs.Entries.{from_none, used_end, used_next, used_take, entries_apart}
use Rattle.store.proofs.used_entries.Goals as goal

-- the first entries of a store, as many as are used
first_used : (store : List ℕ) (cs : List (List ℕ)) (n : ℕ) → entries_in cs ≡ entries_of chip_image (capacity chip_image store) store
    → n ≡ length (used_of (entries_in cs)) → entries_in (take n cs) ≡ kept chip_image store
unfolding kept
first_used store cs n e h = rw h (used_take cs) ∙ ap used_of e

-- the chunks are the entries
apart : (store : List ℕ) {cs : List (List ℕ)} → cs ≡ first_chunks 90 (length store / 90) store → entries_in cs ≡ entries_of chip_image (capacity chip_image store) store
apart store e = ap entries_in e ∙ entries_apart chip_image (capacity chip_image store) store

pub returns-then-is_unused : goal.returns-then-is_unused
returns-then-is_unused c =
    let none = used_end _ c.loop-i.i _ c.loop-i-test.true refl (sym c.is_unused.ensures ∙ c.if-is_unused.true) in
    first_used c.args.store.now _ c.loop-i.i (apart c.args.store.now c.as_chunks.ensures.front) (omega (arith, none, c.loop-i.invariant))

pub loop-i-preserved : goal.loop-i-preserved
loop-i-preserved c =
    let next = used_next _ c.loop-i.i _ c.loop-i-test.true refl (sym c.is_unused.ensures ∙ c.if-is_unused.false) in
    omega (arith, next, c.loop-i.invariant)

pub returns : goal.returns
returns c =
    let cs = c.as_chunks.result.0.now in
    let none = ap (λ (es : List Entry). length (used_of es)) (from_none cs c.loop-i.i (omega (arith, c.loop-i-test.false))) in
    let all : length cs ≡ length (used_of (entries_in cs)) = omega (arith, none, c.loop-i.invariant, c.loop-i.auto.i-end, c.loop-i-test.false) in
    ap entries_in (sym (take_all (length cs) cs (omega arith)))
    ∙ first_used c.args.store.now cs (length cs) (apart c.args.store.now c.as_chunks.ensures.front) all
