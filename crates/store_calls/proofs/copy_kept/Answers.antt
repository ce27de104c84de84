-- No place, a buffer that is too short, and the image behind the name of the entry found. Assumes nothing.
use mathlib.Core.Path.{◌≡◌, ◌∙◌, sym, ap}
use mathlib.Core.List.{List}
use Prim.Native.Nat.{ℕ, ◌+◌, ◌-◌, ◌*◌, ◌≤◌}
use native.Mathlib.Omega.{arith}
use lib.ListN.{length, take, drop, length-take}
use Rattle.runs.proofs.Refusals.{refusal-some}
use Rattle.upd546.specs.declared.Sheet.{Sheet}
use Rattle.upd546.specs.Bytes.{part}
use Rattle.upd546.specs.TwoRunners.{chip}
use Rattle.store.specs.Entries.{chip_image, entry_length, image_at}
use Rattle.store.specs.Answers.{place_in, recall_number, recall_answer}
use Rattle.store.proofs.Entries.{kept_most}
use Rattle.store.proofs.Answers.{recall_place, entry_within, recalled-done}
use Rattle.store_calls.proofs.Copy.{copy_refused, copy_short, copy_done}
use Rattle.std.proofs.lemmas.Grind.{common_steps}
use Rattle.store_calls.proofs.copy_kept.Goals as goal
use Rattle.store_calls.proofs.copy_kept.Goals.{Else-image-lt-IMAGE_LENGTH}

-- the entry found lies within the store
within : (c : Else-image-lt-IMAGE_LENGTH) → entry_length chip_image * c.in_ok-i.i + entry_length chip_image ≤ length c.args.store.now
within c =
    let store = c.args.store.now in
    let f = c.in_ok-i.ensures in
    entry_within chip_image store c.in_ok-i.i (omega (arith, f.1, recall_place _ store c.args.name.now f.0, kept_most chip_image store))

-- the image found is the one that a recall hands back
same_part : (sheet : Sheet) (store name : List ℕ) (i : ℕ) → recall_number (chip sheet) store name ≡ 0 → place_in (chip sheet) store name ≡ i
    → part store (image_at chip_image i) (image_at chip_image i + chip_image - image_at chip_image i) ≡ (recall_answer (chip sheet) store name).part
same_part sheet store name i e f =
    let all : image_at chip_image i + chip_image - image_at chip_image i ≡ chip_image = omega arith in
    rw all (ap (λ (k : ℕ). part store (image_at chip_image k) chip_image) (sym f) ∙ recalled-done (chip sheet) store name e)

-- a part is no longer than it says
short_part : (xs : List ℕ) (n a m : ℕ) → n ≤ m → length (take (a + n - a) (drop a xs)) ≤ m
short_part xs n a m g = omega (arith, length-take (a + n - a) (drop a xs))

pub returns-in_err-i : goal.returns-in_err-i
returns-in_err-i c = grind (arith, common_steps, copy_refused, refusal-some)

pub returns-then-image-lt-IMAGE_LENGTH : goal.returns-then-image-lt-IMAGE_LENGTH
returns-then-image-lt-IMAGE_LENGTH c =
    copy_short _ c.args.store.now c.args.name.now c.args.image.now c.in_ok-i.ensures.0 c.if-image-lt-IMAGE_LENGTH.true

pub overflow_mul-at : goal.overflow_mul-at
overflow_mul-at c = omega (arith, within c)

pub overflow_add-at : goal.overflow_add-at
overflow_add-at c = omega (arith, within c)

pub overflow_add-at-2 : goal.overflow_add-at-2
overflow_add-at-2 c = omega (arith, within c)

pub slice_bounds-copy-end : goal.slice_bounds-copy-end
slice_bounds-copy-end c = omega (arith, within c)

pub copy-requires : goal.copy-requires
copy-requires c = short_part c.args.store.now chip_image (image_at chip_image c.in_ok-i.i) _ c.if-image-lt-IMAGE_LENGTH.false

pub returns : goal.returns
returns c =
    let store = c.args.store.now in
    let name = c.args.name.now in
    let f = c.in_ok-i.ensures in
    copy_done _ store name c.args.image.now f.0 c.if-image-lt-IMAGE_LENGTH.false _
    (same_part _ store name c.in_ok-i.i f.0 f.1)
    c.copy.ensures
