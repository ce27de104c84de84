-- The part behind the name of the entry found, or an empty one. Assumes nothing.
use mathlib.Core.Path.{◌≡◌, ◌∙◌, sym, ap}
use Prim.Native.Nat.{ℕ, ◌+◌, ◌-◌, ◌*◌, ◌≤◌}
use native.Mathlib.Omega.{arith}
use lib.ListN.{length}
use Rattle.runs.proofs.Refusals.{refusal-some}
use Rattle.upd546.specs.Bytes.{part}
use Rattle.upd546.specs.TwoRunners.{chip}
use Rattle.store.specs.Entries.{chip_image, entry_length, image_at}
use Rattle.store.specs.Answers.{recall_answer}
use Rattle.store.proofs.Entries.{kept_most}
use Rattle.store.proofs.Answers.{recall_place, entry_within, recalled-refused, recalled-done, recalled-length}
use Rattle.std.proofs.lemmas.Grind.{common_steps}
use Rattle.store.proofs.recall.Goals as goal
use Rattle.store.proofs.recall.Goals.{In-Ok}

within : (c : In-Ok) → entry_length chip_image * c.in-Ok.i + entry_length chip_image ≤ length c.args.store.now
within c =
    let a = c.args in
    let f = c.in-Ok.ensures in
    entry_within chip_image a.store.now c.in-Ok.i
    (omega (arith, f.1, recall_place (chip a.sheet) a.store.now a.name.now f.0, kept_most chip_image a.store.now))

pub returns-in_default : goal.returns-in_default
returns-in_default c = grind (arith, common_steps, recalled-refused, refusal-some)

pub overflow_mul-from : goal.overflow_mul-from
overflow_mul-from c = omega (arith, within c)

pub overflow_add-from : goal.overflow_add-from
overflow_add-from c = omega (arith, within c)

pub overflow_add-result : goal.overflow_add-result
overflow_add-result c = omega (arith, within c)

pub slice_bounds-result-end-2 : goal.slice_bounds-result-end-2
slice_bounds-result-end-2 c = omega (arith, within c)

pub returns : goal.returns
returns c =
    let a = c.args in
    let store = a.store.now in
    let i = c.in-Ok.i in
    let f = c.in-Ok.ensures in
    let all : image_at chip_image i + chip_image - image_at chip_image i ≡ chip_image = omega arith in
    let same : part store (image_at chip_image i) (image_at chip_image i + chip_image - image_at chip_image i) ≡ (recall_answer (chip a.sheet) store a.name.now).part
    = rw all (ap (λ (k : ℕ). part store (image_at chip_image k) chip_image) (sym f.1) ∙ recalled-done (chip a.sheet) store a.name.now f.0) in
    let whole = recalled-length (chip a.sheet) store a.name.now f.0 in
    record {
      same = same;
      empty = ((λ x. absurd (omega (arith, whole, ap length (sym same ∙ x)))), (λ h. absurd (h f.0)));
      place = λ e. ap (λ (o : ℕ). (a.store.ref_ptr.0, o)) (omega (arith, f.1));
    }
