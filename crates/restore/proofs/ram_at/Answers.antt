-- After i turns the first 2i words are those of the first i bytes. Assumes nothing.
use mathlib.Core.Path.{◌≡◌, ◌∙◌, sym, ap}
use Prim.Native.Nat.{ℕ, ◌+◌, ◌*◌, ◌/◌, ◌%◌}
use native.Mathlib.Omega.{arith}
use Rattle.upd546.specs.Bytes.{part}
use Rattle.upd546.specs.StateImage.{unpacked}
use Rattle.laws.proofs.Parts.{length_part, part_at}
use Rattle.laws.proofs.Packing.{length-unpacked, unpacked-even, unpacked-odd, filled, filled_next, filled_all}
use Rattle.restore.proofs.ram_at.Goals as goal

pub loop-i-preserved : goal.loop-i-preserved
loop-i-preserved c =
    let bytes = c.args.bytes.now in
    let i = c.loop-i.i in
    let p = part bytes 27 48 in
    let long = length_part bytes 27 48 (omega (arith, c.requires)) in
    let words_long = length-unpacked p in
    let here = part_at bytes 27 48 i c.loop-i-test.true in
    let even = ap (λ (b : ℕ). b / 16) (sym here) ∙ sym (unpacked-even p i (omega (arith, long, c.loop-i-test.true))) in
    let odd = ap (λ (b : ℕ). b % 16) (sym here) ∙ sym (unpacked-odd p i (omega (arith, long, c.loop-i-test.true))) in
    let first = filled_next _ (unpacked p) (2 * i) c.loop-i.invariant even (omega arith) (omega (arith, words_long, long)) in
    let both = filled_next _ (unpacked p) (2 * i + 1) first odd (omega arith) (omega (arith, words_long, long)) in
    let up : 2 * i + 1 + 1 ≡ 2 * (i + 1) = omega arith in
    both ∙ ap (filled _ (unpacked p)) up

pub returns : goal.returns
returns c =
    let bytes = c.args.bytes.now in
    let p = part bytes 27 48 in
    let long = length_part bytes 27 48 (omega (arith, c.requires)) in
    let all : c.loop-i.i ≡ 48 = omega arith in
    c.loop-i.invariant ∙ filled_all _ (unpacked p) (2 * c.loop-i.i) (omega arith) (omega (arith, length-unpacked p, long))
