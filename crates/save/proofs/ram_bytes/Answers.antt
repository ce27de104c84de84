-- After i turns the first i bytes hold their words. Assumes nothing.
use mathlib.Core.Path.{◌≡◌, ◌∙◌, sym}
use native.Mathlib.Omega.{arith}
use Rattle.upd546.specs.StateImage.{packed}
use Rattle.laws.proofs.Packing.{length-packed, packed_at, filled_next, filled_all}
use Rattle.save.proofs.ram_bytes.Goals as goal

pub loop-i-preserved : goal.loop-i-preserved
loop-i-preserved c =
    let valid = c.requires in
    let words = c.args.words in
    let i = c.loop-i.i in
    let long = length-packed 48 words valid.count in
    let now_is = sym (packed_at words i (omega (arith, valid.count, c.loop-i-test.true))) in
    filled_next _ (packed words) i c.loop-i.invariant now_is (omega arith) (omega (arith, long))

pub returns : goal.returns
returns c =
    let valid = c.requires in
    let words = c.args.words in
    let long = length-packed 48 words valid.count in
    let all : c.loop-i.i ≡ 48 = omega arith in
    c.loop-i.invariant ∙ filled_all _ (packed words) c.loop-i.i (omega arith) (omega (arith, long))
