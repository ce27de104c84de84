-- One turn sets one entry more. Assumes nothing.
use Rattle.std.proofs.Common.{◌≡◌, ◌+◌, ◌<◌, ℕ, arith, length, slice_index, rules, ◌∙◌, replicate}
use Rattle.std.proofs.lemmas.List.{length-replicate}
use Rattle.test_stream.proofs.Filling.{filled_more}
use Rattle.test_stream.proofs.Reading.{behind_any}
use Rattle.test_stream.proofs.numbers.part.Goals as goal

pub loop-i-preserved : goal.loop-i-preserved
loop-i-preserved g c =
    let l = c.loop-i in
    let bytes = c.args.bytes.now in
    let zeros = replicate {A = ℕ} g.row.N 0 in
    let inside : l.i < length zeros = search (rules, length-replicate {0} {A = ℕ} g.row.N 0) in
    let read : c.byte.result ≡ slice_index bytes (c.args.at + l.i) = rw c.min.ensures at c.byte.ensures ∙ behind_any bytes c.args.at l.i in
    record {
      within = omega arith;
      filled = rw l.invariant.filled (filled_more (λ i. slice_index bytes (c.args.at + i)) zeros l.i c.byte.result inside read);
    }
