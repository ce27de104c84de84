-- What was kept of the text is written. Assumes nothing.
use mathlib.Core.Path.{◌∙◌, sym, subst}
use mathlib.Core.List.{List}
use Prim.Native.Nat.{ℕ, ◌≤◌}
use lib.ListN.{length}
use Rattle.std.specs.Option.{IfSome}
use Rattle.std.specs.Fmt.Cut.{IsTextOrCut}
use Rattle.streams.specs.Streams.{short_most}
use Rattle.streams.proofs.Output.write_short.Goals as goal

pub returns-clause-wrote : goal.returns-clause-wrote
returns-clause-wrote g c =
    let same = sym (c.as_bytes.ensures.value ∙ c.as_str.ensures.value) in
    record {
      kept = c.as_bytes.result.now;
      text = subst (λ (kept : List ℕ). IfSome (g.D.Display.output c.args.text) (λ bytes. IsTextOrCut short_most bytes kept)) same c.of-short.ensures.text;
      few = subst (λ (kept : List ℕ). length kept ≤ short_most) same c.of-short.ensures.len;
      wrote = c.write.ensures.wrote;
    }
