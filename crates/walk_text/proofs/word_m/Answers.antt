-- The word at its place. Assumes nothing.
use mathlib.Core.Path.{◌∙◌, refl, ap}
use Prim.Native.Nat.{ℕ}
use native.Mathlib.Omega.{arith}
use lib.ListN.{get_or}
use Rattle.std.specs.Option.{unwrap_or}
use Rattle.std.specs.declared.option.Option.{Option}
use Rattle.upd546.specs.TheSheet.{upd546_sheet}
use Rattle.walk_text.specs.Fields.{word_m}
use Rattle.walk_text.proofs.Joined.{place_same}
use Rattle.walk_text.proofs.word_m.Goals as goal

pub returns : goal.returns
unfolding word_m
returns c =
    let s = c.args.s in
    c.unwrap_or.ensures
    ∙ ap (λ (o : Option ℕ). unwrap_or o 0) c.copied.ensures
    ∙ c.get.ensures.lookup.4 (omega arith) 0
    ∙ ap (λ (k : ℕ). get_or s.ram k 0)
    (place_same s.core.registers.dph s.core.registers.dpl (c.row_table-rows.ensures upd546_sheet refl) refl)
