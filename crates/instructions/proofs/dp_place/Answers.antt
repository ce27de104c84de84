-- The place of the word at DP, by its row's entry. Assumes nothing.
use mathlib.Core.Path.{◌≡◌, ◌∙◌, sym, ap}
use mathlib.Core.List.{List}
use Prim.Native.Nat.{ℕ, ◌+◌, ◌≤◌}
use native.Mathlib.Omega.{arith}
use lib.ListN.{get_or}
use Rattle.tables.proofs.Rows.{row_column, row_entry, entry_within}
use Rattle.instructions.proofs.dp_place.Goals as goal
use Rattle.instructions.proofs.dp_place.Goals.{After-result-1}

-- an entry leaves room for a column
within : (c : After-result-1) → get_or c.args.rows.now c.args.dph 0 ≤ 96
within c = entry_within c.args.rows.now c.requires.0 c.args.dph c.requires.1

pub overflow_add-result : goal.overflow_add-result
overflow_add-result c = omega (arith, within c, c.requires.2)

pub returns : goal.returns
returns c sheet is =
    let a = c.args in
    let entry : get_or a.rows.now a.dph 0 ≡ _ = ap (λ (l : List ℕ). get_or l a.dph 0) is ∙ row_entry sheet a.dph c.requires.1 in
    ap (λ (k : ℕ). k + a.dpl) entry ∙ sym (row_column sheet a.dph a.dpl c.requires.2)
