-- Blanks, the word, and the rest. Assumes nothing.
use mathlib.Core.Path.{◌≡◌, ◌∙◌, ap}
use Prim.Native.Nat.{ℕ, ◌-◌}
use lib.ListN.{length, take, drop}
use Rattle.std.proofs.Common.{rules, tests}
use Rattle.std.proofs.lemmas.Iterator.{YieldsList-from_slice}
use Rattle.std.proofs.lemmas.Iterator.Search.{position_from_yields_List}
use Rattle.assembly.specs.Grammar.{is_blank, is_solid, before, onwards}
use Rattle.assembly.proofs.Parts.{found, take-before, drop-before, take_rest}
use Rattle.assembly.proofs.first_word.Goals as goal

pub returns : goal.returns
returns c =
    let text = c.args.text.now in
    let solid = position_from_yields_List is_solid _ _ _ c.position.ensures.ran (YieldsList-from_slice text cc) (λ x b q k. search (rules, tests)) in
    let from = c.unwrap_or-from.result in
    let rest = take (length text - from) (drop from text) in
    let onward : rest ≡ onwards is_solid text
    = take_rest from text ∙ ap (λ (k : ℕ). drop k text) (found is_solid text solid c.unwrap_or-from.ensures) ∙ drop-before is_solid text in
    let blank = position_from_yields_List is_blank _ _ _ c.position-2.ensures.ran (YieldsList-from_slice rest cc) (λ x b q k. search (rules, tests)) in
    let to = found is_blank rest blank c.unwrap_or-to.ensures in (
      c.split_at.ensures.front ∙ ap (λ (k : ℕ). take k rest) to ∙ take-before is_blank rest ∙ ap (before is_blank) onward,
      c.split_at.ensures.back ∙ ap (λ (k : ℕ). drop k rest) to ∙ drop-before is_blank rest ∙ ap (onwards is_blank) onward,
    )
