-- A byte that is no instruction, and a word with its operand. Assumes nothing.
use mathlib.Core.Path.{◌≡◌, ◌∙◌, refl, sym, ap}
use mathlib.Core.List.{◌++◌}
use Prim.Native.Nat.{ℕ}
use lib.ListN.{length}
use Rattle.upd546.specs.Reports.{space}
use Rattle.mnemonics.specs.Mnemonics as text
use Rattle.mnemonics.specs.Mnemonics.{entry_of, word_of, operand_text, text_by, instruction_text}
use Rattle.mnemonics.specs.Kinds.{kind_by}
use Rattle.mnemonics.specs.declared.Kind.{Kind}
use Rattle.mnemonics.specs.declared.Kind.TheVariants.{Without, Bits, Nibble, Byte, Far, ZeroPage, InPage, NoInstruction}
use Rattle.mnemonics.proofs.Table.{word_length, joined, field_length}
use borrow.Author.Rules.{rules}
use Rattle.mnemonics.proofs.instruction.Goals as goal

-- a text that is an instruction's
some_instruction : (k : Kind) (at code second : ℕ) → (k ≡ NoInstruction → ⊥)
    → word_of code ++ space ++ operand_text (kind_by k) at code second ≡ text_by (kind_by k) at code second
some_instruction Without at code second n = refl
some_instruction Bits at code second n = refl
some_instruction Nibble at code second n = refl
some_instruction Byte at code second n = refl
some_instruction Far at code second n = refl
some_instruction ZeroPage at code second n = refl
some_instruction InPage at code second n = refl
some_instruction NoInstruction at code second n = absurd (n refl)

pub returns-in-NoInstruction : goal.returns-in-NoInstruction
unfolding instruction_text
returns-in-NoInstruction c =
    let a = c.args in
    let none = sym (ap kind_by c.in-NoInstruction.is) ∙ c.entry-kind.ensures.kind in
    c.byte.ensures ∙ ap (λ (k : text.Kind). text_by k a.at a.code a.second) none

pub returns-in_default : goal.returns-in_default
unfolding instruction_text
returns-in_default c =
    let a = c.args in
    let word = c.entry-kind.ensures.word in
    let field = c.operand-field.ensures in
    let kind = kind_by c.entry-kind.result.kind in
    let field_four = ap length field ∙ field_length kind a.at a.code a.second in
    let word_three = ap length word ∙ word_length a.code (search rules) in
    let told = some_instruction c.entry-kind.result.kind a.at a.code a.second c.in_default.not-NoInstruction in
    joined c.entry-kind.result.word c.operand-field.result word_three field_four ∙ rw (word, field)
    (told ∙ ap (λ (k : text.Kind). text_by k a.at a.code a.second) c.entry-kind.ensures.kind)
