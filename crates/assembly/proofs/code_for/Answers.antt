-- The codes passed have another word. Assumes nothing.
use mathlib.Core.Path.{◌∙◌, ap}
use mathlib.Core.List.{◌++◌}
use Prim.Native.Nat.{◌+◌}
use native.Mathlib.Omega.{arith}
use lib.ListN.{take}
use Rattle.mnemonics.specs.Texts.{ascii}
use Rattle.mnemonics.specs.Mnemonics as text
use Rattle.mnemonics.specs.Mnemonics.{word_of}
use Rattle.assembly.specs.Assembling.{gives}
use Rattle.assembly.proofs.Words.{code_on, code_here, code_end, code_told, word_long, word_short}
use Rattle.assembly.proofs.code_for.Goals as goal

pub returns-then-word-gt3 : goal.returns-then-word-gt3
returns-then-word-gt3 c = word_long c.args.word.now c.if-word-gt3.true

pub returns-then-eq : goal.returns-then-eq
returns-then-eq c =
    let word = c.args.word.now in
    let code = c.loop-code.code in
    let has = code_told code c.letters.ensures c.filled-sought.ensures c.eq.ensures ∙ c.if-eq.true in
    ap (λ (k : text.Kind). gives k code) c.entry.ensures.kind
    ∙ code_here (take 3 (word ++ ascii "   ")) code (omega arith) has ∙ c.loop-code.invariant ∙ word_short word c.if-word-gt3.false

pub loop-code-preserved : goal.loop-code-preserved
loop-code-preserved c =
    let word = c.args.word.now in
    let code = c.loop-code.code in
    let other = code_told code c.letters.ensures c.filled-sought.ensures c.eq.ensures ∙ c.if-eq.false in
    code_on (take 3 (word ++ ascii "   ")) code (omega arith) other ∙ c.loop-code.invariant

pub returns-else-eq : goal.returns-else-eq
returns-else-eq c =
    let word = c.args.word.now in
    let code = c.loop-code.code in
    let other = code_told code c.letters.ensures c.filled-sought.ensures c.eq.ensures ∙ c.if-eq.false in
    code_end (take 3 (word ++ ascii "   ")) (code + 1) (omega arith)
    ∙ code_on (take 3 (word ++ ascii "   ")) code (omega arith) other ∙ c.loop-code.invariant ∙ word_short word c.if-word-gt3.false

pub returns-else-word-gt3 : goal.returns-else-word-gt3
returns-else-word-gt3 c =
    let word = c.args.word.now in
    code_end (take 3 (word ++ ascii "   ")) c.loop-code.code (omega arith) ∙ c.loop-code.invariant ∙ word_short word c.if-word-gt3.false
