-- The front of the ROM is as the cells have it, byte by byte. Assumes nothing.
use mathlib.Core.Path.{◌≡◌, ◌∙◌, sym, ap}
use mathlib.Core.List.{List}
use Prim.Native.Nat.{ℕ, suc, ◌+◌, ◌<◌, ◌≤◌, ◌%◌}
use native.Mathlib.Omega.{arith}
use lib.ListN.{length, get_or, set}
use lib.Seq.{paste, paste-suc}
use Rattle.assembly.specs.Assembling.{filled}
use Rattle.assembler.proofs.Filling.{length-filled, filled_at}
use Rattle.assembler.proofs.fill.Goals as goal

-- one byte more
one_more : (rom₀ cells : List ℕ) (size i : ℕ) (rom : List ℕ) → size ≤ length rom₀ → size ≤ length cells → rom ≡ paste rom₀ 0 (filled cells) i → i < size
    → set rom i (get_or cells i 0 % 256) ≡ paste rom₀ 0 (filled cells) (i + 1)
one_more rom₀ cells size i rom a b e h =
    let next : suc i ≡ i + 1 = omega arith in
    let same : i ≡ 0 + i = omega arith in
    ap (λ (l : List ℕ). set l i (get_or cells i 0 % 256)) e
    ∙ ap (λ (v : ℕ). set (paste rom₀ 0 (filled cells) i) i v) (sym (filled_at cells i))
    ∙ ap (λ (k : ℕ). set (paste rom₀ 0 (filled cells) i) k (get_or (filled cells) i 0)) same
    ∙ paste-suc rom₀ 0 (filled cells) i 0 (omega arith) (omega (arith, length-filled cells))
    ∙ ap (λ (k : ℕ). paste rom₀ 0 (filled cells) k) next

pub loop-i-preserved : goal.loop-i-preserved
loop-i-preserved c =
    let l = c.loop-i in
    one_more c.args.rom.now c.args.cells.now c.args.size l.i l.rom c.requires.0 c.requires.1 l.invariant c.loop-i-test.true
