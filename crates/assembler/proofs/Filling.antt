-- The bytes of cells. Assumes nothing.
use mathlib.Core.Path.{◌≡◌, ◌∙◌, refl, sym, ap, subst}
use mathlib.Core.Bool.{Bool, true, false}
use mathlib.Core.List.{List, [], ◌∷◌, ◌++◌}
use Prim.Native.Nat.{ℕ, zero, suc, ◌%◌, min}
use native.Mathlib.Omega.{arith}
use lib.Dec.{leb}
use lib.ListN.{length, get_or, take, drop, length-append, length-take, length-drop}
use lib.Seq.{take_all}
use borrow.Author.Tests.{leb-true, leb-false}
use Rattle.upd546.specs.TheMachine.{rom_length}
use Rattle.assembly.specs.Grammar.{uppers}
use Rattle.assembly.specs.Assembling.{Assembled, filled, assembled}
use Rattle.std.proofs.Common.{Result, Ok, Err}
use Rattle.assembler.specs.declared.Fault.{Fault}
use Rattle.assembler.specs.Answers.{lines_found, told, assembled_lines, Assembles}

pub length-filled : (cells : List ℕ) → length (filled cells) ≡ length cells
unfolding filled
length-filled [] = refl
length-filled (c ∷ t) = ap suc (length-filled t)

pub filled_at : (cells : List ℕ) (i : ℕ) → get_or (filled cells) i 0 ≡ get_or cells i 0 % 256
unfolding filled
filled_at [] i = refl
filled_at (c ∷ t) zero = refl
filled_at (c ∷ t) (suc i) = filled_at t i

-- a mistake: nothing is written
pub no_bytes : (a : Assembled) (rom : List ℕ) (f : Fault) (after : List ℕ) → told (Err f) after ≡ a → Assembles a rom (Err f) rom
no_bytes a rom f after e = record {
  mistake = ap (λ (x : Assembled). x.mistake) e;
  line = ap (λ (x : Assembled). x.line) e;
  size = ap (λ (x : Assembled). length x.bytes) e;
  rom = ap (λ (x : Assembled). x.bytes ++ drop (length x.bytes) rom) e;
  long = refl;
}

-- the cells have 2,000 bytes, and no more are taken
takes_all : (size : ℕ) (cells : List ℕ) → length cells ≡ rom_length → take size (filled cells) ≡ take (min size rom_length) (filled cells)
takes_all size cells e = go (leb size rom_length) refl
  where
    go : (b : Bool) → leb size rom_length ≡ b → take size (filled cells) ≡ take (min size rom_length) (filled cells)
    go true q =
        let h = leb-true size rom_length q in
        let same : size ≡ min size rom_length = omega (arith, h) in
        ap (λ (k : ℕ). take k (filled cells)) same
    go false q =
        let h = leb-false size rom_length q in
        let least : min size rom_length ≡ rom_length = omega (arith, h) in
        take_all size (filled cells) (omega (arith, h, e, length-filled cells))
        ∙ sym (ap (λ (k : ℕ). take k (filled cells)) least ∙ take_all rom_length (filled cells) (omega (arith, e, length-filled cells)))

-- no mistake: the bytes stand at the front
pub some_bytes : (a : Assembled) (before : List ℕ) (n : ℕ) (cells : List ℕ) → told (Ok n) cells ≡ a → length cells ≡ rom_length
    → length before ≡ rom_length → (size : ℕ) → size ≡ min n rom_length → (rom : List ℕ) → rom ≡ take size (filled cells) ++ drop size before
    → Assembles a before (Ok size) rom
some_bytes a before n cells e long room size is rom w =
    let bytes : take size (filled cells) ≡ a.bytes
    = ap (λ (k : ℕ). take k (filled cells)) is ∙ sym (takes_all n cells long) ∙ ap (λ (x : Assembled). x.bytes) e in
    let of_all : length (take size (filled cells)) ≡ size = omega (arith, length-take size (filled cells), is, long, length-filled cells) in
    let count : size ≡ length a.bytes = sym of_all ∙ ap (λ (l : List ℕ). length l) bytes in
    let joined = length-append (take size (filled cells)) (drop size before) in
    let whole : length (take size (filled cells) ++ drop size before) ≡ length before = omega (arith, joined, of_all, length-drop size before, is, room) in
    record {
      mistake = ap (λ (x : Assembled). x.mistake) e;
      line = ap (λ (x : Assembled). x.line) e;
      size = count;
      rom = w ∙ ap (λ (l : List ℕ). l ++ drop size before) bytes ∙ ap (λ (k : ℕ). a.bytes ++ drop k before) count;
      long = ap (λ (l : List ℕ). length l) w ∙ whole;
    }

-- a text that was turned into capital letters
pub in_capitals : (text turned : List ℕ) → turned ≡ uppers text → (rom after : List ℕ) (r : Result ℕ Fault)
    → Assembles (assembled_lines (lines_found turned)) rom r after → Assembles (assembled text) rom r after
unfolding assembled
in_capitals text turned e rom after r w = subst (λ (t : List ℕ). Assembles (assembled_lines (lines_found t)) rom r after) e w
