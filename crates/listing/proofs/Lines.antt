-- The parts of a line. Assumes nothing.
use mathlib.Core.Path.{◌≡◌, ◌∙◌, refl, ap}
use mathlib.Core.Bool.{Bool, true, false, cond}
use mathlib.Core.List.{List, [], ◌∷◌, ◌++◌, append_assoc}
use Prim.Native.Nat.{ℕ, ◌+◌, ◌<◌, ◌≤◌}
use lib.Dec.{T, leb, leb→le}
use lib.ListN.{length}
use Rattle.upd546.specs.TheMachine.{follows}
use Rattle.upd546.specs.Instructions.{instruction}
use Rattle.upd546.specs.Reports.{space, newline}
use Rattle.upd546.proofs.Computed.{every_from, every_at}
use Rattle.mnemonics.specs.Texts.{ascii, hex2, hex3}
use Rattle.mnemonics.specs.Mnemonics.{kind_of, none_for, long_for}
use Rattle.listing.specs.Listed.{columns}
use Rattle.listing.specs.Listing.{Item, led_to, label_text, statement_text, bytes_text, remark, comment, line_text}

-- base cycles are told by a digit
every_cycles : T (every_from (λ code. leb (instruction code).cycles 2) 0 256)
unfolding instruction
every_cycles = tt

pub few_cycles : (code : ℕ) → code < 256 → (instruction code).cycles ≤ 2
few_cycles code h = leb→le _ _ (every_at (λ k. leb (instruction k).cycles 2) 256 every_cycles code h)

-- the columns behind a statement
pub columns-same : (i : Item) {p b : List ℕ} {c : ℕ} → p ≡ hex3 i.at ++ space → b ≡ bytes_text i ++ space → c ≡ 48 + (instruction i.code).cycles
    → ascii " ; " ++ p ++ b ++ (c ∷ []) ≡ columns i
columns-same i e f g = rw (e, f, g) (regroup (bytes_text i) ((48 + (instruction i.code).cycles) ∷ []))
  where
    regroup : (b c : List ℕ) → ascii " ; " ++ (hex3 i.at ++ space) ++ (b ++ space) ++ c ≡ ascii " ; " ++ hex3 i.at ++ space ++ b ++ space ++ c
    regroup b c = simp append_assoc

-- what there is to say of a byte
pub elsewhere : (i : Item) {place : List ℕ} → none_for i.kind ≡ true → long_for (kind_of i.code) ≡ true → place ≡ hex3 (follows i.at)
    → ascii " second byte at " ++ place ≡ remark i
elsewhere i e f g = rw (e, f, g)

pub no_code : (i : Item) → none_for i.kind ≡ true → long_for (kind_of i.code) ≡ false → ascii " no instruction" ≡ remark i
no_code i e f = rw (e, f)

pub columns-length : (i : Item) → length (columns i) ≡ 14
columns-length i = go (long_for i.kind)
  where
    go : (b : Bool) → length (ascii " ; " ++ hex3 i.at ++ space ++ (hex2 i.code ++ cond b (space ++ hex2 i.second) (ascii "   ")) ++ space ++ ((48 + (instruction i.code).cycles) ∷ [])) ≡ 14
    go true = refl
    go false = refl

pub label_length : (led : Bool) (at : ℕ) → length (label_text led at ++ space) ≡ 6
label_length true at = refl
label_length false at = refl

-- a line of its parts
line_same : (all : List Item) (i : Item) (led : Bool)
    → label_text led i.at ++ space ++ statement_text all i ++ columns i ++ remark i ++ newline
    ≡ label_text led i.at ++ space ++ statement_text all i ++ ascii " ;" ++ comment i ++ newline
line_same all i led = regroup (label_text led i.at ++ space) (statement_text all i) (bytes_text i) ((48 + (instruction i.code).cycles) ∷ []) (remark i)
  where
    regroup : (l s b c r : List ℕ)
        → l ++ s ++ (ascii " ; " ++ hex3 i.at ++ space ++ b ++ space ++ c) ++ r ++ newline
        ≡ l ++ s ++ ascii " ;" ++ (space ++ hex3 i.at ++ space ++ b ++ space ++ c ++ r) ++ newline
    regroup l s b c r = simp append_assoc

pub line_of : (all : List Item) (i : Item) {l s : List ℕ} {led : Bool} → l ≡ label_text led i.at ++ space → led ≡ led_to all i.at → s ≡ statement_text all i
    → l ++ s ++ columns i ++ remark i ++ newline ≡ line_text all i
line_of all i {l} {s} p q r =
    ap (λ (t : List ℕ). t ++ s ++ columns i ++ remark i ++ newline) (p ∙ ap (λ (b : Bool). label_text b i.at ++ space) q)
    ∙ ap (λ (t : List ℕ). label_text (led_to all i.at) i.at ++ space ++ t ++ columns i ++ remark i ++ newline) r
    ∙ line_same all i (led_to all i.at)
