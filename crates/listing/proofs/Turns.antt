-- The lines of a ROM, written one behind the other. Assumes nothing.
use mathlib.Core.Path.{◌≡◌, ◌∙◌, sym, ap}
use mathlib.Core.List.{List, [], ◌∷◌, ◌++◌, append_assoc, append-nil}
use Prim.Native.Nat.{ℕ, ◌<◌, ◌≤◌}
use native.Mathlib.Omega.{arith}
use lib.ListN.{length}
use borrow.Author.Tests.{le-leb, lt-leb}
use Rattle.upd546.specs.TheMachine.{rom_length}
use Rattle.upd546.specs.Reports.{newline}
use Rattle.mnemonics.specs.Texts.{ascii, hex3}
use Rattle.text.specs.declared.Text.{Text}
use Rattle.text.specs.Writing.{Pushed}
use Rattle.text.proofs.Writing.{none, told, then, at_front, kept_length}
use Rattle.listing.specs.Listing.{Item, line_text, lines_text, items_of, listing_text}
use Rattle.listing.specs.Listed.{listed_text, Listed}

-- all lines but those of the items that are left stand behind the text
pub record Begun (all left : List Item) (before after : Text) : Type 0 where
  pub text : List ℕ
  pub stands : Pushed before text after
  pub rest : text ++ lines_text all left ≡ lines_text all all

pub none_yet : (all : List Item) {is : List Item} (t : Text) → is ≡ all → Begun all is t t
none_yet all t e = record { text = []; stands = none t; rest = ap (lines_text all) e }

pub one_more : (all : List Item) {is left : List Item} {i : Item} {t u v : Text} → is ≡ i ∷ left → Begun all is t u → Pushed u (line_text all i) v
    → Begun all left t v
unfolding lines_text
one_more all {left = left} {i = i} e p q = record {
  text = p.text ++ line_text all i;
  stands = then p.stands q;
  rest = append_assoc p.text (line_text all i) (lines_text all left) ∙ ap (λ (js : List Item). p.text ++ lines_text all js) (sym e) ∙ p.rest;
}

pub all_there : (all : List Item) {is : List Item} {t u : Text} → is ≡ [] → Begun all is t u → Pushed t (lines_text all all) u
unfolding lines_text
all_there all e p = told (sym (append-nil p.text) ∙ ap (λ (js : List Item). p.text ++ lines_text all js) (sym e) ∙ p.rest) p.stands

-- THE LISTING

pub too_long : (rom b : List ℕ) → rom_length < length rom → Listed rom b b 0
unfolding listed_text
too_long rom b h = record { fits = omega arith; size = rw (lt-leb (length rom) rom_length h); text = rw (lt-leb (length rom) rom_length h) }

pub whole : (rom : List ℕ) → length rom ≤ rom_length → {b d : List ℕ} {t u : Text} {r : ℕ} → t.buffer.now ≡ b → t.size ≡ 0 → d ≡ hex3 (length rom)
    → Pushed t (ascii "rom " ++ d ++ newline ++ lines_text (items_of rom) (items_of rom)) u → r ≡ u.size → Listed rom b u.buffer.now r
unfolding listed_text listing_text
whole rom h {b} {d} {t} {u} {r} f z e p l =
    let same = ap (λ (d : List ℕ). ascii "rom " ++ d ++ newline ++ lines_text (items_of rom) (items_of rom)) e in
    let q = at_front f z (told same p) l in
    record { fits = omega (arith, kept_length q, q.fits); size = rw (le-leb (length rom) rom_length h) (q.ends ∙ omega arith); text = rw (le-leb (length rom) rom_length h) q.stands }
