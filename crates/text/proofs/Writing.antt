-- Text behind text in a buffer. Assumes nothing.
use mathlib.Core.Path.{◌≡◌, ◌∙◌, refl, sym, ap, ap₂, subst}
use mathlib.Core.List.{List, [], ◌++◌, append_assoc, append-nil}
use Prim.Native.Nat.{ℕ, ◌≤◌}
use native.Mathlib.Omega.{arith}
use lib.ListN.{length, take, drop, length-append, length-drop, take-append-drop}
use lib.Seq.{length-take-le, take_at, drop_at, drop-drop}
use Rattle.upd546.specs.Reports.{decimal, space, newline, refused_word, refused_text}
use Rattle.io.specs.Counts.{IsPrefixLen}
use Rattle.text.specs.Writing.{Appended, Pushed}
use Rattle.text.specs.declared.Text.{Text}

module _ {b b₁ w : List ℕ} {a r : ℕ} (p : Appended b a w b₁ r) where
  front_length : length (take a b ++ w) ≡ r
  front_length = omega (arith, length-append (take a b) w, length-take-le a b (omega (arith, p.ends, p.fits)), p.ends)

  -- up to the place behind it
  pub front : take r b₁ ≡ take a b ++ w
  front = ap (take r) p.stands ∙ take_at (take a b ++ w) (drop r b) r front_length

  -- and from there on
  back : drop r b₁ ≡ drop r b
  back = ap (drop r) p.stands ∙ drop_at (take a b ++ w) (drop r b) r front_length

  pub kept_length : length b₁ ≡ length b
  kept_length =
      let whole = ap length p.stands ∙ length-append (take a b ++ w) (drop r b) in
      omega (arith, whole, front_length, length-drop r b, p.fits)

-- one text behind the other
behind : {b b₁ b₂ w x : List ℕ} {a m r : ℕ} → Appended b a w b₁ m → Appended b₁ m x b₂ r → Appended b a (w ++ x) b₂ r
behind {b} {b₁} {b₂} {w} {x} {a} {m} {r} p q =
    let rest : drop r b₁ ≡ drop r b =
    ap (λ (k : ℕ). drop k b₁) q.ends ∙ sym (drop-drop (length x) m b₁) ∙ ap (drop (length x)) (back p) ∙ drop-drop (length x) m b
    ∙ ap (λ (k : ℕ). drop k b) (sym q.ends) in
    record {
      ends = omega (arith, p.ends, q.ends, length-append w x);
      fits = omega (arith, q.fits, kept_length p);
      stands = q.stands ∙ ap₂ (λ (y z : List ℕ). y ++ x ++ z) (front p) rest ∙ ap (λ (z : List ℕ). z ++ drop r b) (append_assoc (take a b) w x);
    }

-- nothing
nothing : (a : ℕ) (b : List ℕ) → a ≤ length b → Appended b a [] b a
nothing a b h = record { ends = omega arith; fits = h; stands = sym (rw append-nil (take-append-drop a b)) }

-- THE SAME OF A TEXT THAT GROWS

-- the same text, told otherwise
pub told : {t u : Text} {w x : List ℕ} → w ≡ x → Pushed t w u → Pushed t x u
told {t} {u} e p = subst (λ (z : List ℕ). Pushed t z u) e p

-- one text behind the other
pub then : {t u v : Text} {w x : List ℕ} → Pushed t w u → Pushed u x v → Pushed t (w ++ x) v
then p q = record {
  same_buffer = q.same_buffer ∙ p.same_buffer;
  same_size = q.same_size ∙ p.same_size;
  appended = behind p.appended q.appended;
}

-- nothing behind it
pub none : (t : Text) → Pushed t [] t
none t = record { same_buffer = refl; same_size = refl; appended = nothing t.size t.buffer.now t.fits }

-- what was written since the text was empty stands at the front of the buffer
pub at_front : {t u : Text} {w b : List ℕ} {r : ℕ} → t.buffer.now ≡ b → t.size ≡ 0 → Pushed t w u → r ≡ u.size → Appended b 0 w u.buffer.now r
at_front {t} {u} {w} e z p l = rw (← e, ← z, l) p.appended

-- a text at the front of a buffer: so many bytes of the buffer
pub counted : {b b₁ w : List ℕ} {r : ℕ} → Appended b 0 w b₁ r → IsPrefixLen r b₁
counted {b} {b₁} {w} {r} p =
    let whole : length (take r b₁) ≡ length w = ap length (front p) in
    (omega (arith, kept_length p, p.fits), omega (arith, whole, p.ends))

-- a word, and a number with a byte behind it
pub refused-same : (k : ℕ) → refused_word ++ space ++ (decimal k ++ newline) ≡ refused_text k
refused-same k = sym (append_assoc (refused_word ++ space) (decimal k) newline)
