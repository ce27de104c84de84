-- Bytes that take the place of as many others: those before and behind them stay. Assumes nothing.
use mathlib.Core.Path.{◌≡◌, ◌∙◌, sym, ap}
use mathlib.Core.List.{List, ◌++◌, append_assoc}
use Prim.Native.Nat.{ℕ, ◌+◌, ◌-◌, ◌≤◌}
use native.Mathlib.Omega.{arith}
use lib.ListN.{length, take, drop, length-append, length-drop, take-append-drop}
use lib.Seq.{take-append_seam, take-append-le, drop-append-le, drop-append-add, drop-drop, drop_at, length-take-le}
use Rattle.upd546.specs.Bytes.{part}

-- a part that lies in front
front : (l r : List ℕ) (a n : ℕ) → a + n ≤ length l → part (l ++ r) a n ≡ part l a n
front l r a n h = rw (drop-append-le a l r (omega arith)) (take-append-le n (drop a l) r (omega (arith, length-drop a l)))

module _ (l x : List ℕ) (at : ℕ) (fits : at + length x ≤ length l) where
  before : length (take at l) ≡ at
  before = length-take-le at l (omega arith)

  pub replaced_at : part (take at l ++ x ++ drop (at + length x) l) at (length x) ≡ x
  replaced_at =
      let rest = drop (at + length x) l in
      rw (append_assoc (take at l) x rest, drop_at (take at l) (x ++ rest) at before) (take-append_seam x rest)

  pub replaced_before : (a n : ℕ) → a + n ≤ at → part (take at l ++ x ++ drop (at + length x) l) a n ≡ part l a n
  replaced_before a n h =
      let rest = drop (at + length x) l in
      let whole : part (take at l ++ drop at l) a n ≡ part l a n = ap (λ (m : List ℕ). part m a n) (take-append-drop at l) in
      rw (append_assoc (take at l) x rest)
      (front (take at l) (x ++ rest) a n (omega (arith, before)) ∙ sym (front (take at l) (drop at l) a n (omega (arith, before))) ∙ whole)

  pub replaced_behind : (a n : ℕ) → at + length x ≤ a → part (take at l ++ x ++ drop (at + length x) l) a n ≡ part l a n
  replaced_behind a n h =
      let size = length-append (take at l) x in
      let further : a ≡ length (take at l ++ x) + (a - (at + length x)) = omega (arith, size, before) in
      let back : at + length x + (a - (at + length x)) ≡ a = omega arith in
      ap (take n)
      (ap (λ (k : ℕ). drop k (take at l ++ x ++ drop (at + length x) l)) further
      ∙ drop-append-add (take at l ++ x) (drop (at + length x) l) (a - (at + length x))
      ∙ drop-drop (a - (at + length x)) (at + length x) l
      ∙ ap (λ (k : ℕ). drop k l) back)
