-- Entries of a bank, one behind the other. Assumes nothing.
use mathlib.Core.Path.{◌≡◌, refl, ap}
use mathlib.Core.List.{List, [], ◌∷◌}
use Prim.Native.Nat.{ℕ, zero, suc, ◌+◌, ◌-◌, ◌*◌, ◌<◌, ◌≤◌}
use native.Mathlib.Nat.{sub-zero}
use native.Mathlib.Omega.{arith}
use lib.ListN.{length, take, drop}
use lib.Seq.{drop-drop}
use Rattle.upd546.specs.Bytes.{part}
use Rattle.panels.specs.declared.Needs.{Needs}
use Rattle.bank_calls.specs.Entries.{entry_length, entries_of, entry_needs, needs_in}

pub length-entries : (n : ℕ) (bytes : List ℕ) → length (entries_of n bytes) ≡ n
length-entries zero bytes = refl
length-entries (suc n) bytes = ap suc (length-entries n (drop entry_length bytes))

pub length-needs : (es : List (List ℕ)) → length (needs_in es) ≡ length es
unfolding needs_in
length-needs [] = refl
length-needs (e ∷ es) = ap suc (length-needs es)

-- the needs of the first entries
pub first_needs : (k n : ℕ) (bytes : List ℕ) → k ≤ n → take k (needs_in (entries_of n bytes)) ≡ needs_in (entries_of k bytes)
unfolding needs_in
first_needs zero n bytes h = refl
first_needs (suc k) zero bytes h = absurd (omega (arith, h))
first_needs (suc k) (suc n) bytes h =
    ap (λ (ns : List Needs). entry_needs (take entry_length bytes) ∷ ns) (first_needs k n (drop entry_length bytes) (omega (arith, h)))

-- the entries from i on and before `to`
abbrev pub span : List ℕ → ℕ → ℕ → List (List ℕ)
span bank i to = entries_of (to - i) (drop (entry_length * i) bank)

pub span_none : (bank : List ℕ) (i to : ℕ) → to ≤ i → span bank i to ≡ []
span_none bank i to h =
    let none : to - i ≡ 0 = omega arith in
    rw none

pub span_all : (bank : List ℕ) (to : ℕ) → span bank 0 to ≡ entries_of to bank
span_all bank to = rw (sub-zero to)

pub span_cons : (bank : List ℕ) (i to : ℕ) → i < to → span bank i to ≡ part bank (entry_length * i) entry_length ∷ span bank (i + 1) to
span_cons bank i to h =
    let more : to - i ≡ suc (to - (i + 1)) = omega arith in
    let next : entry_length * i + entry_length ≡ entry_length * (i + 1) = omega arith in
    rw (more, drop-drop entry_length (entry_length * i) bank, next)
