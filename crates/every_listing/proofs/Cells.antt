-- Bytes go to cells that have none, one behind the other. Assumes nothing.
use mathlib.Core.Path.{◌≡◌, ◌∙◌, refl, sym, ap}
use mathlib.Core.Bool.{Bool, true, false, cond}
use mathlib.Core.List.{List, [], ◌∷◌, ◌++◌, append_assoc, append-nil}
use Prim.Native.Nat.{ℕ, zero, suc, ◌+◌, ◌-◌, ◌%◌, ◌<◌, ◌≤◌}
use native.Mathlib.Omega.{arith}
use lib.Dec.{eqb, leb}
use lib.ListN.{length, get_or, set, take, replicate, length-append, replicate-append-replicate}
use lib.Seq.{get_or_at, set_at, append_snoc}
use borrow.Author.Tests.{le-leb}
use Rattle.assembly.specs.Assembling.{State, Step, no_byte, beyond_end, byte_twice, given_twice, placed, put, filled}

longer : (done : List ℕ) (b at : ℕ) → length done ≡ at → length (done ++ b ∷ []) ≡ suc at
longer done b at h = omega (arith, length-append done (b ∷ []))

not_twice : (bytes done rest : List ℕ) (at : ℕ) → length done ≡ at → given_twice (done ++ (replicate (length bytes) no_byte ++ rest)) at bytes ≡ false
unfolding given_twice
not_twice [] done rest at h = refl
not_twice (b ∷ bs) done rest at h =
    let tail = replicate (length bs) no_byte ++ rest in
    ap (λ (v : ℕ). cond (eqb v no_byte) (given_twice (done ++ no_byte ∷ tail) (suc at) bs) true) (get_or_at done no_byte tail 0 at h)
    ∙ ap (λ (l : List ℕ). given_twice l (suc at) bs) (sym (append_snoc done no_byte tail))
    ∙ not_twice bs (done ++ no_byte ∷ []) rest (suc at) (longer done no_byte at h)

all_placed : (bytes done rest : List ℕ) (at : ℕ) → length done ≡ at → placed (done ++ (replicate (length bytes) no_byte ++ rest)) at bytes ≡ done ++ bytes ++ rest
unfolding placed
all_placed [] done rest at h = ap (λ (l : List ℕ). l ++ rest) (sym (append-nil done))
all_placed (b ∷ bs) done rest at h =
    let tail = replicate (length bs) no_byte ++ rest in
    ap (λ (l : List ℕ). placed l (suc at) bs) (set_at done no_byte tail b at h ∙ sym (append_snoc done b tail))
    ∙ all_placed bs (done ++ b ∷ []) rest (suc at) (longer done b at h)
    ∙ ap (λ (l : List ℕ). l ++ rest) (append_snoc done b bs)

-- so many bytes are given, and the other cells have none
abbrev pub given : ℕ → List ℕ → State
given n done = record { at = length done; size = n; begun = true; cells = done ++ replicate (2000 - length done) no_byte }

pub put_given : (n : ℕ) (done bytes : List ℕ) → length done + length bytes ≤ n → n ≤ 2000 → put (given n done) bytes ≡ record { mistake = 0; state = given n (done ++ bytes) }
unfolding put
put_given n done bytes h l =
    let m = 2000 - length done in
    let split : replicate m no_byte ≡ replicate (length bytes) no_byte ++ replicate (m - length bytes) no_byte =
    let e : m ≡ length bytes + (m - length bytes) = omega arith in
    ap (λ (k : ℕ). replicate k no_byte) e ∙ sym (replicate-append-replicate (length bytes) (m - length bytes) no_byte) in
    let cells = ap (λ (r : List ℕ). done ++ r) split in
    let rest = replicate (m - length bytes) no_byte in
    let two = ap (λ (c : List ℕ). given_twice c (length done) bytes) cells ∙ not_twice bytes done rest (length done) refl in
    let all = ap (λ (c : List ℕ). placed c (length done) bytes) cells ∙ all_placed bytes done rest (length done) refl in
    let more : m - length bytes ≡ 2000 - length (done ++ bytes) = omega (arith, length-append done bytes) in
    let whole = all ∙ ap (λ (k : ℕ). done ++ bytes ++ replicate k no_byte) more in
    let mistake = ap (λ (b : Bool). cond b (cond (given_twice (done ++ replicate m no_byte) (length done) bytes) byte_twice 0) beyond_end) (le-leb (length done + length bytes) n h) ∙ ap (λ (b : Bool). cond b byte_twice 0) two in
    λ i. record { mistake = mistake i; state = record { at = sym (length-append done bytes) i; size = n; begun = true; cells = whole i } }

-- the ROM at the end
pub bytes_back : (rom rest : List ℕ) → ((j : ℕ) → get_or rom j 0 < 256) → take (length rom) (filled (rom ++ rest)) ≡ rom
unfolding filled
bytes_back [] rest h = refl
bytes_back (c ∷ rom) rest h =
    let e : c % 256 ≡ c = omega (arith, h 0) in
    λ i. e i ∷ bytes_back rom rest (λ j. h (suc j)) i
