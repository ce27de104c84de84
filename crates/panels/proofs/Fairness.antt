-- The grants of a round are fair, whatever T and the wishes are. Assumes nothing.
use mathlib.Core.Path.{◌≡◌, refl, ap, ap₂}
use Prim.Native.Nat.{ℕ, suc, ◌+◌, ◌-◌, ◌*◌, ◌≤◌, min}
use native.Mathlib.Omega.{arith}
use native.Mathlib.Nat.{suc-mul, mul_comm, div-mul-le_self}
use mathlib.Core.List.{List, [], ◌∷◌}
use lib.ListN.{length}
use Rattle.panels.specs.Grants.{first_share, sum, firsts, more_of, grant_of, granted, share_of, left_of, grants, AllAtMost, Fair}

-- ==== whatever the share s and the rest l are

granted-length : (s l : ℕ) (ws : List ℕ) → length (granted s l ws) ≡ length ws
unfolding granted
granted-length s l [] = refl
granted-length s l (w ∷ ws) = ap suc (granted-length s (l - more_of s l w) ws)

granted-within : (s l : ℕ) (ws : List ℕ) → AllAtMost (granted s l ws) ws
unfolding granted
granted-within s l [] = tt
granted-within s l (w ∷ ws) = (omega arith, granted-within s (l - more_of s l w) ws)

granted-above : (s l : ℕ) (ws : List ℕ) → AllAtMost (firsts s ws) (granted s l ws)
unfolding granted firsts
granted-above s l [] = tt
granted-above s l (w ∷ ws) = (omega arith, granted-above s (l - more_of s l w) ws)

firsts_within : (s : ℕ) (ws : List ℕ) → sum (firsts s ws) ≤ sum ws
unfolding sum firsts
firsts_within s [] = omega arith
firsts_within s (w ∷ ws) = omega (arith, firsts_within s ws)

-- one panel's share in the sum
step : (s l w f v r : ℕ) → f ≤ v → r ≡ min (f + (l - more_of s l w)) v → grant_of s l w + r ≡ min (first_share s w + f + l) (w + v)
step s l w f v r h e = omega (arith, h, e)

granted-sum : (s l : ℕ) (ws : List ℕ) → sum (granted s l ws) ≡ min (sum (firsts s ws) + l) (sum ws)
unfolding sum granted firsts
granted-sum s l [] = omega arith
granted-sum s l (w ∷ ws) = step s l w (sum (firsts s ws)) (sum ws) (sum (granted s (l - more_of s l w) ws)) (firsts_within s ws) (granted-sum s (l - more_of s l w) ws)

-- ==== the first shares keep within T

firsts_most : (s : ℕ) (ws : List ℕ) → sum (firsts s ws) ≤ length ws * s
unfolding sum firsts
firsts_most s [] = omega arith
firsts_most s (w ∷ ws) = omega (arith, firsts_most s ws, suc-mul (length ws) s)

firsts_fit : (t : ℕ) (ws : List ℕ) → sum (firsts (share_of t (length ws)) ws) ≤ t
firsts_fit t ws = omega (arith, firsts_most (share_of t (length ws)) ws, mul_comm (length ws) (share_of t (length ws)), div-mul-le_self t (length ws))

grants_sum : (t : ℕ) (ws : List ℕ) → sum (grants t ws) ≡ min t (sum ws)
grants_sum t ws = omega (arith, granted-sum (share_of t (length ws)) (left_of t ws) ws, firsts_fit t ws)

-- ==== lists that agree in their sums

sum_within : (xs ys : List ℕ) → AllAtMost xs ys → sum xs ≤ sum ys
unfolding sum
sum_within [] ys h = omega arith
sum_within (x ∷ xs) [] h = absurd h
sum_within (x ∷ xs) (y ∷ ys) h = omega (arith, h.0, sum_within xs ys h.1)

all_same : (xs ys : List ℕ) → length xs ≡ length ys → AllAtMost xs ys → sum xs ≡ sum ys → xs ≡ ys
unfolding sum
all_same [] [] l h e = refl
all_same [] (y ∷ ys) l h e = absurd (apart (length ys) l)
  where
    apart : (n : ℕ) → 0 ≡ suc n → ⊥
    apart n q = omega arith
all_same (x ∷ xs) [] l h e = absurd h
all_same (x ∷ xs) (y ∷ ys) l h e =
    let rest : sum xs ≤ sum ys = sum_within xs ys h.1 in
    let same : x ≡ y = omega (arith, h.0) in
    ap₂ {C = List ℕ} (λ z zs. z ∷ zs) same (all_same xs ys (omega arith) h.1 (omega (arith, h.0)))

-- THE GRANTS ARE FAIR.
pub grants_fair : (t : ℕ) (ws : List ℕ) → Fair t ws
grants_fair t ws = record {
  one_each = granted-length (share_of t (length ws)) (left_of t ws) ws;
  within_t = omega (arith, grants_sum t ws);
  within_wishes = granted-within (share_of t (length ws)) (left_of t ws) ws;
  not_below_first = granted-above (share_of t (length ws)) (left_of t ws) ws;
  reach_t = λ h. omega (arith, grants_sum t ws, h);
  all_met = λ h. all_same (grants t ws) ws (granted-length (share_of t (length ws)) (left_of t ws) ws) (granted-within (share_of t (length ws)) (left_of t ws) ws) (meets h);
}
  where
    meets : sum ws ≤ t → sum (grants t ws) ≡ sum ws
    meets h = omega (arith, grants_sum t ws, h)
