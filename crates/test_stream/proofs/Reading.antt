-- What bytes read behind a place and past their end. Assumes nothing.
use Rattle.std.proofs.Common.{◌≡◌, ℕ, ◌+◌, ◌-◌, ◌≤◌, List, length, get_or, take, drop, min, Bool, true, false, leb, leb-true, leb-false, refl, sym, ap, ◌∙◌, arith, length-drop, get_or-drop, take_all}
use Rattle.std.proofs.Math.Nat.{min-eq_left, min-eq_right}
use lib.ListN.{get_or-eq_default}

-- what a place reads in the part behind another place
behind : (l : List ℕ) (at k : ℕ) → get_or (take (length l - at) (drop at l)) k 0 ≡ get_or l (at + k) 0
behind l at k = rw (take_all (length l - at) (drop at l) (omega (arith, length-drop at l))) (get_or-drop at l k 0)

-- the same where that place may be past their end, behind which bytes read 0
pub behind_any : (l : List ℕ) (at k : ℕ) → get_or (take (length l - min at (length l)) (drop (min at (length l)) l)) k 0 ≡ get_or l (at + k) 0
behind_any l at k = behind l (min at (length l)) k ∙ go (leb at (length l)) refl
  where
    go : (within : Bool) → leb at (length l) ≡ within → get_or l (min at (length l) + k) 0 ≡ get_or l (at + k) 0
    go true w = ap (λ (j : ℕ). get_or l (j + k) 0) (min-eq_left (leb-true at (length l) w))
    go false w =
        let past : length l ≤ at = omega (arith, leb-false at (length l) w) in
        ap (λ (j : ℕ). get_or l (j + k) 0) (min-eq_right past)
        ∙ get_or-eq_default l 0 {n = length l + k} (omega arith)
        ∙ sym (get_or-eq_default l 0 {n = at + k} (omega (arith, past)))
