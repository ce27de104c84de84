-- Request R-9, the grants: the cycles that each panel of a round may run. Assumes nothing: these are definitions.
use Rattle.std.specs.Prelude.{ℕ, ◌+◌, ◌-◌, ◌/◌, ◌≤◌, min, ◌≡◌, List, [], ◌∷◌, length}

unfoldable pub sum : List ℕ → ℕ
sum [] = 0
sum (x ∷ xs) = x + sum xs

-- "T divided by m, rounded down"; with no panel there is none to have it
abbrev pub share_of : ℕ → ℕ → ℕ
share_of t m = t / m

-- "each is first granted the smaller of its wish and T divided by m, rounded down"
abbrev pub first_share : ℕ → ℕ → ℕ
first_share share wish = min wish share

unfoldable pub firsts : ℕ → List ℕ → List ℕ
firsts share [] = []
firsts share (w ∷ ws) = first_share share w ∷ firsts share ws

-- "What is left goes to unmet wishes": what a wish still lacks, as far as it lasts
abbrev pub more_of : ℕ → ℕ → ℕ → ℕ
more_of share left wish = min left (wish - share)

abbrev pub grant_of : ℕ → ℕ → ℕ → ℕ
grant_of share left wish = first_share share wish + more_of share left wish

-- "in order of the row"
unfoldable pub granted : ℕ → ℕ → List ℕ → List ℕ
granted share left [] = []
granted share left (w ∷ ws) = grant_of share left w ∷ granted share (left - more_of share left w) ws

-- "What is left" of T after the first shares
abbrev pub left_of : ℕ → List ℕ → ℕ
left_of t ws = t - sum (firsts (share_of t (length ws)) ws)

-- THE GRANTS of a round of T cycles, of panels with these wishes
abbrev pub grants : ℕ → List ℕ → List ℕ
grants t ws = granted (share_of t (length ws)) (left_of t ws) ws

-- each of the one list at most the one of the other, place by place
abbrev pub AllAtMost : List ℕ → List ℕ → Type 0
AllAtMost [] ys = Unit {0}
AllAtMost (x ∷ xs) [] = ⊥
AllAtMost (x ∷ xs) (y ∷ ys) = (x ≤ y) × AllAtMost xs ys

-- "Grants never exceed T together or any wish, none is below that first share, and together they reach T or every wish is met."
pub record Fair (t : ℕ) (ws : List ℕ) : Type 0 where
  pub one_each : length (grants t ws) ≡ length ws
  pub within_t : sum (grants t ws) ≤ t
  pub within_wishes : AllAtMost (grants t ws) ws
  pub not_below_first : AllAtMost (firsts (share_of t (length ws)) ws) (grants t ws)
  pub reach_t : t ≤ sum ws → sum (grants t ws) ≡ t
  pub all_met : sum ws ≤ t → grants t ws ≡ ws
