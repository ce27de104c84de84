-- What a row keeps: its bars, and of how many waits they are. Assumes nothing: these are definitions.
use Rattle.std.specs.Prelude.{ℕ, ◌+◌, ◌<◌, ◌^◌, ◌≡◌, List, [], ◌∷◌, take}
use Rattle.bar_rows.specs.declared.Joined.{Joined}
use Rattle.bar_rows.specs.declared.Row.{Row}

-- the bars of a row
abbrev pub bars_in : Row → List Joined
bars_in r = take r.count r.all

-- how many waits they are, together
abbrev pub waits_of : List Joined → ℕ
waits_of [] = 0
waits_of (b ∷ bs) = b.waits + waits_of bs

-- NONE IS LOST: a row has as many waits as it had, and so many more. No log has 2^64 waits.
abbrev pub HasMore : ℕ → Row → Row → Type 0
HasMore more old new = waits_of (bars_in old) + more < 2 ^ 64 → waits_of (bars_in new) ≡ waits_of (bars_in old) + more
