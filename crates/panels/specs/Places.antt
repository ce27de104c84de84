-- Request R-9: where the parts of the panels lie in the three lent buffers, what each panel has for a round, and what refuses a round.
-- Assumes nothing: these are definitions.
use Rattle.std.specs.Prelude.{ℕ, ◌+◌, Bool, ◌&&◌, List, [], ◌∷◌, leb, length}
use Rattle.runs.specs.Refusals.{first_of, unless}
use Rattle.panels.specs.declared.Needs.{Needs}
use Rattle.panels.specs.declared.Places.{Places}
use Rattle.panels.specs.declared.Lot.{Lot}
use Rattle.panels.specs.Grants.{grants}

-- "up to sixteen landings"
abbrev pub most_panels : ℕ
most_panels = 16

-- "three lent buffers hold the ROMs, schedules and logs, end to end in row order, by lengths kept with each panel": the first parts
-- begin where the buffers do
abbrev pub first_places : Places
first_places = record { rom = 0; schedule = 0; log = 0 }

-- and the next panel's parts behind those of this one
abbrev pub next_places : Places → Needs → Places
next_places at n = record { rom = at.rom + n.rom; schedule = at.schedule + n.schedule; log = at.log + n.log }

-- the wishes, in order of the row
unfoldable pub wishes_of : List Needs → List ℕ
wishes_of [] = []
wishes_of (n ∷ ns) = n.wish.0 ∷ wishes_of ns

-- What each panel has for a round: its grant, and where its parts begin. There are as many grants as panels.
unfoldable pub lots_from : Places → List ℕ → List Needs → List Lot
lots_from at gs [] = []
lots_from at [] (n ∷ ns) = []
lots_from at (g ∷ gs) (n ∷ ns) = record { grant = record { 0 = g }; at = at } ∷ lots_from (next_places at n) gs ns

abbrev pub lots_of : ℕ → List Needs → List Lot
lots_of t ns = lots_from first_places (grants t (wishes_of ns)) ns

-- "the lengths of a kind together"
unfoldable pub together : (Needs → ℕ) → List Needs → ℕ
together f [] = 0
together f (n ∷ ns) = f n + together f ns

-- they don't "exceed their buffer", which ends there
abbrev pub fits : Places → List Needs → Bool
fits ends ns =
    leb (together (λ n. n.rom) ns) ends.rom && leb (together (λ n. n.schedule) ns) ends.schedule
    && leb (together (λ n. n.log) ns) ends.log

-- where three buffers end
abbrev pub ends_of : (roms schedules logs : List ℕ) → Places
ends_of roms schedules logs = record { rom = length roms; schedule = length schedules; log = length logs }

-- "71, before all else" (R-11), the machine's own number; "61 more than sixteen panels; then 62 the lengths of a kind together exceed
-- their buffer"
unfoldable pub round_number : ℕ → Places → List Needs → ℕ
round_number own ends ns = first_of (own ∷ unless (leb (length ns) most_panels) 61 ∷ unless (fits ends ns) 62 ∷ [])
