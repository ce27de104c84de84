-- What a round carries from panel to panel: each panel is first noted, and then has its turn. `proofs/Courses` shows that this comes to
-- the numbers, grants and places of the definitions. Assumes nothing: these are definitions.
use Rattle.std.specs.Prelude.{ℕ, ◌+◌, ◌-◌, min, Bool, cond, ◌||◌, List, [], ◌∷◌, leb, ltb, eqb, length, take}
use Rattle.runs.specs.Refusals.{first_of, unless}
use Rattle.panels.specs.declared.Needs.{Needs}
use Rattle.panels.specs.declared.Places.{Places}
use Rattle.panels.specs.declared.Lot.{Lot}
use Rattle.panels.specs.declared.Course.{Course}
use Rattle.panels.specs.Grants.{first_share, more_of, grant_of, share_of}
use Rattle.panels.specs.Places.{most_panels, first_places}

-- the start of a round of m panels: 71, then 61, and with either no panel is gone through
unfoldable pub begin_of : (own m : ℕ) → Places → ℕ → Course
begin_of own m ends t =
    let k = first_of (own ∷ unless (leb m most_panels) 61 ∷ []) in
    record { count = cond (eqb k 0) m 0; share = share_of t m; left = t; at = first_places; ends = ends; number = k }

-- a place moved on by so many bytes, but not past the end of its buffer
abbrev pub past_of : (at k end : ℕ) → ℕ
past_of at k end = min (at + k) end

abbrev pub past_all : Places → Places → Needs → Places
past_all at ends n = record {
  rom = past_of at.rom n.rom ends.rom;
  schedule = past_of at.schedule n.schedule ends.schedule;
  log = past_of at.log n.log ends.log;
}

-- fewer bytes than that are left in one of the buffers
abbrev pub short_of : Places → Places → Needs → Bool
short_of at ends n =
    ltb (ends.rom - at.rom) n.rom || ltb (ends.schedule - at.schedule) n.schedule || ltb (ends.log - at.log) n.log

-- a panel is noted: its first share, its parts, and 62
unfoldable pub note_of : Course → Needs → Course
note_of c n = record {
  count = c.count;
  share = c.share;
  left = c.left - first_share c.share n.wish.0;
  at = past_all c.at c.ends n;
  ends = c.ends;
  number = cond (short_of c.at c.ends n) 62 c.number;
}

-- all are noted: with a number none has a turn
unfoldable pub plan_of : Course → Course
plan_of c = record {
  count = cond (eqb c.number 0) c.count 0;
  share = c.share;
  left = c.left;
  at = first_places;
  ends = c.ends;
  number = c.number;
}

-- what the panel whose turn it is has
unfoldable pub lot_of : Course → Needs → Lot
lot_of c n = record { grant = record { 0 = grant_of c.share c.left n.wish.0 }; at = c.at }

-- and what is carried on behind it, however its run ends
unfoldable pub after_of : Course → Needs → Course
after_of c n = record {
  count = c.count;
  share = c.share;
  left = c.left - more_of c.share c.left n.wish.0;
  at = past_all c.at c.ends n;
  ends = c.ends;
  number = c.number;
}

-- panels noted one after another
abbrev pub note_all : Course → List Needs → Course
note_all c [] = c
note_all c (n ∷ ns) = note_all (note_of c n) ns

-- and what they have when their turns come
abbrev pub handed : Course → List Needs → List Lot
handed c [] = []
handed c (n ∷ ns) = lot_of c n ∷ handed (after_of c n) ns

-- the course of a round before its first turn: begun, every panel that is gone through noted, and planned
abbrev pub planned_of : (own : ℕ) → Places → ℕ → List Needs → Course
planned_of own ends t ns = plan_of (note_all (begin_of own (length ns) ends t) (take (begin_of own (length ns) ends t).count ns))
