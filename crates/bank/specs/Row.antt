-- Request R-9: a round of the first panels of a row of sixteen that is given by value. Assumes nothing: these are definitions.
use Rattle.std.specs.Prelude.{ℕ, cond, List, [], ◌∷◌, ◌++◌, leb, take, drop}
use Rattle.runs.specs.Machine.{Machine}
use Rattle.runs.specs.Refusals.{first_of}
use Rattle.upd546.specs.declared.State.{State}
use Rattle.panels.specs.declared.Panel.{Panel}
use Rattle.panels.specs.Places.{most_panels}
use Rattle.panels.specs.Round.{RoundAnswer, round_answer}

-- what a round leaves, and then the panels that take no part
abbrev pub besides : List Panel → RoundAnswer → RoundAnswer
besides rest a = record { panels = a.panels ++ rest; logs = a.logs; number = a.number }

-- A round of the first `count` of them; more than there are is 71 or "61 more than sixteen panels", which "change nothing".
unfoldable pub row_answer : Machine State → List Panel → (count : ℕ) → (roms schedules logs : List ℕ) → ℕ → RoundAnswer
row_answer M row count roms schedules logs t =
    cond (leb count most_panels)
    (besides (drop count row) (round_answer M (take count row) roms schedules logs t))
    (record { panels = row; logs = logs; number = first_of (M.own_number ∷ 61 ∷ []) })
