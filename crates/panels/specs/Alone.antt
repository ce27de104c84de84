-- Request R-9, what a round that isn't refused leaves of each panel: "the others may affect the grant, where its parts of the buffers lie
-- and whether 61 or 62 is given, and nothing else". `proofs/Alone` shows it. Assumes nothing: these are definitions.
use Rattle.std.specs.Prelude.{ℕ, ◌<◌, ◌≡◌, List, length, get_or, drop}
use Rattle.runs.specs.Machine.{Machine}
use Rattle.runs.specs.TwoRunners.{RunAnswer}
use Rattle.upd546.specs.declared.State.{State}
use Rattle.upd546.specs.Bytes.{part}
use Rattle.panels.specs.declared.Lot.{Lot}
use Rattle.panels.specs.declared.Panel.{Panel}
use Rattle.panels.specs.Places.{first_places, together, lots_of}
use Rattle.panels.specs.Round.{own_run, panel_after, needs_of, round_answer}

-- nothing, at the buffers' beginning
abbrev pub no_lot : Lot
no_lot = record { grant = record { 0 = 0 }; at = first_places }

module _ (M : Machine State) (ps : List Panel) (roms schedules logs : List ℕ) (t : ℕ) where
  -- what panel i has for the round: its grant, and where its parts lie
  abbrev pub lot_at : ℕ → Lot
  lot_at i = get_or (lots_of t (needs_of ps)) i no_lot

  -- its own run, on the buffers as they were lent
  abbrev pub run_at : ℕ → Panel → RunAnswer State
  run_at i p = own_run M roms schedules logs p.needs (lot_at i) p.state

  -- "A panel's state, log, counts and number after a round are those of its own timer-skipping run for its grant, and its wish and
  -- lengths stay"; its records stand in its part of the logs, whose other bytes stay, and so do the bytes past the last part.
  pub record EachAlone : Type 0 where
    pub as_many : length (round_answer M ps roms schedules logs t).panels ≡ length ps
    pub panel_alone : (i : ℕ) (d : Panel) → i < length ps
        → get_or (round_answer M ps roms schedules logs t).panels i d ≡ panel_after (get_or ps i d) (run_at i (get_or ps i d))
    pub log_alone : (i : ℕ) (d : Panel) → i < length ps
        → part (round_answer M ps roms schedules logs t).logs (lot_at i).at.log (get_or ps i d).needs.log ≡ (run_at i (get_or ps i d)).log
    pub own_bytes : (i : ℕ) (d : Panel) → i < length ps
        → drop (run_at i (get_or ps i d)).written (run_at i (get_or ps i d)).log
        ≡ drop (run_at i (get_or ps i d)).written (part logs (lot_at i).at.log (get_or ps i d).needs.log)
    pub rest_stays : drop (together (λ n. n.log) (needs_of ps)) (round_answer M ps roms schedules logs t).logs
        ≡ drop (together (λ n. n.log) (needs_of ps)) logs
