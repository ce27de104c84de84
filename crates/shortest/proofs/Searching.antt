-- Where the search stands before trial k: the trials before it failed, and the run is brought forward. Assumes nothing.
use mathlib.Core.Path.{◌≡◌, ◌∙◌, refl, sym, ap}
use mathlib.Core.Bool.{Bool, true, false}
use mathlib.Core.List.{List}
use Prim.Native.Nat.{ℕ, ◌+◌, ◌-◌, ◌<◌, ◌≤◌}
use native.Mathlib.Omega.{arith}
use lib.ListN.{length}
use Rattle.runs.specs.TwoRunners.{log_bound}
use Rattle.upd546.specs.declared.Sheet.{Sheet}
use Rattle.upd546.specs.declared.State.{State}
use Rattle.upd546.specs.TheLineSchedule.{record_count}
use Rattle.upd546.specs.TwoRunners.{chip}
use Rattle.shortest.specs.Search.{first_records, stops_with, trial_end, smallest_from, smallest}
use Rattle.shortest.specs.Tried.{Tryable, Stopping, KeptFrom}
use Rattle.shortest.proofs.Smallest as found
use Rattle.shortest.proofs.EveryAnswer.{test_of, starts}
use Rattle.shortest.proofs.Shared.{kept_on_lem, kept_next, kept_start}

module _ (sheet : Sheet) (rom sched : List ℕ) (s : State) (n number : ℕ) where
  pub record Searching (k : ℕ) (t : State) (left : ℕ) (log₀ log : List ℕ) : Type 0 where
    pub within : k ≤ record_count sched
    pub room : log_bound n ≤ length log₀
    pub long : length log ≡ length log₀
    pub kept : KeptFrom (chip sheet) rom sched s n k t left
    pub found : smallest (chip sheet) rom sched s n ≡ smallest_from (test_of sheet rom sched s n number) (record_count sched - k) k

  pub at_start : (log : List ℕ) → Stopping (chip sheet) rom sched s n log number → Searching 0 s n log log
  at_start log p = record {
    within = omega arith;
    room = p.ready.room;
    long = refl;
    kept = kept_start (chip sheet) rom sched s n p.ready.taken;
    found = starts sheet rom sched s n p.ready.taken number p.full;
  }

  -- the end of the search behind the last record
  pub at_end : (k : ℕ) (t : State) (left : ℕ) (log₀ log : List ℕ) → Searching k t left log₀ log → record_count sched ≤ k
      → k ≡ smallest (chip sheet) rom sched s n
  at_end k t left log₀ log w h = sym (w.found ∙ found.ends_behind (test_of sheet rom sched s n number) (record_count sched) k h)

  module _ (k : ℕ) (t : State) (left : ℕ) (log₀ log : List ℕ) (w : Searching k t left log₀ log) (more : k < record_count sched) where
    pub tryable : Tryable (chip sheet) rom sched t left log (k + 1)
    tryable = record {
      ready = record { taken = w.kept.taken; room = omega (arith, w.room, w.long, w.kept.fewer) };
      some = omega arith;
    }

    module _ (u : State) (rem : ℕ) (on : KeptFrom (chip sheet) rom sched t left k u rem) where
      further : KeptFrom (chip sheet) rom sched s n k u rem
      further = kept_on_lem (chip sheet) rom sched s n k t left u rem w.kept on

      pub tryable_on : (log' : List ℕ) → length log' ≡ length log → (j : ℕ) → j ≤ record_count sched → Tryable (chip sheet) rom sched u rem log' j
      tryable_on log' e j h = record {
        ready = record { taken = further.taken; room = omega (arith, w.room, w.long, further.fewer) };
        some = h;
      }

      -- the trial from there is trial k
      tells : (b : Bool) → b ≡ stops_with number (trial_end (chip sheet) rom u rem (first_records k sched)) → test_of sheet rom sched s n number k ≡ b
      tells b e = ap (stops_with number) (sym (further.same k (omega arith) w.within)) ∙ sym e

      pub is_found : true ≡ stops_with number (trial_end (chip sheet) rom u rem (first_records k sched)) → k ≡ smallest (chip sheet) rom sched s n
      is_found e = sym (w.found ∙ found.ends_at (test_of sheet rom sched s n number) (record_count sched) k more (tells true e))

      pub next : (log' : List ℕ) → length log' ≡ length log → false ≡ stops_with number (trial_end (chip sheet) rom u rem (first_records k sched))
          → Searching (k + 1) u rem log₀ log'
      next log' l e = record {
        within = omega arith;
        room = w.room;
        long = l ∙ w.long;
        kept = kept_next (chip sheet) rom sched s n k u rem further;
        found = w.found ∙ found.goes_on (test_of sheet rom sched s n number) (record_count sched) k more (tells false e);
      }
