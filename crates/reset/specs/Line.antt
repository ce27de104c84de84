-- What looking at the reset line comes to. Assumes nothing: these are definitions.
use Rattle.std.specs.Prelude.{ℕ, ◌+◌, ◌-◌, Bool, true, false, Option, Some, None, cond, List, ◌++◌, eqb, leb, length, take, drop, replicate}
use Rattle.upd546.specs.declared.Core.{Core}
use Rattle.upd546.specs.declared.Lines.{Lines}
use Rattle.upd546.specs.TheMachine.{latches, reset_count}
use Rattle.upd546.specs.Ports.{log_bytes}
use Rattle.upd546.specs.OneMachineCycle.{taken, counted, cleared, reset_writes}
use Rattle.reset.specs.declared.Looked.{Looked}

-- the bytes that the reset cycle n appends, where the count is this before it
abbrev pub records : (n count : ℕ) → List ℕ
records n count = log_bytes n (reset_writes count)

-- the log with w at its place
abbrev pub appended : List ℕ → (at : ℕ) → List ℕ → List ℕ
appended log at w = take at log ++ w ++ drop (at + length w) log

-- what is answered, and what stands in the lent latches and log
pub record Seen : Type 0 where
  pub full : Bool
  pub core : Core
  pub at : ℕ
  pub number : ℕ
  pub limit : ℕ
  pub count : ℕ
  pub ports : List ℕ
  pub log : List ℕ

-- where the log is full, the core, its place, the cycle, the limit and the count are those before
abbrev pub seen_of : Core → (at n limit count : ℕ) → Option Looked → (ports log : List ℕ) → Seen
seen_of core at n limit count None ports log = record { full = true; core = core; at = at; number = n; limit = limit; count = count; ports = ports; log = log }
seen_of core at n limit count (Some r) ports log = record {
  full = false;
  core = r.core;
  at = r.at;
  number = r.number;
  limit = r.limit;
  count = r.count;
  ports = ports;
  log = log;
}

module _ (core : Core) (ports log : List ℕ) (at : ℕ) (l : Lines) (n limit count : ℕ) where
  -- the reset cycles up to the limit
  abbrev pub reset_to : Seen
  reset_to = record {
    full = false;
    core = cleared (taken l core);
    at = at + length (records n count);
    number = limit;
    limit = limit;
    count = reset_count;
    ports = replicate latches 0;
    log = appended log at (records n count);
  }

  -- the first of them isn't begun
  abbrev pub reset_full : Seen
  reset_full = record { full = true; core = core; at = at; number = n; limit = limit; count = count; ports = ports; log = log }

  -- the next cycle is one of the steps a to d, and leaves this count
  abbrev pub ordinary_next : ℕ → Seen
  ordinary_next after = record { full = false; core = core; at = at; number = n; limit = n + 1; count = after; ports = ports; log = log }

  unfoldable pub looked_at : Seen
  looked_at =
      cond (eqb (counted l.res count) reset_count) (cond (leb (length (records n count)) (length log - at)) reset_to reset_full)
      (ordinary_next (counted l.res count))
