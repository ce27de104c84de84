-- A day's log, lent from its write place on. Assumes nothing.
use mathlib.Core.Path.{◌≡◌, ◌∙◌, sym, ap}
use mathlib.Core.List.{List, ◌++◌}
use Prim.Native.Nat.{ℕ, ◌+◌, ◌≤◌}
use native.Mathlib.Omega.{arith}
use lib.ListN.{length, take, length-take}
use lib.Seq.{take-append-add}
use Rattle.runs.specs.TwoRunners.{RunAnswer}
use Rattle.runs.specs.Lists.{run_log}
use Rattle.upd546.specs.declared.State.{State}
use Rattle.driver.specs.Lending.{kept_before}

-- A DAY'S LOG: up to its new write place the log is what stood before the old one, and then what the run wrote. So a log that is lent
-- from its write place on, slice after slice, holds the joined log.
pub log_grows : (at : ℕ) (log : List ℕ) (a : RunAnswer State) → at ≤ length log
    → take (at + a.written) (kept_before at log a).log ≡ take at log ++ run_log a
log_grows at log a h =
    let front : length (take at log) ≡ at = omega (arith, length-take at log) in
    ap (λ (k : ℕ). take (k + a.written) (take at log ++ a.log)) (sym front) ∙ take-append-add (take at log) a.log a.written
