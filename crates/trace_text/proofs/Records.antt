-- The log of a run can be written as lines: its records have ports C to I, or that of a reset, and values of 4 bits. Assumes nothing.
use mathlib.Core.Path.{◌≡◌, subst}
use mathlib.Core.List.{List, ◌++◌}
use Prim.Native.Nat.{ℕ, zero, suc, ◌+◌, ◌*◌, ◌<◌, ◌≤◌}
use native.Mathlib.Omega.{arith}
use lib.ListN.{length, get_or, take, drop, length-append, length-take, take-append-drop}
use Rattle.runs.specs.TwoRunners.{RunAnswer, Ran, within, run_number, told, stepwise, plain}
use Rattle.runs.specs.Laws.{Bytes}
use Rattle.runs.specs.Lists.{plain_one}
use Rattle.upd546.specs.declared.State.{State}
use Rattle.upd546.specs.TheSheet.{upd546_sheet}
use Rattle.upd546.specs.Ports.{port_i}
use Rattle.upd546.specs.TwoRunners.{upd546}
use Rattle.laws.specs.Records.{Records}
use Rattle.laws.proofs.Records.{port_at, value_at, every_run_writes_records}
use Rattle.trace_text.specs.declared.Ended.{Ended}
use Rattle.trace_text.specs.Records.{Recorded}
use Rattle.trace_text.specs.Texts.{TellsRun}

-- so many bytes of a log that are records
record_log : {a b : ℕ} (written : ℕ) (log : List ℕ) → written ≤ length log → Records a b (take written log) → Recorded written log
record_log written log h p = record {
  within = h;
  legible = record {
    port = λ i k. subst (λ (l : List ℕ). get_or l (8 * i + 6) 0 ≤ port_i) whole (port_at p rest i (inside i (omega (arith, k))));
    value = λ i k. subst (λ (l : List ℕ). get_or l (8 * i + 7) 0 < 16) whole (value_at p rest i (inside i (omega (arith, k))));
  };
}
  where
    rest : List ℕ
    rest = drop written log

    whole : take written log ++ rest ≡ log
    whole = take-append-drop written log

    inside : (i : ℕ) → 8 * i + 7 < written → 8 * i + 7 < length (take written log)
    inside i k = omega (arith, k, length-take written log, h)

module _ (rom sched : List ℕ) (br : Bytes rom) (bs : Bytes sched) (s : State) (log : List ℕ) (n : ℕ) where
  fits : (plain upd546 rom sched s log n).written ≤ length (plain upd546 rom sched s log n).log
  unfolding plain
  fits = go (run_number upd546 rom sched s n)
    where
      r : Ran State
      r = within upd546 rom sched (length log) n s

      go : (k : ℕ) → (told upd546 k (stepwise upd546 r) s log).written ≤ length (told upd546 k (stepwise upd546 r) s log).log
      go zero = omega (arith, length-append r.bytes (drop (length r.bytes) log))
      go (suc k) = omega arith

  pub recorded : Recorded (plain upd546 rom sched s log n).written (plain upd546 rom sched s log n).log
  recorded = record_log _ _ fits (every_run_writes_records upd546_sheet plain_one rom sched s log n br bs)

-- the same of what a call tells of a run
pub by_end : {b : RunAnswer State} {ended : Ended} {log' : List ℕ} → TellsRun b ended log' → Recorded b.written b.log → Recorded ended.written log'
by_end e p = rw (e.written, e.same_log) p
