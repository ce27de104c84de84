-- The figures of a run's log, from the theorems about it. Assumes nothing.
use mathlib.Core.Path.{◌≡◌, refl, sym, ap, subst}
use mathlib.Core.List.{List, ◌++◌}
use Prim.Native.Nat.{ℕ, zero, suc, ◌*◌, ◌/◌, ◌%◌, ◌<◌, ◌≤◌}
use native.Mathlib.Omega.{arith}
use lib.Dec.{lit<, lit≤}
use lib.ListN.{length, take, replicate}
use Rattle.runs.specs.Laws.{Bytes}
use Rattle.runs.specs.Lists.{plain_one, skipping_one, run_answer}
use Rattle.upd546.specs.TheMachine.{fresh}
use Rattle.upd546.specs.TheSheet.{upd546_sheet}
use Rattle.upd546.specs.Ports.{Write}
use Rattle.upd546.specs.TwoRunners.{upd546}
use Rattle.laws.specs.Writes.{Logged, write, reset}
use Rattle.laws.specs.Records.{Records, empty, also}
use Rattle.laws.proofs.Lists.{below_all}
use Rattle.laws.proofs.Records.{every_run_writes_records}
use Rattle.driver.proofs.Tail.{log_grows}
use Rattle.witness.specs.Calls.{rom, sched, back, wanted_log}
use Rattle.witness.specs.Records.{entries_in, InOrder, LogFigures}
use Rattle.witness.proofs.Opened.{opened}
use Rattle.witness.proofs.Calls as calls

-- what a record of the log has, of a write and of a reset
reset_value : {w : Write} → Logged w → w.port ≡ 0 → w.value ≡ 0
reset_value (write v) e = absurd (omega (arith, v.first))
reset_value (reset p z) e = z

from_c : {w : Write} → Logged w → (w.port ≡ 0 → ⊥) → 2 ≤ w.port
from_c (write v) h = v.first
from_c (reset p z) h = absurd (h p)

to_i : {w : Write} → Logged w → w.port ≤ 8
to_i (write v) = v.last
to_i (reset p z) = omega arith

small : {w : Write} → Logged w → w.value < 16
small (write v) = v.value
small (reset p z) = omega arith

narrow : {w : Write} → Logged w → w.port ≡ 8 → w.value < 8
narrow (write v) e = v.narrow e
narrow (reset p z) e = omega arith

in_order : {first end : ℕ} {log : List ℕ} → Records first end log → end ≤ 256 → (k : ℕ) → 8 * k ≤ length log → InOrder first end (entries_in k log)
in_order r h zero l = tt
in_order empty h (suc k) l = absurd (omega arith)
in_order {first = first} {end = end} (also {log = log} n w from below v r) h (suc k) l =
    let low : n / 1 % 256 ≡ n = omega arith in (
      record {
        not_before = omega arith;
        before_end = omega arith;
        reset = reset_value v;
        from_port_c = from_c v;
        to_port_i = to_i v;
        value = small v;
        value_of_i = narrow v;
      },
      subst (λ (c : ℕ). InOrder c end (entries_in k log)) (sym low) (in_order {first = n} r h k (omega arith)),
    )

pub figures : LogFigures
unfolding opened
figures =
    let rom_bytes : Bytes rom = below_all 256 rom (lit< tt) refl in
    let sched_bytes : Bytes sched = below_all 256 sched (lit< tt) refl in
    record {
      entries = λ kind. ap (entries_in 7) ((calls.figures).call kind).log;
      in_order =
          in_order (every_run_writes_records upd546_sheet plain_one rom sched fresh (replicate 224 0) 14 rom_bytes sched_bytes)
          (lit≤ tt) 7 (lit≤ tt);
      in_order_from_1 =
          in_order (every_run_writes_records upd546_sheet skipping_one rom sched back (replicate 48 0) 3 rom_bytes sched_bytes)
          (lit≤ tt) 1 (lit≤ tt);
      day = log_grows 16 (take 16 wanted_log ++ replicate 48 0) (run_answer upd546 skipping_one rom sched back (replicate 48 0) 3) (lit≤ tt);
    }
