-- The theorems about logs and loads, each at variables. Assumes nothing.
use mathlib.Core.Path.{◌≡◌, ◌∙◌, refl, sym, ap}
use mathlib.Core.List.{List}
use Prim.Native.Nat.{ℕ, ◌<◌}
use native.Mathlib.Omega.{arith}
use Rattle.waiting.specs.declared.Carried.{Carried}
use Rattle.waiting.specs.declared.Reading.{Reading}
use Rattle.waiting.specs.WaitingTimes.{start_of_day, waiting_times}
use Rattle.waiting.specs.EveryLog.{lamps_lit, waits_of}
use Rattle.waiting.proofs.Growth.{carried_grown, can_read}
use Rattle.waiting.proofs.EveryLog.{every_rise_is_a_wait, read_on_as_joined, only_figures_draw_41, last_record_counts, reset_closes_all_waits, reset_has_value_zero}
use Rattle.waiting.proofs.EveryList.{reports_as_one_run}
use Rattle.switch_offs.proofs.EveryList.{every_list_reports_as_one_run}
use Rattle.switch_offs.proofs.EveryListOfCalls.{calls_report_as_one_run, every_list_of_calls_reports_as_one_run}
use Rattle.waits_text.proofs.Parts.{parts_read_as_one}
use Rattle.generator.proofs.EveryLoad.{every_schedule, every_rom, every_load, every_beginning}
use Rattle.witness.specs.EveryLog.{EveryDay, EveryCallDay, LogFacts}
use Rattle.witness.proofs.Waits.{each}

-- nobody has waited at the start of a day
none_yet : (i : ℕ) → i < 4 → waits_of start_of_day i ≡ 0
none_yet = each (λ i. waits_of start_of_day i ≡ 0) refl refl refl refl

-- what is carried where the report of a log is reached
waits_as : (log : List ℕ) (c : Carried) → record { number = 0; carried = c } ≡ waiting_times log start_of_day → (i : ℕ) → i < 4 → waits_of c i ≡ lamps_lit 0 i log
waits_as log c r i h =
    let number : (waiting_times log start_of_day).number ≡ 0 = sym (ap (λ (x : Reading). x.number) r) in
    let rise : waits_of (waiting_times log start_of_day).carried i ≡ lamps_lit 0 i log = omega (arith, every_rise_is_a_wait log start_of_day i h number, none_yet i h) in
    ap (λ (x : Reading). waits_of x.carried i) r ∙ rise

days : EveryDay
days sheet rom sched s calls p v m h =
    let r = every_list_reports_as_one_run sheet rom sched s calls p v m h in
    record { accepted = r.accepted; waits = waits_as _ _ r.report }

call_days : EveryCallDay
call_days sheet rom sched s calls p v m h =
    let r = every_list_of_calls_reports_as_one_run sheet rom sched s calls p v m h in
    record { accepted = r.accepted; waits = waits_as _ _ r.report }

pub facts : LogFacts
facts = record {
  logs = λ c log. record {
    rise = λ i. every_rise_is_a_wait log c i;
    read_on = λ more. read_on_as_joined log more c;
    draws_41 = only_figures_draw_41 log c;
    last = λ r. last_record_counts log r c;
    reset = reset_closes_all_waits log c;
    reset_value = reset_has_value_zero log c;
  };
  records = λ c. record {
    grows = λ base k r. carried_grown base k c r;
    four = λ k n g h p q. (can_read k n c g h p q).four;
    closes = λ k n g h p q i l. let w = (can_read k n c g h p q).each i l in (w.started, w.closed, w.cycles, w.now);
  };
  parts = parts_read_as_one;
  days = days;
  any_days = λ M. reports_as_one_run M;
  call_days = call_days;
  any_call_days = λ M. calls_report_as_one_run M;
  seeds = λ seed seed'. record {
    accepted = λ m h. (every_schedule seed m h).by_the_check;
    never = λ m h rom s n.
        let a = every_schedule seed m h in
        (a.never_12 rom s n, a.never_11 rom s n, a.never_13 rom s n, a.never_14 rom s n);
    taken = λ m h. (every_schedule seed m h).accepted;
    rom = every_rom seed;
    panel = every_load seed seed';
    begins = every_beginning seed;
  };
}
