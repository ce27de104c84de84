-- How a run ends that is lent 16n bytes: as n cycles do, by either runner, whatever stands in the log. Assumes nothing.
use mathlib.Core.Path.{◌≡◌, ◌∙◌, refl, sym, ap}
use mathlib.Core.Bool.{Bool, true, false}
use mathlib.Core.List.{List}
use Prim.Native.Nat.{ℕ, zero, suc, ◌+◌, ◌*◌, ◌<◌, ◌≤◌}
use native.Mathlib.Omega.{arith}
use lib.Dec.{ltb}
use lib.ListN.{length, get_or, replicate, length-replicate, length-take, get_or-eq_default}
use lib.Seq.{get_or-take}
use borrow.Author.Tests.{ltb-true, ltb-false}
use Rattle.runs.specs.Machine.{Machine}
use Rattle.runs.specs.Laws.{Bytes, Panel}
use Rattle.runs.specs.Lists.{Kind, plain_one, run_answer}
use Rattle.runs.specs.Refusals.{cycle_limit}
use Rattle.runs.specs.TwoRunners.{log_bound, Stepped, end_with, unbroken, within, stepwise, run_number, told, plain}
use Rattle.runs.proofs.Refusals.{first_at, first_past, last_one}
use Rattle.runs.proofs.Calls.{run_fit, fit_run, run_same}
use Rattle.upd546.specs.declared.Sheet.{Sheet}
use Rattle.upd546.specs.declared.State.{State}
use Rattle.upd546.specs.TheLineSchedule.{record_length, record_count, schedule_number}
use Rattle.upd546.specs.TwoRunners.{panel_number, chip}
use Rattle.laws.proofs.Demand3.{laws}
use Rattle.shortest.specs.Search.{first_records, trial_end}
use Rattle.shortest.proofs.FirstRecords.{first_accepted}

-- what stands in the log plays no part
pub end_by-length : {S : Type 0} (M : Machine S) (rom kept : List ℕ) (s : S) (n : ℕ) (log log' : List ℕ) → length log ≡ length log'
    → (plain M rom kept s log n).end ≡ (plain M rom kept s log' n).end
unfolding plain
end_by-length {S} M rom kept s n log log' e =
    same (run_number M rom kept s n) (stepwise M (within M rom kept (length log) n s))
    ∙ ap (λ (l : ℕ). (told M (run_number M rom kept s n) (stepwise M (within M rom kept l n s)) s log').end) e
  where
    same : (k : ℕ) (q : Stepped S) → (told M k q s log).end ≡ (told M k q s log').end
    same zero q = refl
    same (suc k) q = refl

pub on_log : {S : Type 0} (M : Machine S) (rom kept : List ℕ) (s : S) (n : ℕ) (log : List ℕ) → length log ≡ log_bound n
    → (plain M rom kept s log n).end ≡ trial_end M rom s n kept
unfolding trial_end
on_log M rom kept s n log e = end_by-length M rom kept s n log (replicate (log_bound n) 0) (e ∙ sym (length-replicate {A = ℕ} (log_bound n) 0))

-- a panel with only the first records is a panel
module _ (sheet : Sheet) (rom sched : List ℕ) (k : ℕ) (h : k ≤ record_count sched) where
  pub bytes_kept : Bytes sched → Bytes (first_records k sched)
  bytes_kept b i = go (ltb i (record_length * k)) refl
    where
      go : (t : Bool) → ltb i (record_length * k) ≡ t → get_or (first_records k sched) i 0 < 256
      go true e = let l = ltb-true i (record_length * k) e in omega (arith, get_or-take (record_length * k) sched i 0 l, b i)
      go false e =
          let l = ltb-false i (record_length * k) e in
          let past : length (first_records k sched) ≤ i = omega (arith, length-take (record_length * k) sched) in
          omega (arith, get_or-eq_default (first_records k sched) 0 past)

  pub panel_kept : panel_number sheet rom sched ≡ 0 → panel_number sheet rom (first_records k sched) ≡ 0
  unfolding panel_number
  panel_kept e =
      let z = first_at _ e in
      first_past _ _ (z 0) ∙ last_one (schedule_number (first_records k sched)) ∙ first_accepted sched k (omega arith) (z 1)

  -- and its run isn't refused
  pub run_kept : (s : State) (n : ℕ) → run_number (chip sheet) rom sched s n ≡ 0 → run_number (chip sheet) rom (first_records k sched) s n ≡ 0
  run_kept s n e =
      let f = run_fit (chip sheet) rom sched s n e in
      fit_run (chip sheet) rom (first_records k sched) s n
      (record { legal = f.legal; panel = panel_kept f.panel; state = f.state; limit = f.limit })

-- a run that isn't refused, on bytes
pub record Sound (sheet : Sheet) (rom sched : List ℕ) (s : State) (n : ℕ) : Type 0 where
  pub panel : Panel (chip sheet) rom sched
  pub state : (chip sheet).state_number s ≡ 0
  pub limit : s.cycle.0 + n ≤ cycle_limit

pub sound : (sheet : Sheet) (rom sched : List ℕ) (s : State) (n : ℕ) → Bytes rom → Bytes sched → run_number (chip sheet) rom sched s n ≡ 0
    → Sound sheet rom sched s n
sound sheet rom sched s n br bs e =
    let f = run_fit (chip sheet) rom sched s n e in
    record {
      panel = record { legal = f.legal; rom_bytes = br; sched_bytes = bs; not_refused_is = f.panel };
      state = f.state;
      limit = f.limit;
    }

pub sound_first : (sheet : Sheet) (rom sched : List ℕ) (s : State) (n k : ℕ) → k ≤ record_count sched → Sound sheet rom sched s n
    → Sound sheet rom (first_records k sched) s n
sound_first sheet rom sched s n k h w = record {
  panel = record {
    legal = w.panel.legal;
    rom_bytes = w.panel.rom_bytes;
    sched_bytes = bytes_kept sheet rom sched k h w.panel.sched_bytes;
    not_refused_is = panel_kept sheet rom sched k h w.panel.not_refused_is;
  };
  state = w.state;
  limit = w.limit;
}

module _ (sheet : Sheet) (rom kept : List ℕ) (s : State) (n : ℕ) (w : Sound sheet rom kept s n) where
  -- with 16n bytes either runner ends as n cycles do
  pub runs_end : (kind : Kind) (log : List ℕ) → log_bound n ≤ length log
      → (run_answer (chip sheet) kind rom kept s log n).end ≡ end_with (unbroken (chip sheet) rom kept n s).number
  runs_end kind log room =
      (run_same (chip sheet) (laws sheet w.panel.legal) kind rom kept s log n w.panel w.state w.limit room).end

  pub trial_ends : trial_end (chip sheet) rom s n kept ≡ end_with (unbroken (chip sheet) rom kept n s).number
  unfolding trial_end
  trial_ends = runs_end plain_one (replicate (log_bound n) 0) (omega (arith, length-replicate {A = ℕ} (log_bound n) 0))

  -- so a runner that is lent as much ends as the trial
  pub as_trial : (kind : Kind) (log : List ℕ) → log_bound n ≤ length log
      → (run_answer (chip sheet) kind rom kept s log n).end ≡ trial_end (chip sheet) rom s n kept
  as_trial kind log room = runs_end kind log room ∙ sym trial_ends
