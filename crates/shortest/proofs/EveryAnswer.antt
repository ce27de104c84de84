-- Every answer is the shortest, with the errors in their order; no trial stops with 3. Assumes nothing.
use mathlib.Core.Path.{◌≡◌, ◌∙◌, refl, sym, ap, subst}
use mathlib.Core.Bool.{Bool, true, false, true≢false}
use mathlib.Core.List.{List}
use mathlib.Core.Logic.{⊎_elim}
use mathlib.Core.Option.{Option, none, some}
use Prim.Native.Nat.{ℕ, ◌-◌, ◌*◌}
use native.Mathlib.Nat.{eq-or-lt_of_le, sub-zero}
use native.Mathlib.Omega.{arith}
use lib.Dec.{leb}
use lib.ListN.{length}
use lib.Seq.{take_all}
use borrow.Author.Tests.{eqb-true, eqb-false, leb-true, leb-false}
use Rattle.runs.specs.Machine.{Machine}
use Rattle.runs.specs.Lists.{plain_one}
use Rattle.runs.specs.TwoRunners.{End, finished, stopped, refused, number_of_end, end_with, unbroken, within, run_number, plain}
use Rattle.runs.proofs.Cut.{stands}
use Rattle.runs.proofs.Calls.{run_fit}
use Rattle.upd546.specs.declared.Sheet.{Sheet}
use Rattle.upd546.specs.declared.State.{State}
use Rattle.upd546.specs.TheLineSchedule.{record_length, record_count}
use Rattle.upd546.specs.TwoRunners.{chip}
use Rattle.laws.proofs.Stops.{stop_number}
use Rattle.laws.proofs.Lines.{panel_schedule}
use Rattle.shortest.specs.Search.{first_records, stops_with, Found, trial_end, smallest_from, smallest}
use Rattle.shortest.specs.EveryAnswer.{FinishesOrStopsOtherwise, NeverThree, EveryTrial, IsShortest, EveryAnswerIsShortest, NoTrialStopsWithThree}
use Rattle.shortest.proofs.FirstRecords.{all_records}
use Rattle.shortest.proofs.Smallest.{Smallest, smallest_is}
use Rattle.shortest.proofs.Order.{untried_refused, untried_short, untried_none, answer_untried, answer_finishes, answer_stops}
use Rattle.shortest.proofs.Ends.{on_log, run_kept, Sound, sound, sound_first, runs_end}

stops_with_lem : (number : ℕ) (e : End) → stops_with number e ≡ true → e ≡ stopped number
stops_with_lem number finished q = absurd (true≢false (sym q))
stops_with_lem number (stopped k) q = ap stopped (eqb-true k number q)
stops_with_lem number (refused k) q = absurd (true≢false (sym q))

-- how a run ends that isn't refused
not_refused_is : {S : Type 0} (M : Machine S) (rom kept : List ℕ) (s : S) (log : List ℕ) (n : ℕ) → run_number M rom kept s n ≡ 0
    → (plain M rom kept s log n).end ≡ end_with (within M rom kept (length log) n s).number
unfolding plain
not_refused_is M rom kept s log n e = rw e

otherwise : (number : ℕ) (o : Option ℕ) (e : End) → e ≡ end_with o → stops_with number e ≡ false → FinishesOrStopsOtherwise number e
otherwise number none e q h = rw q tt
otherwise number (some k) e q h = rw q (eqb-false k number (rw q at h))

-- the test of k
abbrev pub test_of : Sheet → (rom sched : List ℕ) → State → ℕ → ℕ → ℕ → Bool
test_of sheet rom sched s n number k = stops_with number (trial_end (chip sheet) rom s n (first_records k sched))

module _ (sheet : Sheet) (rom sched : List ℕ) (s : State) (n : ℕ) (taken : run_number (chip sheet) rom sched s n ≡ 0) (number : ℕ)
    (full : trial_end (chip sheet) rom s n sched ≡ stopped number) where
  -- the search by the number of the full run
  pub by_number : smallest (chip sheet) rom sched s n ≡ smallest_from (test_of sheet rom sched s n number) (record_count sched) 0
  unfolding smallest
  by_number = ap (λ (j : ℕ). smallest_from (λ k. stops_with j (trial_end (chip sheet) rom s n (first_records k sched))) (record_count sched) 0) (ap number_of_end full)

  -- before any trial
  pub starts : smallest (chip sheet) rom sched s n ≡ smallest_from (test_of sheet rom sched s n number) (record_count sched - 0) 0
  starts = by_number ∙ ap (λ (tries : ℕ). smallest_from (test_of sheet rom sched s n number) tries 0) (sym (sub-zero (record_count sched)))

  all_stop : trial_end (chip sheet) rom s n (first_records (record_count sched) sched) ≡ stopped number
  all_stop =
      ap (trial_end (chip sheet) rom s n) (all_records sched (panel_schedule sheet rom sched (run_fit (chip sheet) rom sched s n taken).panel))
      ∙ full

  module _ (k : ℕ) (found : Smallest (test_of sheet rom sched s n number) (record_count sched) 0 k) where
    stops_there : trial_end (chip sheet) rom s n (first_records k sched) ≡ stopped number
    stops_there =
        ⊎_elim
        (λ e. ap (λ (j : ℕ). trial_end (chip sheet) rom s n (first_records j sched)) e ∙ all_stop)
        (λ l. stops_with_lem number _ (found.at (omega arith)))
        (eq-or-lt_of_le {n = k} {m = record_count sched} (omega (arith, found.to)))

    pub is_shortest : IsShortest (chip sheet) rom sched s n number k
    is_shortest = record {
      records = omega (arith, found.to);
      full = λ log e. on_log (chip sheet) rom sched s n log e ∙ full;
      itself = λ log e. on_log (chip sheet) rom (first_records k sched) s n log e ∙ stops_there;
      smaller = λ j l log e.
          let kept = first_records j sched in
          otherwise number (within (chip sheet) rom kept (length log) n s).number _
          (not_refused_is (chip sheet) rom kept s log n (run_kept sheet rom sched j (omega (arith, found.to)) s n taken))
          (ap (stops_with number) (on_log (chip sheet) rom kept s n log e) ∙ found.before j (omega arith) l);
    }

-- R-12
pub every_answer_is_shortest : EveryAnswerIsShortest
every_answer_is_shortest sheet rom sched s n log = record {
  refuses = λ k e. answer_untried (chip sheet) rom sched s n log k (untried_refused (chip sheet) rom sched s n log k e);
  short = λ e h. answer_untried (chip sheet) rom sched s n log 80 (untried_short (chip sheet) rom sched s n log e h);
  ends = λ e h lent l q.
      answer_finishes (chip sheet) rom sched s n log (untried_none (chip sheet) rom sched s n log e h)
      (sym (on_log (chip sheet) rom sched s n lent l) ∙ q);
  stops = λ e h lent number l q.
      let full = sym (on_log (chip sheet) rom sched s n lent l) ∙ q in
      let a = answer_stops (chip sheet) rom sched s n log (untried_none (chip sheet) rom sched s n log e h) number full in (
        ap (λ (f : Found). f.number) a,
        subst (IsShortest (chip sheet) rom sched s n number) (sym (ap (λ (f : Found). f.records) a ∙ by_number sheet rom sched s n e number full))
            (is_shortest sheet rom sched s n e number full _ (smallest_is (test_of sheet rom sched s n number) (record_count sched) 0)),
      );
}

-- with 16n bytes n cycles stop with no number but the cycle's own
never_three : (sheet : Sheet) (rom kept : List ℕ) (s : State) (n : ℕ) → Sound sheet rom kept s n → EveryTrial (chip sheet) rom kept s n kept NeverThree
never_three sheet rom kept s n w log e =
    rw (runs_end sheet rom kept s n w plain_one log (omega arith)) (go (unbroken (chip sheet) rom kept n s).number refl)
  where
    go : (o : Option ℕ) → (unbroken (chip sheet) rom kept n s).number ≡ o → NeverThree (end_with o)
    go none q = tt
    go (some k) q = stop_number sheet rom kept _ k (stands (chip sheet) rom kept n s k q)

-- and so no trial stops with 3; past the number of records all of them are tried
pub no_trial_stops_with_three : NoTrialStopsWithThree
no_trial_stops_with_three sheet rom sched s n k br bs e =
    let w = sound sheet rom sched s n br bs e in
    (never_three sheet rom sched s n w, λ log l. go (leb k (record_count sched)) refl w log l)
  where
    go : (t : Bool) → leb k (record_count sched) ≡ t → Sound sheet rom sched s n → EveryTrial (chip sheet) rom sched s n (first_records k sched) NeverThree
    go true q w = never_three sheet rom (first_records k sched) s n (sound_first sheet rom sched s n k (leb-true k (record_count sched) q) w)
    go false q w =
        let more = leb-false k (record_count sched) q in
        let all : first_records k sched ≡ sched = take_all (record_length * k) sched (omega arith) in
        rw all (never_three sheet rom sched s n w)
