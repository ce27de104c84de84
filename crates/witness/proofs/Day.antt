-- Two slices by actual calls, each by the contracts of its calls; and both, by the theorem about lists, one unbroken run. Assumes nothing.
use mathlib.Core.Path.{◌≡◌, ◌∙◌, refl, sym, ap, subst}
use mathlib.Core.List.{List, [], ◌∷◌, ◌++◌, append-nil}
use Prim.Native.Nat.{ℕ, ◌+◌, ◌≤◌}
use native.Mathlib.Omega.{arith}
use lib.ListN.{length, take, drop, length-drop}
use lib.Seq.{take_all}
use Rattle.std.specs.Prelude.{Result}
use Rattle.runs.specs.declared.Refusal.{Refusal}
use Rattle.runs.specs.declared.Version.TheVariants.{Two}
use Rattle.runs.specs.Numbers.{end_of}
use Rattle.runs.specs.TwoRunners.{RunAnswer, SaveAnswer, RestoreAnswer, log_bound, unbroken, save_answer, restore_answer}
use Rattle.runs.specs.Laws.{Bytes, Panel}
use Rattle.runs.specs.Lists.{plain_one, skipping_one, Call, run, save, restore, sheet_of, Each, keep, refusal_of, run_answer, refusal, not_refused, WrittenBy, Lent, AllGet}
use Rattle.runs.specs.Lists.{run_log, asked, EndsAs}
use Rattle.runs.proofs.Calls.{Fit, run_fit, by_number, run_same}
use Rattle.upd546.specs.declared.State.{State}
use Rattle.upd546.specs.declared.Sheet.{Sheet}
use Rattle.upd546.specs.declared.RestoreAnswer.{RestoreAnswer as Restored}
use Rattle.upd546.specs.TwoRunners.{chip, save_of, restore_of}
use Rattle.laws.proofs.Chip.{bytes_bound}
use Rattle.laws.proofs.Demand3.{laws, every_list}
use Rattle.driver.specs.declared.KeptMachine.{KeptMachine}
use Rattle.driver.specs.declared.Report.{Report}
use Rattle.driver.specs.Lending.{brought_to, kept_before}
use Rattle.driver.proofs.Tail.{log_grows}
use Rattle.witness.specs.declared.SliceEnd.{SliceEnd}
use Rattle.witness.specs.Day.{buffer, image_in, SliceOf, OneSlice, NoneRefused, EndsAsRun}

-- ONE SLICE, where the run answers a: what driver, save and restore answer makes it up
pub slice_of : (sheet : Sheet) (a : RunAnswer State) (log log' : List ℕ) (at : ℕ) (report : Report) (machine : KeptMachine)
    (saved : Result (Unit {0}) Refusal) (bytes : List ℕ) (back : Restored)
    → brought_to report machine log' ≡ kept_before at log a → length bytes ≡ 82
    → save_of saved bytes ≡ save_answer (chip sheet) Two machine.state buffer
    → restore_of back ≡ restore_answer (chip sheet) bytes → length log' ≡ length log
    → SliceOf sheet a log at (record { report = report; saved = saved; restored = back.outcome; state = back.state }) log'
slice_of sheet a log log' at report machine saved bytes back ran len put got same =
    let state_is : machine.state ≡ a.state = ap (λ (x : RunAnswer State). x.state) ran in
    let put' : save_of saved bytes ≡ save_answer (chip sheet) Two a.state buffer
    = put ∙ ap (λ (t : State). save_answer (chip sheet) Two t buffer) state_is in
    let whole : bytes ≡ image_in sheet a.state
    = sym (take_all 82 bytes (omega (arith, len))) ∙ ap (λ (x : SaveAnswer). take 82 x.buffer) put' in
    let got' : restore_of back ≡ restore_answer (chip sheet) (image_in sheet a.state) = got ∙ ap (restore_answer (chip sheet)) whole in
    record {
      report = sym (ap (λ (t : State). brought_to report (record { state = t }) log') state_is) ∙ ran;
      saved = ap (λ (x : SaveAnswer). x.number) put';
      restored = ap (λ (x : RestoreAnswer State). x.number) got';
      state = ap (λ (x : RestoreAnswer State). x.state) got';
      same_length = same;
    }

-- calls that aren't refused
none_dropped : (cs : List (Call Sheet State)) → Each (λ c. refusal chip c ≡ 0) cs → not_refused chip cs ≡ cs
none_dropped [] e = refl
none_dropped (c ∷ cs) e = λ i. keep (e.0 i) c (none_dropped cs e.1 i)

-- TWO SLICES
module _ (sheet : Sheet) (rom sched : List ℕ) (br : Bytes rom) (bs : Bytes sched) (s : State) (log between log' : List ℕ) (n m : ℕ)
    (r q : SliceEnd)
    (one : OneSlice sheet plain_one rom sched s log 0 n r between)
    (two : OneSlice sheet skipping_one rom sched r.state between r.report.written m q log')
    (none₁ : NoneRefused r) (none₂ : NoneRefused q) (room : log_bound n + log_bound m ≤ length log) where
  abbrev a : RunAnswer State
  a = run_answer (chip sheet) plain_one rom sched s log n

  abbrev rest : List ℕ
  rest = drop r.report.written between

  abbrev b : RunAnswer State
  b = run_answer (chip sheet) skipping_one rom sched r.state rest m

  -- the six calls
  abbrev cs : List (Call Sheet State)
  cs =
      run plain_one rom sched s log n sheet
      ∷ save Two a.state buffer sheet
      ∷ restore (image_in sheet a.state) sheet
      ∷ run skipping_one rom sched r.state rest m sheet
      ∷ save Two b.state buffer sheet
      ∷ restore (image_in sheet b.state) sheet
      ∷ []

  taken : Each (λ c. refusal chip c ≡ 0) cs
  taken =
      let run₁ : refusal_of a.end ≡ 0 = sym (ap (λ (x : RunAnswer State). refusal_of x.end) one.report) ∙ none₁.run in
      let run₂ : refusal_of b.end ≡ 0 = sym (ap (λ (x : RunAnswer State). refusal_of x.end) two.report) ∙ none₂.run in
      let save₁ = sym one.saved ∙ none₁.save in
      let save₂ = sym two.saved ∙ none₂.save in
      (run₁, (save₁, (sym one.restored ∙ none₁.restore, (run₂, (save₂, (sym two.restored ∙ none₂.restore, tt))))))

  fit : Fit (chip sheet) rom sched s n
  fit = run_fit (chip sheet) rom sched s n (sym (by_number chip (run plain_one rom sched s log n sheet)) ∙ taken.0)

  panel : Panel (chip sheet) rom sched
  panel = record { legal = fit.legal; rom_bytes = br; sched_bytes = bs; not_refused_is = fit.panel }

  -- the first run leaves room for the second
  small : r.report.written ≤ log_bound n
  small =
      let same = run_same (chip sheet) (laws sheet fit.legal) plain_one rom sched s log n panel fit.state fit.limit (omega arith) in
      omega (
        arith,
        ap (λ (x : RunAnswer State). x.written) one.report,
        same.written,
        bytes_bound sheet rom sched n s panel fit.state fit.limit,
      )

  given : AllGet chip sheet rom sched s cs
  given =
      let left : log_bound m ≤ length rest = omega (arith, length-drop r.report.written between, small, one.same_length) in
      let lent₁ : Lent rom sched s rom sched s log n
      = record { same_rom = refl; same_sched = refl; same_state = refl; room = omega arith } in
      let lent₂ : Lent rom sched (restore_answer (chip sheet) (image_in sheet a.state)).state rom sched r.state rest m
      = record { same_rom = refl; same_sched = refl; same_state = one.state; room = left } in
      let wrote₁ : WrittenBy (chip sheet) a.state (image_in sheet a.state)
      = record { version = Two; buffer = buffer; done = taken.1.0; same = refl } in
      let wrote₂ : WrittenBy (chip sheet) b.state (image_in sheet b.state)
      = record { version = Two; buffer = buffer; done = taken.1.1.1.1.0; same = refl } in
      (lent₁, (refl, (wrote₁, (lent₂, (refl, (wrote₂, tt))))))

  -- THE THEOREM ABOUT LISTS, of the six calls
  ends : EndsAs chip sheet s cs (unbroken (chip sheet) rom sched (n + m) s)
  ends =
      let all : not_refused chip cs ≡ cs = none_dropped cs taken in
      let asks : n + (m + 0) ≡ n + m = omega arith in
      subst (λ (j : ℕ). EndsAs chip sheet s cs (unbroken (chip sheet) rom sched j s)) asks
      (subst (λ (z : List (Call Sheet State)). EndsAs chip sheet s z (unbroken (chip sheet) rom sched (asked chip z) s)) all
      (every_list sheet rom sched s cs panel fit.state (record {
        one_sheet = subst (Each (λ c. sheet_of c ≡ sheet)) (sym all) (refl, (refl, (refl, (refl, (refl, (refl, tt))))));
        given = subst (λ (z : List (Call Sheet State)). AllGet chip sheet rom sched s z) (sym all) given;
      })).ends)

  pub one_run : EndsAsRun r q log' (unbroken (chip sheet) rom sched (n + m) s)
  one_run =
      let end₁ : end_of r.report.end ≡ a.end = ap (λ (x : RunAnswer State). x.end) one.report in
      let end₂ : end_of q.report.end ≡ b.end = ap (λ (x : RunAnswer State). x.end) two.report in
      record {
        state = two.state ∙ ends.state;
        log =
            (λ i. take (r.report.written + (two.report i).written) (two.report i).log)
            ∙ log_grows r.report.written between b (omega (arith, small, one.same_length))
            ∙ (λ i. take (one.report i).written (one.report i).log ++ sym (append-nil (run_log b)) i)
            ∙ ends.log;
        cycles = omega (arith, ap (λ (x : RunAnswer State). x.cycles) one.report, ap (λ (x : RunAnswer State). x.cycles) two.report, ends.cycles);
        begun = omega (arith, ap (λ (x : RunAnswer State). x.begun) one.report, ap (λ (x : RunAnswer State). x.begun) two.report, ends.begun);
        clocks = omega (arith, ap (λ (x : RunAnswer State). x.clocks) one.report, ap (λ (x : RunAnswer State). x.clocks) two.report, ends.clocks);
        finish = (
          λ h. ends.finish.0 (sym end₁ ∙ h.0, (sym end₂ ∙ h.1, tt)),
          λ h. let all = ends.finish.1 h in (end₁ ∙ all.0, end₂ ∙ all.1.0),
        );
        first_stop = λ k h. ends.stops.0 k (sym end₁ ∙ h);
        second_stop = λ k h. ends.stops.1.0 k (sym end₂ ∙ h);
      }
