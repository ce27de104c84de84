-- Over every list of rounds on one bank each panel ends as one unbroken run ends: its turns are a list of demand 3. Assumes nothing.
use mathlib.Core.Path.{◌≡◌, ◌∙◌, refl, sym, ap, ap₂, subst}
use mathlib.Core.Bool.{Bool, true, cond}
use mathlib.Core.Logic.{◌↔◌}
use mathlib.Core.List.{List, [], ◌∷◌, ◌++◌, map}
use mathlib.Core.Option.{Option, none, some}
use Prim.Native.Nat.{ℕ, zero, suc, ◌+◌, ◌≤◌, ◌<◌}
use native.Mathlib.Omega.{arith}
use lib.ListN.{length, take, length-append, length-take}
use Rattle.runs.specs.Refusals.{cycle_limit}
use Rattle.runs.specs.Numbers.{is_stop}
use Rattle.runs.specs.TwoRunners.{End, finished, stopped, refused, number_of_end, RunAnswer, Ran, unbroken, log_bound}
use Rattle.runs.specs.EveryRun.{NumberTells}
use Rattle.runs.specs.Laws.{Panel}
use Rattle.runs.specs.Lists.{Kind, run_answer, AnswersAs, Call, run, skipping_one, Each, refusal_of, keep, sheet_of, refusal, not_refused, Lent, AllGet, Meant, last, ChangesNothing}
use Rattle.runs.specs.Lists.{runs, run_log, joined_log, cycle_total, begun_total, AllFinish, StopsHave, asked}
use Rattle.runs.proofs.Calls.{changes_nothing}
use Rattle.upd546.specs.declared.State.{State}
use Rattle.upd546.specs.declared.Sheet.{Sheet}
use Rattle.upd546.specs.TwoRunners.{chip}
use Rattle.laws.proofs.Demand3.{every_list, every_run_counts_within, every_runs_number_tells}
use Rattle.calls.specs.EveryCall.{end_by}
use Rattle.calls.specs.Lists.{joined}
use Rattle.waiting.specs.EveryList.{AllAccepted, carried_on, logs_of, list_logs}
use Rattle.waiting.specs.WaitingTimes.{start_of_day, waiting_times}
use Rattle.switch_offs.proofs.EveryList.{every_list_reports_as_one_run}
use Rattle.panels.specs.declared.Panel as kept
use Rattle.panels.specs.Round.{last_of, RoundAnswer}
use Rattle.rounds.specs.Rounds.{Round, after, panel_at, before, afterwards, rom_in, schedule_in, log_in, log_afterwards, grant_in, run_in, OnItsOwn}
use Rattle.rounds.specs.Lists.{keep_round, rounds_not_refused, OnOneBank, bank_after, turn_refusal, turns_taken, HasItsParts, RoundsMeant, panel_logs, total, grants_together}
use Rattle.rounds.specs.Lists.{PanelEndsAs, EveryListOfRoundsEndsAsOneRun, EveryListOnOneBankIsMeant, EveryListOfRoundsReportsAsOneRun}
use Rattle.panels.proofs.Rounds.{run_length}
use Rattle.rounds.proofs.Rounds.{log_long, every_panel_is_on_its_own, refused_round_changes_nothing}

-- a panel's turn, as a call of demand 3
abbrev turn : ℕ → Round → Call Sheet State
turn i r = run skipping_one (rom_in i r) (schedule_in i r) (before i r).state (log_in i r) (grant_in i r) r.sheet

abbrev turns : ℕ → List Round → List (Call Sheet State)
turns i rs = map (turn i) rs

-- ROUNDS THAT AREN'T REFUSED

Taken : Round → Type 0
Taken r = (after r).number ≡ 0

all_taken : (rounds : List Round) → Each Taken (rounds_not_refused rounds)
unfolding Taken
all_taken [] = tt
all_taken (r ∷ rs) = go (after r).number refl (all_taken rs)
  where
    go : (k : ℕ) → (after r).number ≡ k → Each Taken (rounds_not_refused rs) → Each Taken (keep_round k r (rounds_not_refused rs))
    go zero e h = (e, h)
    go (suc k) e h = h

-- what holds of all rounds holds of those in which the panel's run wasn't refused
each_turn : (P : Round → Type 0) (i : ℕ) (rs : List Round) → Each P rs → Each P (turns_taken i rs)
each_turn P i [] h = tt
each_turn P i (r ∷ rs) h = go (turn_refusal i r) (each_turn P i rs h.1)
  where
    go : (k : ℕ) → Each P (turns_taken i rs) → Each P (keep_round k r (turns_taken i rs))
    go zero q = (h.0, q)
    go (suc k) q = q

-- WHAT A PANEL'S NUMBER TELLS

end_told : (e : End) → NumberTells e → end_by (number_of_end e) ≡ e
end_told finished h = refl
end_told (stopped zero) h = cc
end_told (stopped (suc k)) h = ap (λ (t : Bool). cond t (stopped (suc k)) (refused (suc k))) h
end_told (refused zero) h = absurd h
end_told (refused (suc k)) h = ap (λ (t : Bool). cond t (stopped (suc k)) (refused (suc k))) h

-- a round in which panel i is there, and is on its own
record Turn (i : ℕ) (r : Round) : Type 0 where
  own : OnItsOwn i r
  room : length (log_in i r) ≡ (before i r).needs.log

module _ (i : ℕ) where
  tells : (r : Round) → NumberTells (run_in i r).end
  tells r = every_runs_number_tells r.sheet skipping_one (rom_in i r) (schedule_in i r) (before i r).state (log_in i r) (grant_in i r)

  number_of : (r : Round) → OnItsOwn i r → (afterwards i r).last.number ≡ number_of_end (run_in i r).end
  unfolding last_of
  number_of r o = ap (λ l. l.number) o.last

  refusal-of : (r : Round) → OnItsOwn i r → turn_refusal i r ≡ refusal chip (turn i r)
  refusal-of r o = ap (λ (k : ℕ). refusal_of (end_by k)) (number_of r o) ∙ ap refusal_of (end_told (run_in i r).end (tells r))

  -- where its run is refused, it keeps its state
  keeps_state : (r : Round) (k : ℕ) → OnItsOwn i r → turn_refusal i r ≡ suc k → (afterwards i r).state ≡ (before i r).state
  keeps_state r k o e =
      let same = subst (λ (m : ℕ). ChangesNothing chip m (turn i r)) (sym (refusal-of r o) ∙ e) (changes_nothing chip (turn i r)) in
      o.state ∙ ap (λ (a : RunAnswer State). a.state) same

  -- THE TURNS AS CALLS

  not_refused_is : (rs : List Round) → Each (OnItsOwn i) rs → not_refused chip (turns i rs) ≡ turns i (turns_taken i rs)
  not_refused_is [] o = refl
  not_refused_is (r ∷ rs) o =
      ap₂ (λ (k : ℕ) (cs : List (Call Sheet State)). keep k (turn i r) cs) (sym (refusal-of r o.0)) (not_refused_is rs o.1) ∙ go (turn_refusal i r)
    where
      go : (k : ℕ) → keep k (turn i r) (turns i (turns_taken i rs)) ≡ turns i (keep_round k r (turns_taken i rs))
      go zero = refl
      go (suc k) = refl

  asks : (rs : List Round) → asked chip (turns i rs) ≡ total (grant_in i) rs
  asks [] = refl
  asks (r ∷ rs) = ap (λ (n : ℕ). grant_in i r + n) (asks rs)

  logs_are : (rs : List Round) → Each (OnItsOwn i) rs → panel_logs i rs ≡ logs_of (runs chip (turns i rs))
  unfolding last_of
  logs_are [] o = refl
  logs_are (r ∷ rs) o =
      ap₂ ◌∷◌ (ap₂ take (ap (λ l. l.written) o.0.last) o.0.log) (logs_are rs o.1)

  cycles_are : (rs : List Round) → Each (OnItsOwn i) rs → total (λ r. (afterwards i r).last.cycles.0) rs ≡ cycle_total (runs chip (turns i rs))
  unfolding last_of
  cycles_are [] o = refl
  cycles_are (r ∷ rs) o = ap₂ ◌+◌ (ap (λ l. l.cycles.0) o.0.last) (cycles_are rs o.1)

  begun_are : (rs : List Round) → Each (OnItsOwn i) rs → total (λ r. (afterwards i r).last.begun) rs ≡ begun_total (runs chip (turns i rs))
  unfolding last_of
  begun_are [] o = refl
  begun_are (r ∷ rs) o = ap₂ ◌+◌ (ap (λ l. l.begun) o.0.last) (begun_are rs o.1)

  written-are : (rs : List Round) → Each (OnItsOwn i) rs → total (λ r. (afterwards i r).last.written) rs ≡ length (joined (panel_logs i rs))
  unfolding last_of
  written-are [] o = refl
  written-are (r ∷ rs) o =
      let w : ℕ = (afterwards i r).last.written in
      let log : List ℕ = log_afterwards i r in
      let same : w ≡ (run_in i r).written = ap (λ l. l.written) o.0.last in
      let within : (run_in i r).written ≤ length (log_in i r)
      = (every_run_counts_within r.sheet skipping_one (rom_in i r) (schedule_in i r) (before i r).state (log_in i r) (grant_in i r)).written in
      let long : length log ≡ length (log_in i r)
      = ap length o.0.log
      ∙ run_length (chip r.sheet) (every_run_counts_within r.sheet) (rom_in i r) (schedule_in i r) (before i r).state (log_in i r) (grant_in i r) in
      omega (arith, same, within, long, length-take w log, length-append (take w log) (joined (panel_logs i rs)), written-are rs o.1)

  -- how they end, by their numbers
  by_zero : (e : End) → NumberTells e → number_of_end e ≡ 0 → e ≡ finished
  by_zero finished h z = refl
  by_zero (stopped k) h z = let no : is_stop 0 ≡ true = ap is_stop (sym z) ∙ h in cc
  by_zero (refused zero) h z = absurd h
  by_zero (refused (suc k)) h z = cc

  by_stop : (e : End) (k : ℕ) → NumberTells e → refusal_of e ≡ 0 → number_of_end e ≡ suc k → e ≡ stopped (suc k)
  by_stop finished k h q z = cc
  by_stop (stopped j) k h q z = ap stopped z
  by_stop (refused zero) k h q z = absurd h
  by_stop (refused (suc j)) k h q z = cc

  turn_taken : (rs : List Round) → Each (λ r. turn_refusal i r ≡ 0) (turns_taken i rs)
  turn_taken [] = tt
  turn_taken (r ∷ rs) = go (turn_refusal i r) refl (turn_taken rs)
    where
      go : (k : ℕ) → turn_refusal i r ≡ k → Each (λ r. turn_refusal i r ≡ 0) (turns_taken i rs)
          → Each (λ r. turn_refusal i r ≡ 0) (keep_round k r (turns_taken i rs))
      go zero e h = (e, h)
      go (suc k) e h = h

  finish_forth : (ts : List Round) → Each (OnItsOwn i) ts → Each (λ r. (afterwards i r).last.number ≡ 0) ts → AllFinish (runs chip (turns i ts))
  finish_forth [] o h = tt
  finish_forth (r ∷ ts) o h = (by_zero (run_in i r).end (tells r) (sym (number_of r o.0) ∙ h.0), finish_forth ts o.1 h.1)

  finish_back : (ts : List Round) → Each (OnItsOwn i) ts → AllFinish (runs chip (turns i ts)) → Each (λ r. (afterwards i r).last.number ≡ 0) ts
  finish_back [] o h = tt
  finish_back (r ∷ ts) o h = (number_of r o.0 ∙ ap number_of_end h.0, finish_back ts o.1 h.1)

  stops_are : (number : Option ℕ) (ts : List Round) → Each (OnItsOwn i) ts → Each (λ r. turn_refusal i r ≡ 0) ts
      → StopsHave number (runs chip (turns i ts))
      → Each (λ r. (k : ℕ) → (afterwards i r).last.number ≡ suc k → number ≡ some (suc k)) ts
  stops_are number [] o t h = tt
  stops_are number (r ∷ ts) o t h = (
    λ k e. h.0 (suc k)
        (by_stop (run_in i r).end k (tells r) (sym (refusal-of r o.0) ∙ t.0) (sym (number_of r o.0) ∙ e)),
    stops_are number ts o.1 t.1 h.1,
  )

  -- ROUNDS ON ONE BANK

  turn_of : (r : Round) → Taken r → i < length r.bank → Turn i r
  unfolding Taken
  turn_of r e h = record { own = (every_panel_is_on_its_own r e).own i h; room = log_long r e i h }

  -- what rounds leave of the row and of panel i's needs
  record Stays (bank end : List kept.Panel) : Type 0 where
    row : length end ≡ length bank
    needs : (panel_at i end).needs ≡ (panel_at i bank).needs

  one_stays : (r : Round) → Taken r → i < length r.bank → Stays r.bank (after r).panels
  unfolding Taken
  one_stays r e h = record { row = (every_panel_is_on_its_own r e).row; needs = ((every_panel_is_on_its_own r e).own i h).needs }

  there : (r : Round) (bank : List kept.Panel) → r.bank ≡ bank → i < length bank → i < length r.bank
  there r bank e h = subst (λ (ps : List kept.Panel). i < length ps) (sym e) h

  turns_of : (bank : List kept.Panel) (rs : List Round) → i < length bank → Each Taken rs → OnOneBank bank rs → Each (Turn i) rs
  turns_of bank [] h t b = tt
  turns_of bank (r ∷ rs) h t b =
      let here : i < length r.bank = there r bank b.0 h in
      (turn_of r t.0 here, turns_of (after r).panels rs (omega (arith, here, (one_stays r t.0 here).row)) t.1 b.1)

  all_stays : (bank : List kept.Panel) (rs : List Round) → i < length bank → Each Taken rs → OnOneBank bank rs → Stays bank (bank_after bank rs)
  all_stays bank [] h t b = record { row = refl; needs = refl }
  all_stays bank (r ∷ rs) h t b =
      let here : i < length r.bank = there r bank b.0 h in
      let one = one_stays r t.0 here in
      let rest = all_stays (after r).panels rs (omega (arith, here, one.row)) t.1 b.1 in
      record {
        row = rest.row ∙ one.row ∙ ap (λ (ps : List kept.Panel). length ps) b.0;
        needs = rest.needs ∙ one.needs ∙ ap (λ (ps : List kept.Panel). (panel_at i ps).needs) b.0;
      }

  owns : (rs : List Round) → Each (Turn i) rs → Each (OnItsOwn i) rs
  owns [] o = tt
  owns (r ∷ rs) o = (o.0.own, owns rs o.1)

  -- its turns are lent what demand 3 asks for, from the state held to the one at the end
  record Goes (sheet : Sheet) (rom sched : List ℕ) (held : State) (ts : List Round) (end : State) : Type 0 where
    given : AllGet chip sheet rom sched held (turns i ts)
    reached : last chip held (turns i ts) ≡ end

  goes : (sheet : Sheet) (rom sched : List ℕ) (bank : List kept.Panel) (rs : List Round) (held : State) → Each (Turn i) rs → OnOneBank bank rs
      → Each (HasItsParts sheet rom sched i) (turns_taken i rs) → held ≡ (panel_at i bank).state
      → Goes sheet rom sched held (turns_taken i rs) (panel_at i (bank_after bank rs)).state
  goes sheet rom sched bank [] held o b q e = record { given = tt; reached = e }
  goes sheet rom sched bank (r ∷ rs) held o b q e =
      go (turn_refusal i r) refl q (λ from p f. goes sheet rom sched (after r).panels rs from o.1 b.1 p f)
    where
      lent_state : (before i r).state ≡ held
      lent_state = ap (λ (ps : List kept.Panel). (panel_at i ps).state) b.0 ∙ sym e

      go : (k : ℕ) → turn_refusal i r ≡ k → Each (HasItsParts sheet rom sched i) (keep_round k r (turns_taken i rs))
          → ((from : State) → Each (HasItsParts sheet rom sched i) (turns_taken i rs) → from ≡ (afterwards i r).state
          → Goes sheet rom sched from (turns_taken i rs) (panel_at i (bank_after (after r).panels rs)).state)
          → Goes sheet rom sched held (keep_round k r (turns_taken i rs)) (panel_at i (bank_after (after r).panels rs)).state
      go zero z p ih =
          let rest = ih (run_in i r).state p.1 (sym o.0.own.state) in
          let lent : Lent rom sched held (rom_in i r) (schedule_in i r) (before i r).state (log_in i r) (grant_in i r) = record {
            same_rom = p.0.same_rom;
            same_sched = p.0.same_sched;
            same_state = lent_state;
            room = subst (λ (k : ℕ). log_bound (grant_in i r) ≤ k) (sym o.0.room) p.0.room;
          } in
          record { given = (lent, rest.given); reached = rest.reached }
      go (suc k) z p ih = ih held p (sym lent_state ∙ sym (keeps_state r k o.0.own z))

  one_sheet : (sheet : Sheet) (rom sched : List ℕ) (ts : List Round) → Each (HasItsParts sheet rom sched i) ts
      → Each (λ c. sheet_of c ≡ sheet) (turns i ts)
  one_sheet sheet rom sched [] h = tt
  one_sheet sheet rom sched (r ∷ ts) h = (h.0.same_sheet, one_sheet sheet rom sched ts h.1)

joined_log_is : (as' : List (RunAnswer State)) → joined (logs_of as') ≡ joined_log as'
joined_log_is [] = refl
joined_log_is (a ∷ rest) = ap (λ (l : List ℕ). run_log a ++ l) (joined_log_is rest)

-- THE GUARANTEE

module _ (sheet : Sheet) (rom sched : List ℕ) (bank : List kept.Panel) (i : ℕ) (rounds : List Round) (h : i < length bank)
    (m : RoundsMeant sheet rom sched bank i rounds) where
  abbrev rs : List Round
  rs = rounds_not_refused rounds

  abbrev s : State
  s = (panel_at i bank).state

  all_turns : Each (Turn i) rs
  all_turns = turns_of i bank rs h (all_taken rounds) m.one_bank

  all_own : Each (OnItsOwn i) rs
  all_own = owns i rs all_turns

  taken_own : Each (OnItsOwn i) (turns_taken i rs)
  taken_own = each_turn (OnItsOwn i) i rs all_own

  calls_are : not_refused chip (turns i rs) ≡ turns i (turns_taken i rs)
  calls_are = not_refused_is i rs all_own

  gone : Goes i sheet rom sched s (turns_taken i rs) (panel_at i (bank_after bank rs)).state
  gone = goes i sheet rom sched bank rs s all_turns m.one_bank m.own_parts refl

  meant : Meant chip sheet rom sched s (turns i rs)
  meant = record {
    one_sheet = subst (Each (λ (c : Call Sheet State). sheet_of c ≡ sheet)) (sym calls_are) (one_sheet i sheet rom sched (turns_taken i rs) m.own_parts);
    given = subst (AllGet chip sheet rom sched s) (sym calls_are) gone.given;
  }

  N-is : asked chip (not_refused chip (turns i rs)) ≡ grants_together i rs
  N-is = ap (asked chip) calls_are ∙ asks i (turns_taken i rs)

  last_is : last chip s (not_refused chip (turns i rs)) ≡ (panel_at i (bank_after bank rs)).state
  last_is = ap (last chip s) calls_are ∙ gone.reached

  abbrev u : ℕ → Ran State
  u n = unbroken (chip sheet) rom sched n s

  ends_so : (n : ℕ) → Panel (chip sheet) rom sched → (chip sheet).state_number s ≡ 0 → asked chip (not_refused chip (turns i rs)) ≡ n
      → PanelEndsAs bank i rs (u n)
  ends_so n p v e =
      let t = every_list sheet rom sched s (turns i rs) p v meant in
      let same : u (asked chip (not_refused chip (turns i rs))) ≡ u n = ap u e in
      let all_log : joined (panel_logs i rs) ≡ (u n).bytes
      = ap joined (logs_are i rs all_own) ∙ joined_log_is (runs chip (turns i rs)) ∙ t.nothing.log ∙ t.ends.log
      ∙ ap (λ (w : Ran State). w.bytes) same in
      let finish : AllFinish (runs chip (turns i (turns_taken i rs))) ↔ ((u n).number ≡ none)
      = subst (λ (w : Ran State). AllFinish (runs chip (turns i (turns_taken i rs))) ↔ (w.number ≡ none)) same
      (subst (λ (cs : List (Call Sheet State)). AllFinish (runs chip cs) ↔ ((u (asked chip (not_refused chip (turns i rs)))).number ≡ none)) calls_are t.ends.finish) in
      let stops : StopsHave (u n).number (runs chip (turns i (turns_taken i rs)))
      = subst (λ (w : Ran State). StopsHave w.number (runs chip (turns i (turns_taken i rs)))) same
      (subst (λ (cs : List (Call Sheet State)). StopsHave (u (asked chip (not_refused chip (turns i rs)))).number (runs chip cs)) calls_are t.ends.stops) in
      record {
        state = sym last_is ∙ t.ends.state ∙ ap (λ (w : Ran State). w.state) same;
        log = all_log;
        cycles = cycles_are i rs all_own ∙ t.nothing.cycles ∙ t.ends.cycles ∙ ap (λ (w : Ran State). w.cycles) same;
        begun = begun_are i rs all_own ∙ t.nothing.begun ∙ t.ends.begun ∙ ap (λ (w : Ran State). w.begun) same;
        written = written-are i rs all_own ∙ ap length all_log;
        finish = (λ f. finish.0 (finish_forth i (turns_taken i rs) taken_own f), λ f. finish_back i (turns_taken i rs) taken_own (finish.1 f));
        stops = stops_are i (u n).number (turns_taken i rs) taken_own (turn_taken i rs) stops;
      }

  -- one call for all the grants, by either runner
  called : (n : ℕ) → Panel (chip sheet) rom sched → (chip sheet).state_number s ≡ 0 → asked chip (not_refused chip (turns i rs)) ≡ n
      → s.cycle.0 + n ≤ cycle_limit → (kind : Kind) (log : List ℕ) → log_bound n ≤ length log
      → AnswersAs (run_answer (chip sheet) kind rom sched s log n) (u n)
  called n p v e =
      subst (λ (n : ℕ). s.cycle.0 + n ≤ cycle_limit → (kind : Kind) (log : List ℕ) → log_bound n ≤ length log
      → AnswersAs (run_answer (chip sheet) kind rom sched s log n) (u n)) e
      (every_list sheet rom sched s (turns i rs) p v meant).call

  -- a next round
  next : Panel (chip sheet) rom sched → (chip sheet).state_number s ≡ 0 → (r : Round) → r.bank ≡ bank_after bank rs → Taken r
      → HasItsParts sheet rom sched i r → s.cycle.0 + (grants_together i rs + grant_in i r) ≤ cycle_limit → turn_refusal i r ≡ 0
  next p v r b e q limit =
      let t = every_list sheet rom sched s (turns i rs) p v meant in
      let row = (all_stays i bank rs h (all_taken rounds) m.one_bank).row in
      let here : i < length r.bank = there i r (bank_after bank rs) b (omega (arith, h, row)) in
      let state : (before i r).state ≡ last chip s (not_refused chip (turns i rs)) = ap (λ (ps : List kept.Panel). (panel_at i ps).state) b ∙ sym last_is in
      let within : s.cycle.0 + (asked chip (not_refused chip (turns i rs)) + grant_in i r) ≤ cycle_limit = omega (arith, N-is, limit) in
      refusal-of i r (turn_of i r e here).own
      ∙ (λ x. refusal chip (run skipping_one (q.same_rom x) (q.same_sched x) (state x) (log_in i r) (grant_in i r) (q.same_sheet x)))
      ∙ t.goes_on.next_run skipping_one (log_in i r) (grant_in i r) within

pub every_list_of_rounds : EveryListOfRoundsEndsAsOneRun
unfolding Taken
every_list_of_rounds sheet rom sched bank i rounds h p v m = record {
  ends = ends_so sheet rom sched bank i rounds h m (grants_together i (rounds_not_refused rounds)) p v (N-is sheet rom sched bank i rounds h m);
  call = called sheet rom sched bank i rounds h m (grants_together i (rounds_not_refused rounds)) p v (N-is sheet rom sched bank i rounds h m);
  needs = (all_stays i bank (rounds_not_refused rounds) h (all_taken rounds) m.one_bank).needs;
  goes_on = next sheet rom sched bank i rounds h m p v;
}

-- ITS WAITS

pub every_list_of_rounds_reports : EveryListOfRoundsReportsAsOneRun
every_list_of_rounds_reports sheet rom sched bank i rounds h p v m limit =
    let rs : List Round = rounds_not_refused rounds in
    let s : State = (panel_at i bank).state in
    let n_is : asked chip (not_refused chip (turns i rs)) ≡ grants_together i rs = N-is sheet rom sched bank i rounds h m in
    let t = every_list_reports_as_one_run sheet rom sched s (turns i rs) p v (meant sheet rom sched bank i rounds h m) (omega (arith, n_is, limit)) in
    let logs : panel_logs i (turns_taken i rs) ≡ list_logs chip (turns i rs)
    = logs_are i (turns_taken i rs) (taken_own sheet rom sched bank i rounds h m)
    ∙ ap (λ (cs : List (Call Sheet State)). logs_of (runs chip cs)) (sym (calls_are sheet rom sched bank i rounds h m)) in
    record {
      accepted = subst (λ (ls : List (List ℕ)). AllAccepted start_of_day ls) (sym logs) t.accepted;
      report =
          ap (λ (ls : List (List ℕ)). record { number = 0; carried = carried_on start_of_day ls }) logs
          ∙ t.report
          ∙ ap (λ (n : ℕ). waiting_times (unbroken (chip sheet) rom sched n s).bytes start_of_day) n_is;
    }

-- LISTS ON ONE BANK

pub every_list_on_one_bank : EveryListOnOneBankIsMeant
every_list_on_one_bank bank [] b = (tt, refl)
every_list_on_one_bank bank (r ∷ rs) b = go (after r).number refl (every_list_on_one_bank (after r).panels rs b.1)
  where
    go : (k : ℕ) → (after r).number ≡ k
        → OnOneBank (after r).panels (rounds_not_refused rs) × (bank_after (after r).panels rs ≡ bank_after (after r).panels (rounds_not_refused rs))
        → OnOneBank bank (keep_round k r (rounds_not_refused rs)) × (bank_after (after r).panels rs ≡ bank_after bank (keep_round k r (rounds_not_refused rs)))
    go zero e h = ((b.0, h.0), h.1)
    go (suc k) e h =
        let same : (after r).panels ≡ bank = ap (λ (a : RoundAnswer). a.panels) (refused_round_changes_nothing r k e) ∙ b.0 in
        (subst (λ (ps : List kept.Panel). OnOneBank ps (rounds_not_refused rs)) same h.0, h.1 ∙ ap (λ (ps : List kept.Panel). bank_after ps (rounds_not_refused rs)) same)
