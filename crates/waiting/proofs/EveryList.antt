-- No switch-off and no reset loses or invents a wait: the logs of a list's runs, read one after the other, give the report of the
-- unbroken run's log. Of any machine, by what is promised of it. Assumes nothing.
use mathlib.Core.Path.{◌≡◌, ◌∙◌, refl, sym, ap, subst}
use mathlib.Core.Bool.{Bool, true, false, cond}
use mathlib.Core.List.{List, [], ◌∷◌, ◌++◌}
use Prim.Native.Nat.{ℕ, suc, ◌+◌, ◌/◌, ◌%◌, ◌<◌, ◌≤◌, ◌^◌}
use native.Mathlib.Omega.{arith}
use lib.Dec.{eqb}
use lib.ListN.{length, replicate, length-append, length-replicate}
use borrow.Author.Tests.{le-leb, eqb-true, ne_eqb}
use Rattle.runs.specs.Machine.{Machine}
use Rattle.runs.specs.Refusals.{cycle_limit, first_of}
use Rattle.runs.specs.TwoRunners.{RunAnswer, log_bound, unbroken}
use Rattle.runs.specs.Laws.{Panel}
use Rattle.runs.specs.EveryRun.{EveryRunCountsWithin}
use Rattle.runs.specs.Lists.{AnswersAs, Call, run, save, restore, Each, plain_one, run_answer, run_log, held_after, AllGet, not_refused, runs, joined_log, asked, EveryListEndsAsOneRun}
use Rattle.log_form.specs.Form.{Write, port_c, port_i, log_record}
use Rattle.log_form.specs.Form.{all_of}
use Rattle.laws.specs.Writes.{Logged, write, reset}
use Rattle.laws.specs.Records.{Records, empty, also, EveryRunWritesRecords}
use Rattle.laws.proofs.Images.{cycle_back}
use Rattle.laws.proofs.Records.{wider}
use Rattle.waiting.specs.declared.Carried.{Carried}
use Rattle.waiting.specs.declared.LogRecord.{LogRecord}
use Rattle.waiting.specs.declared.Reading.{Reading}
use Rattle.waiting.specs.WaitingTimes.{port_reset, start_of_day, carried_after, record_here, records_in, records_of, carried_after_all, port_taken, value_most, record_sound, log_record_number, log_records_number, figure_most, waiting_times}
use Rattle.waiting.specs.Growth.{CarriedGrown}
use Rattle.waiting.specs.EveryList.{AllAccepted, carried_on, logs_of, list_logs, EveryListReportsAsOneRun}
use Rattle.waiting.proofs.Records.{count_records, carried_append}
use Rattle.waiting.proofs.Growth.{to_sound, small_figures, nothing-grown}
use Rattle.waiting.proofs.Progress.{carried_accepted, by_records}
use Rattle.waiting.proofs.EveryLog.{joined, grown_all, reading_of}

-- RECORDS IN ORDER: each is accepted behind the one before it, and below `end`

abbrev InOrder : (last end : ℕ) → List LogRecord → Type 0
InOrder last end [] = Unit {0}
InOrder last end (r ∷ rs) = (record_sound last r ≡ true) × (r.cycle.0 < end) × InOrder r.cycle.0 end rs

-- of records behind others
module _ (end : ℕ) where
  order_front : (c : Carried) (rs qs : List LogRecord) → InOrder c.last.0 end (rs ++ qs) → InOrder c.last.0 end rs
  unfolding carried_after
  order_front c [] qs o = tt
  order_front c (r ∷ rs) qs o = (o.0, o.1, order_front (carried_after c r) rs qs o.2)

  order_back : (c : Carried) (rs qs : List LogRecord) → InOrder c.last.0 end (rs ++ qs) → InOrder (carried_after_all c rs).last.0 end qs
  unfolding carried_after
  order_back c [] qs o = o
  order_back c (r ∷ rs) qs o = order_back (carried_after c r) rs qs o.2

  order_last : (c : Carried) (rs : List LogRecord) → c.last.0 ≤ end → InOrder c.last.0 end rs → (carried_after_all c rs).last.0 ≤ end
  unfolding carried_after
  order_last c [] h o = h
  order_last c (r ∷ rs) h o = order_last (carried_after c r) rs (omega (arith, o.1)) o.2

  order_taken : (c : Carried) (rs : List LogRecord) → InOrder c.last.0 end rs → log_records_number c rs ≡ 0
  unfolding carried_after log_record_number first_of
  order_taken c [] o = refl
  order_taken c (r ∷ rs) o = rw (o.0, order_taken (carried_after c r) rs o.2)

-- A RUN'S RECORDS ARE IN ORDER

-- a record as it is written, behind one of an earlier cycle
as_written : (first n : ℕ) (w : Write) {r : LogRecord} → first ≤ n → port_taken w.port ≡ true → w.value ≤ value_most w.port
    → r.cycle.0 ≡ n → r.port ≡ w.port → r.value ≡ w.value → record_sound first r ≡ true
unfolding record_sound all_of
as_written first n w {r} h t v e p q =
    let value : r.value ≤ value_most r.port = rw (p, q) v in
    let later : first ≤ r.cycle.0 = omega (arith, e) in
    rw (p, t, ← p, le-leb r.value (value_most r.port) value, le-leb first r.cycle.0 later)

-- an effective write, or a reset
logged_taken : (w : Write) → Logged w → port_taken w.port ≡ true
unfolding port_taken
logged_taken w (reset p v) = rw p
logged_taken w (write v) =
    rw (ne_eqb w.port port_reset (λ e. omega (arith, v.first)), le-leb port_c w.port v.first, le-leb w.port port_i v.last)

logged_value : (w : Write) → Logged w → w.value ≤ value_most w.port
unfolding value_most
logged_value w (reset p v) = rw (p, v) (omega arith)
logged_value w (write v) = rw (ne_eqb w.port port_reset (λ e. omega (arith, v.first))) (most (eqb w.port port_i) refl)
  where
    most : (t : Bool) → eqb w.port port_i ≡ t → w.value ≤ cond t 7 15
    most true e = omega (arith, v.narrow (eqb-true w.port port_i e))
    most false e = omega (arith, v.value)

records-whole : {first end : ℕ} {log : List ℕ} → Records first end log → length log % 8 ≡ 0
records-whole empty = refl
records-whole (also {log = log} n w h i v r) = omega (arith, records-whole r)

records-order : {first end : ℕ} {log : List ℕ} → Records first end log → end ≤ 2 ^ 48 → InOrder first end (records_of log)
records-order empty h = tt
records-order {first} {end} (also {log = log} n w low high v r) h =
    let count : suc (suc (suc (suc (suc (suc (suc (suc (length log)))))))) / 8 ≡ suc (length log / 8) = omega arith in
    let cycle : (record_here (log_record n w ++ log)).cycle.0 ≡ n = cycle_back n (omega arith) in
    let rest : InOrder n end (records_of log) = records-order r h in
    subst (λ (k : ℕ). InOrder first end (records_in k (log_record n w ++ log))) (sym count) (
      as_written first n w low (logged_taken w v) (logged_value w v) cycle refl refl,
      rw cycle high,
      subst (λ (m : ℕ). InOrder m end (records_of log)) (sym cycle) rest,
    )

-- LOGS READ ONE AFTER THE OTHER

abbrev join : List (List ℕ) → List ℕ
join [] = []
join (l ∷ ls) = l ++ join ls

-- each is accepted, and what is carried on is what the records of all of them carry on
record AsJoined (c : Carried) (ls : List (List ℕ)) : Type 0 where
  accepted : AllAccepted c ls
  same : carried_on c ls ≡ carried_after_all c (records_of (join ls))

module _ (end : ℕ) (end_small : end ≤ figure_most) where
  -- an accepted log, from what fewer than 2^60 records have carried on
  one_log : (l : List ℕ) (c : Carried) (k : ℕ) → CarriedGrown 0 k c → k ≤ figure_most → c.last.0 ≤ end → length l % 8 ≡ 0
      → InOrder c.last.0 end (records_of l) → waiting_times l c ≡ record { number = 0; carried = carried_after_all c (records_of l) }
  one_log l c k g b h w o =
      let sound = to_sound 0 k c g (small_figures k c g b (omega arith)) in
      let number = by_records l c (carried_accepted l c w sound) ∙ order_taken end c (records_of l) o in
      reading_of l c number refl

  as_joined : (ls : List (List ℕ)) (c : Carried) (k : ℕ) → CarriedGrown 0 k c → c.last.0 ≤ end → Each (λ l. length l % 8 ≡ 0) ls
      → InOrder c.last.0 end (records_of (join ls)) → k + length (join ls) / 8 ≤ figure_most → AsJoined c ls
  as_joined [] c k g h w o b = record { accepted = tt; same = refl }
  as_joined (l ∷ ls) c k g h w o b =
      let both : records_of (l ++ join ls) ≡ records_of l ++ records_of (join ls) = joined l (join ls) w.0 in
      let o' : InOrder c.last.0 end (records_of l ++ records_of (join ls)) = rw both at o in
      let front = order_front end c (records_of l) (records_of (join ls)) o' in
      let d = carried_after_all c (records_of l) in
      let read = one_log l c k g (omega (arith, length-append l (join ls))) h w.0 front in
      let grown = grown_all 0 k c (records_of l) g (order_taken end c (records_of l) front) in
      let bound : k + length (records_of l) + length (join ls) / 8 ≤ figure_most = omega (arith, w.0, length-append l (join ls), count_records (length l / 8) l) in
      let rest = as_joined ls d (k + length (records_of l)) grown (order_last end c (records_of l) h front) w.1 (order_back end c (records_of l) (records_of (join ls)) o') bound in
      let carried : (waiting_times l c).carried ≡ d = ap (λ (r : Reading). r.carried) read in
      record {
        accepted = (ap (λ (r : Reading). r.number) read, subst (λ (x : Carried). AllAccepted x ls) (sym carried) rest.accepted);
        same = ap (λ (x : Carried). carried_on x ls) carried ∙ rest.same ∙ sym (carried_append c (records_of l) (records_of (join ls))) ∙ ap (carried_after_all c) (sym both);
      }

-- OF A LIST OF CALLS

join_log : {S : Type 0} (as' : List (RunAnswer S)) → join (logs_of as') ≡ joined_log as'
join_log [] = refl
join_log (a ∷ rest) = ap (λ (l : List ℕ). run_log a ++ l) (join_log rest)

module _ {Sheet S : Type 0} (M : Sheet → Machine S) (R : (sheet : Sheet) → EveryRunWritesRecords (M sheet)) (sheet : Sheet)
    (rom sched : List ℕ)
    (p : Panel (M sheet) rom sched) where
  logs_whole : (held : S) (cs : List (Call Sheet S)) → AllGet M sheet rom sched held cs → Each (λ l. length l % 8 ≡ 0) (logs_of (runs M cs))
  logs_whole held [] g = tt
  logs_whole held (run kind rom' sched' s log n i ∷ cs) g = (
    records-whole (R i kind rom' sched' s log n (rw g.0.same_rom p.rom_bytes) (rw g.0.same_sched p.sched_bytes)),
    logs_whole (held_after M held (run kind rom' sched' s log n i)) cs g.1,
  )
  logs_whole held (save version s buffer i ∷ cs) g = logs_whole held cs g.1
  logs_whole held (restore bytes i ∷ cs) g = logs_whole (held_after M held (restore bytes i)) cs g.1

module _ {S : Type 0} (M : Machine S) (C : EveryRunCountsWithin M) (R : EveryRunWritesRecords M) (rom sched : List ℕ) (p : Panel M rom sched)
    (s : S) (n : ℕ) (limit : M.at s + n ≤ cycle_limit) (log : List ℕ)
    (call : AnswersAs (run_answer M plain_one rom sched s log n) (unbroken M rom sched n s)) where
  -- the log of the unbroken run is records, below the cycle at which it ends
  unbroken-records : Records 0 (2 ^ 48) (unbroken M rom sched n s).bytes
  unbroken-records =
      let wrote = R plain_one rom sched s log n p.rom_bytes p.sched_bytes in
      let end : M.at s + (run_answer M plain_one rom sched s log n).cycles ≤ 2 ^ 48 = omega (arith, (C plain_one rom sched s log n).cycles) in
      subst (λ (l : List ℕ). Records 0 (2 ^ 48) l) call.log (wider wrote 0 (2 ^ 48) (omega arith) end)

  -- and has no more bytes than the log of a call for it
  unbroken-fits : length (unbroken M rom sched n s).bytes ≤ length log
  unbroken-fits = omega (arith, call.written, (C plain_one rom sched s log n).written)

-- Of a machine no more is seen than what is promised of its lists, of the counts of its runs and of their log records.
pub reports_as_one_run : {Sheet S : Type 0} (M : Sheet → Machine S) → EveryListEndsAsOneRun M
    → ((sheet : Sheet) → EveryRunCountsWithin (M sheet))
    → ((sheet : Sheet) → EveryRunWritesRecords (M sheet)) → EveryListReportsAsOneRun M
reports_as_one_run M E C R sheet rom sched s calls p v meant limit =
    let cs = not_refused M calls in
    let n = asked M cs in
    let u = unbroken (M sheet) rom sched n s in
    let claim = E sheet rom sched s calls p v meant in
    let log : List ℕ = replicate (log_bound n) 0 in
    let size : length log ≡ log_bound n = length-replicate {A = ℕ} (log_bound n) 0 in
    let call = claim.call limit plain_one log (omega arith) in
    let wrote = unbroken-records (M sheet) (C sheet) (R sheet) rom sched p s n limit log call in
    let same : join (list_logs M calls) ≡ u.bytes = join_log (runs M cs) ∙ claim.ends.log in
    let small : 2 ^ 48 ≤ figure_most = omega arith in
    let order : InOrder 0 (2 ^ 48) (records_of u.bytes) = records-order wrote (omega arith) in
    let bound : 0 + length (join (list_logs M calls)) / 8 ≤ figure_most
    = omega (arith, ap length same, unbroken-fits (M sheet) (C sheet) (R sheet) rom sched p s n limit log call) in
    let read = as_joined (2 ^ 48) small (list_logs M calls) start_of_day 0 nothing-grown (omega arith)
    (logs_whole M R sheet rom sched p s cs meant.given) (rw same order) bound in
    record {
      accepted = read.accepted;
      report =
          ap (λ (c : Carried). record { number = 0; carried = c }) (read.same ∙ ap (λ (l : List ℕ). carried_after_all start_of_day (records_of l)) same)
          ∙ sym (one_log (2 ^ 48) small u.bytes start_of_day 0 nothing-grown (omega arith) (omega arith) (records-whole wrote) order);
    }
