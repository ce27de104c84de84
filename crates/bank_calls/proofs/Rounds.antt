-- Entries in their turns make the round of the definitions. Assumes nothing.
use mathlib.Core.Path.{◌≡◌, ◌∙◌, refl, sym, ap, ap₂}
use mathlib.Core.Bool.{Bool, true, false, cond}
use mathlib.Core.List.{List, [], ◌∷◌, ◌++◌, append_assoc}
use Prim.Native.Nat.{ℕ, zero, suc, ◌+◌, ◌*◌, ◌/◌, ◌%◌, ◌≤◌}
use native.Mathlib.Omega.{arith}
use lib.Dec.{leb, eqb}
use lib.ListN.{length, take, drop, length-append}
use lib.Seq.{drop-drop, drop_at, take_at}
use borrow.Author.Tests.{eq-eqb, ne_eqb}
use Rattle.runs.specs.Refusals.{first_of, unless}
use Rattle.runs.specs.TwoRunners.{End, finished, stopped, refused, RunAnswer, current_answer}
use Rattle.runs.specs.Lists.{skipping_one}
use Rattle.upd546.specs.declared.State.{State}
use Rattle.upd546.specs.declared.Sheet.{Sheet}
use Rattle.upd546.specs.Bytes.{part}
use Rattle.upd546.specs.TwoRunners.{chip}
use Rattle.laws.proofs.Parts.{length_part}
use Rattle.laws.proofs.Demand3.{every_run_counts_within}
use Rattle.panels.specs.declared.Needs.{Needs}
use Rattle.panels.specs.declared.Places.{Places}
use Rattle.panels.specs.declared.Lot.{Lot}
use Rattle.panels.specs.declared.Course.{Course}
use Rattle.panels.specs.Places.{most_panels, first_places, together, ends_of, round_number}
use Rattle.panels.specs.Courses.{begin_of, plan_of, lot_of, after_of, note_all, handed, planned_of}
use Rattle.panels.proofs.Rounds.{run_length}
use Rattle.panels.proofs.Courses.{Fit, plan_for, fits_all, plan_is, plan_refused, plan_hands}
use Rattle.calls.specs.Call.{BoardCall, BoardAnswer, long_enough, on_restored, image_run, run_of, on_report, call_answer}
use Rattle.bank_calls.specs.Entries.{image_bytes, entry_length, entries_of, entries_in, entry_needs, needs_in, own_call, own_answer, entry_after}
use Rattle.bank_calls.specs.Round.{BankAnswer, lot_answer, served, written, bank_number, rounded, bank_answer}
use Rattle.bank_calls.specs.InTurn.{Within, Served, turn_answer, turn_logs, in_turn}
use Rattle.bank_calls.proofs.Span.{length-entries, length-needs, first_needs}

-- A CALL KEEPS THE LENGTH OF ITS LOG

restored_length : (sheet : Sheet) (k : ℕ) (s : State) (rom sched log : List ℕ) (n : ℕ)
    → length (on_restored (chip sheet) k s skipping_one rom sched log n).log ≡ length log
restored_length sheet zero s rom sched log n = run_length (chip sheet) (every_run_counts_within sheet) rom sched s log n
restored_length sheet (suc k) s rom sched log n = refl

reported-length : (sheet : Sheet) (c : BoardCall) (b : Bool) (e : End) (a : RunAnswer State) → length a.log ≡ length c.log
    → length (on_report (chip sheet) b c e a).log ≡ length c.log
reported-length sheet c false e a h = refl
reported-length sheet c true finished a h = h
reported-length sheet c true (stopped k) a h = h
reported-length sheet c true (refused k) a h = refl

call_length : (sheet : Sheet) (entry rom sched log : List ℕ) (n : ℕ) → length (own_answer chip sheet entry rom sched log n).log ≡ length log
unfolding own_answer call_answer image_run
call_length sheet entry rom sched log n =
    let c : BoardCall = own_call chip sheet entry rom sched log n in
    reported-length sheet c (long_enough c) (run_of (chip sheet) c).end (run_of (chip sheet) c)
    (restored_length sheet (current_answer (chip sheet) (take image_bytes entry)).number (current_answer (chip sheet) (take image_bytes entry)).state rom sched log n)

ends_stay : (c : Course) (n : Needs) → (after_of c n).ends.log ≡ c.ends.log
unfolding after_of
ends_stay c n = refl

module _ (sheet : Sheet) (roms schedules logs : List ℕ) where
  -- ONE ENTRY'S TURN, where the parts before it are done, and the lengths behind it come to m
  module _ (e done : List ℕ) (c : Course) (m : ℕ) (placed : length done ≡ c.at.log) (ends : c.ends.log ≡ length logs)
      (fits : c.at.log + ((entry_needs e).log + m) ≤ length logs) where
    -- the logs before its turn
    abbrev before : List ℕ
    before = done ++ drop c.at.log logs

    -- its own call, on the logs as they were lent
    abbrev own : BoardAnswer
    own = lot_answer chip sheet roms schedules logs e (lot_of c (entry_needs e))

    rest_is : drop c.at.log before ≡ drop c.at.log logs
    rest_is = drop_at done (drop c.at.log logs) c.at.log placed

    own_is : turn_answer chip sheet roms schedules before e c ≡ own
    unfolding turn_answer lot_answer lot_of
    own_is =
        let lot : Lot = lot_of c (entry_needs e) in
        ap (λ (z : List ℕ). own_answer chip sheet e
        (part roms c.at.rom (entry_needs e).rom)
        (part schedules c.at.schedule (entry_needs e).schedule)
        (take (entry_needs e).log z)
        lot.grant.0) rest_is

    part_long : length own.log ≡ (entry_needs e).log
    unfolding lot_answer lot_of
    part_long =
        let lot : Lot = lot_of c (entry_needs e) in
        call_length sheet e (part roms c.at.rom (entry_needs e).rom) (part schedules c.at.schedule (entry_needs e).schedule)
        (part logs c.at.log (entry_needs e).log) lot.grant.0
        ∙ length_part logs c.at.log (entry_needs e).log (omega (arith, fits))

    logs_put : turn_logs chip sheet roms schedules before e c ≡ (done ++ own.log) ++ drop (c.at.log + (entry_needs e).log) logs
    unfolding turn_logs
    logs_put =
        let k : ℕ = (entry_needs e).log in
        let back : drop (c.at.log + k) before ≡ drop (c.at.log + k) logs
        = sym (drop-drop k c.at.log before) ∙ ap (drop k) rest_is ∙ drop-drop k c.at.log logs in
        (λ j. take c.at.log before ++ (own_is j).log ++ back j)
        ∙ ap (λ (z : List ℕ). z ++ own.log ++ drop (c.at.log + k) logs) (take_at done (drop c.at.log logs) c.at.log placed)

    onward : (after_of c (entry_needs e)).at.log ≡ c.at.log + (entry_needs e).log
    unfolding after_of
    onward = omega (arith, ends, fits)

    done_long : length (done ++ own.log) ≡ (after_of c (entry_needs e)).at.log
    done_long = omega (arith, length-append done own.log, part_long, placed, onward)

  -- ALL OF THEM
  abbrev lengths : List (List ℕ) → ℕ
  lengths es = together (λ n. n.log) (needs_in es)

  abbrev leaves : List ℕ → Course → List (List ℕ) → Served
  leaves done c es = record {
    bank = served chip sheet roms schedules logs (handed c (needs_in es)) es;
    logs = done ++ (written chip sheet roms schedules logs (handed c (needs_in es)) es ++ drop (c.at.log + lengths es) logs);
  }

  serve_is : (es : List (List ℕ)) (done : List ℕ) (c : Course) → length done ≡ c.at.log → c.ends.log ≡ length logs → c.at.log + lengths es ≤ length logs
      → in_turn chip sheet roms schedules (done ++ drop c.at.log logs) c es ≡ leaves done c es
  unfolding served written needs_in together
  serve_is [] done c placed ends fits =
      let same : c.at.log ≡ c.at.log + 0 = omega arith in
      ap {B = Served} (λ (k : ℕ). record { bank = []; logs = done ++ drop k logs }) same
  serve_is (e ∷ es) done c placed ends fits =
      let m : ℕ = lengths es in
      let k : ℕ = (entry_needs e).log in
      let c' : Course = after_of c (entry_needs e) in
      let a : BoardAnswer = own e done c m placed ends fits in
      let done' : List ℕ = done ++ a.log in
      let on : c'.at.log ≡ c.at.log + k = onward e done c m placed ends fits in
      let more : List ℕ = written chip sheet roms schedules logs (handed c' (needs_in es)) es in
      let there : in_turn chip sheet roms schedules (turn_logs chip sheet roms schedules (done ++ drop c.at.log logs) e c) c' es
      ≡ in_turn chip sheet roms schedules (done' ++ drop c'.at.log logs) c' es
      = ap (λ (z : List ℕ). in_turn chip sheet roms schedules z c' es)
      (logs_put e done c m placed ends fits ∙ ap (λ (j : ℕ). done' ++ drop j logs) (sym on)) in
      let rest : in_turn chip sheet roms schedules (done' ++ drop c'.at.log logs) c' es ≡ leaves done' c' es
      = serve_is es done' c' (done_long e done c m placed ends fits) (ends_stay c (entry_needs e) ∙ ends) (omega (arith, fits, on)) in
      let sums : c'.at.log + m ≡ c.at.log + (k + m) = omega (arith, on) in
      let joined : done' ++ (more ++ drop (c'.at.log + m) logs) ≡ done ++ ((a.log ++ more) ++ drop (c.at.log + (k + m)) logs)
      = append_assoc done a.log (more ++ drop (c'.at.log + m) logs)
      ∙ ap (λ (z : List ℕ). done ++ z) (sym (append_assoc a.log more (drop (c'.at.log + m) logs)))
      ∙ ap (λ (j : ℕ). done ++ ((a.log ++ more) ++ drop j logs)) sums in
      λ j. record {
        bank = entry_after e (own_is e done c m placed ends fits j) ++ ((there ∙ rest) j).bank;
        logs = (ap (λ (z : Served). z.logs) (there ∙ rest) ∙ joined) j;
      }

-- THE WHOLE ROUND

begin_count : (own m : ℕ) (ends : Places) (t : ℕ) → (begin_of own m ends t).count ≤ m
unfolding begin_of
begin_count own m ends t = go (eqb (first_of (own ∷ unless (leb m most_panels) 61 ∷ [])) 0)
  where
    go : (b : Bool) → cond b m 0 ≤ m
    go true = omega arith
    go false = omega arith

module _ (sheet : Sheet) (bank roms schedules logs : List ℕ) (t : ℕ) where
  abbrev own_number : ℕ
  own_number = (chip sheet).own_number

  abbrev ends : Places
  ends = ends_of roms schedules logs

  abbrev all_needs : List Needs
  all_needs = needs_in (entries_in bank)

  -- what refuses a round but 63
  abbrev pub refusal : ℕ
  refusal = round_number own_number ends all_needs

  as_many : length all_needs ≡ length bank / entry_length
  as_many = length-needs (entries_in bank) ∙ length-entries (length bank / entry_length) bank

  -- begun, noted and planned
  pub planned_is : {b n p : Course} → b ≡ begin_of own_number (length bank / entry_length) ends t → n ≡ note_all b (needs_in (entries_of b.count bank)) → p ≡ plan_of n
      → p ≡ planned_of own_number ends t all_needs
  planned_is begun noted planned =
      let m : ℕ = length bank / entry_length in
      let start : Course = begin_of own_number m ends t in
      planned
      ∙ ap plan_of noted
      ∙ ap (λ (c : Course). plan_of (note_all c (needs_in (entries_of c.count bank)))) begun
      ∙ ap (λ (ns : List Needs). plan_of (note_all start ns)) (sym (first_needs start.count m bank (begin_count own_number m ends t)))
      ∙ ap (λ (k : ℕ). plan_of (note_all (begin_of own_number k ends t) (take (begin_of own_number k ends t).count all_needs))) (sym as_many)

  -- the entries that are noted are there
  pub noted_fit : {b : Course} → b ≡ begin_of own_number (length bank / entry_length) ends t → entry_length * b.count ≤ length bank
  noted_fit begun =
      let few = begin_count own_number (length bank / entry_length) ends t in
      omega (arith, few, ap (λ (c : Course). c.count) begun)

  module _ {p : Course} (planned : p ≡ planned_of own_number ends t all_needs) where
    -- its number is that of the round, but for 63
    pub number_is : p.number ≡ refusal
    number_is = go refusal refl
      where
        go : (k : ℕ) → refusal ≡ k → p.number ≡ refusal
        go zero e = ap (λ (c : Course). c.number) (planned ∙ plan_is ends all_needs t own_number e) ∙ sym e
        go (suc k) e = ap (λ (c : Course). c.number) planned ∙ (plan_refused ends all_needs t own_number k e).0 ∙ sym e

    pub round_refused : (p.number ≡ 0 → ⊥) → record { number = p.number; bank = bank; logs = logs } ≡ bank_answer chip sheet bank roms schedules logs t
    unfolding bank_answer bank_number first_of
    round_refused some = go p.number some number_is
      where
        go : (k : ℕ) → (k ≡ 0 → ⊥) → k ≡ refusal
            → record { number = k; bank = bank; logs = logs }
            ≡ rounded chip sheet (first_of (refusal ∷ unless (eqb (length bank % entry_length) 0) 63 ∷ [])) bank roms schedules logs t
        go zero h e = absurd (h refl)
        go (suc k) h e = ap (λ (j : ℕ). rounded chip sheet (first_of (j ∷ unless (eqb (length bank % entry_length) 0) 63 ∷ [])) bank roms schedules logs t) e

    module _ (none : p.number ≡ 0) where
      nothing : 0 ≡ refusal
      nothing = sym none ∙ number_is

      plan : p ≡ plan_for ends t all_needs
      plan = planned ∙ plan_is ends all_needs t own_number (sym nothing)

      pub round_odd : (length bank % entry_length ≡ 0 → ⊥) → record { number = 63; bank = bank; logs = logs } ≡ bank_answer chip sheet bank roms schedules logs t
      unfolding bank_answer bank_number first_of
      round_odd h =
          ap₂ (λ (j : ℕ) (b : Bool). rounded chip sheet (first_of (j ∷ unless b 63 ∷ [])) bank roms schedules logs t) nothing
          (sym (ne_eqb (length bank % entry_length) 0 h))

      module _ (even : length bank % entry_length ≡ 0) where
        count_is : p.count ≡ length bank / entry_length
        count_is = ap (λ (c : Course). c.count) plan ∙ as_many

        -- the entries that have their turns are all of the bank
        pub all_served : entry_length * p.count ≡ length bank
        all_served = omega (arith, count_is, even)

        pub first_within : Within p roms schedules logs
        first_within =
            let first : p.at ≡ first_places = ap (λ (c : Course). c.at) plan in
            record {
              rom = omega (arith, ap (λ (z : Places). z.rom) first);
              schedule = omega (arith, ap (λ (z : Places). z.schedule) first);
              log = omega (arith, ap (λ (z : Places). z.log) first);
              ends = ap (λ (c : Course). c.ends) plan;
            }

        pub round_done : {b l : List ℕ} → record { bank = b; logs = l } ≡ in_turn chip sheet roms schedules logs p (entries_of p.count bank)
            → record { number = 0; bank = b; logs = l } ≡ bank_answer chip sheet bank roms schedules logs t
        unfolding bank_answer bank_number first_of
        round_done {b} {l} turns =
            let es : List (List ℕ) = entries_in bank in
            let fit : Fit first_places ends all_needs = fits_all ends all_needs own_number (sym nothing) in
            let c : Course = plan_for ends t all_needs in
            let all : record { bank = b; logs = l } ≡ leaves sheet roms schedules logs [] c es
            = turns
            ∙ (λ j. in_turn chip sheet roms schedules logs (plan j) (entries_of (count_is j) bank))
            ∙ serve_is sheet roms schedules logs es [] c refl refl fit.log in
            let from_first : 0 + together (λ n. n.log) all_needs ≡ together (λ n. n.log) all_needs = omega arith in
            let lots = plan_hands ends all_needs t fit in
            ap {B = BankAnswer} (λ (z : Served). record { number = 0; bank = z.bank; logs = z.logs }) all
            ∙ ap₂ {C = BankAnswer} (λ (ls : List Lot) (k : ℕ). record {
              number = 0;
              bank = served chip sheet roms schedules logs ls es;
              logs = written chip sheet roms schedules logs ls es ++ drop k logs;
            }) lots from_first
            ∙ ap₂ (λ (j : ℕ) (z : Bool). rounded chip sheet (first_of (j ∷ unless z 63 ∷ [])) bank roms schedules logs t) nothing
            (sym (eq-eqb (length bank % entry_length) 0 even))
