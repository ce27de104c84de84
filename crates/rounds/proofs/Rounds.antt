-- Each panel of a round has its own run and nothing else, and a refused round changes nothing. Assumes nothing.
use mathlib.Core.Path.{◌≡◌, ◌∙◌, refl, sym, ap, ap₂}
use mathlib.Core.Bool.{Bool, true, false}
use mathlib.Core.List.{List, [], ◌∷◌, ◌++◌, append_assoc}
use Prim.Native.Nat.{ℕ, zero, suc, ◌+◌, ◌-◌, ◌≤◌, ◌<◌}
use native.Mathlib.Omega.{arith}
use lib.Dec.{leb, ltb, leb-zero}
use lib.ListN.{length, get_or, take, drop, length-append, length-drop, take-append-drop, get_or-append}
use lib.Seq.{drop-drop, drop-append-le, drop-append_seam, get_or-append-add, get_or-drop}
use borrow.Author.Tests.{ltb-true, ltb-false}
use Rattle.runs.specs.Machine.{Machine}
use Rattle.runs.specs.Refusals.{first_of, unless}
use Rattle.runs.specs.TwoRunners.{RunAnswer, Stepped, strides, run_number, told, skipping}
use Rattle.runs.specs.EveryRun.{EveryRunCountsWithin}
use Rattle.runs.specs.Lists.{skipping_one}
use Rattle.runs.proofs.Refusals.{first_is}
use Rattle.upd546.specs.declared.State.{State}
use Rattle.upd546.specs.Bytes.{part}
use Rattle.upd546.specs.TwoRunners.{chip}
use Rattle.laws.proofs.Parts.{length_part}
use Rattle.laws.proofs.Demand3.{every_run_counts_within}
use Rattle.panels.specs.declared.Needs.{Needs}
use Rattle.panels.specs.declared.Places.{Places}
use Rattle.panels.specs.declared.Lot.{Lot}
use Rattle.panels.specs.declared.Panel.{Panel}
use Rattle.panels.specs.Grants.{grants}
use Rattle.panels.specs.Places.{most_panels, first_places, next_places, wishes_of, lots_from, lots_of, together, fits, ends_of, round_number}
use Rattle.panels.specs.Round.{own_run, last_of, panel_after, needs_of, RoundAnswer, served, written, rounded, round_answer}
use Rattle.panels.proofs.Fairness.{grants_fair}
use Rattle.panels.proofs.Courses.{wishes_length, fits_all}
use Rattle.panels.proofs.Rounds.{needs_length, part_length}
use Rattle.panels.proofs.Alone.{each_alone}
use Rattle.panels.specs.Alone.{no_lot, EachAlone}
use Rattle.rounds.specs.Rounds.{Round, after, no_panel, panel_at, before, afterwards, lot_in, log_in, log_afterwards, run_in}
use Rattle.rounds.specs.Rounds.{OnItsOwn, OutsideRecords, EveryPanelIsOnItsOwn, OthersAffectNothingElse, StopsHoldUpNobody}
use Rattle.rounds.specs.Rounds.{EveryRoundIsRefusedByNumbers, SheetRefusesTheRoundFirst, RefusedRoundChangesNothing, EmptyBankDoesNothing}

none_there : (i : ℕ) {A : Type 0} → i < 0 → A
none_there i h = absurd (no i h)
  where
    no : (i : ℕ) → i < 0 → ⊥
    no i h = omega arith

apart : {n : ℕ} {A : Type 0} → 0 ≡ suc n → A
apart {n} h = absurd (no n h)
  where
    no : (n : ℕ) → 0 ≡ suc n → ⊥
    no n h = omega arith

-- ROWS

lot_grant : (at : Places) (gs : List ℕ) (ns : List Needs) (i : ℕ) → length gs ≡ length ns → i < length ns
    → (get_or (lots_from at gs ns) i no_lot).grant.0 ≡ get_or gs i 0
unfolding lots_from
lot_grant at gs [] i e h = none_there i h
lot_grant at [] (n ∷ ns) i e h = apart e
lot_grant at (g ∷ gs) (n ∷ ns) zero e h = refl
lot_grant at (g ∷ gs) (n ∷ ns) (suc i) e h = lot_grant (next_places at n) gs ns i (omega (arith, e)) (omega (arith, h))

-- places counted from these on, behind the lengths of so many panels
abbrev placed_at : Places → ℕ → List Needs → Places
placed_at at i ns = record {
  rom = at.rom + together (λ n. n.rom) (take i ns);
  schedule = at.schedule + together (λ n. n.schedule) (take i ns);
  log = at.log + together (λ n. n.log) (take i ns);
}

lot_place : (at : Places) (gs : List ℕ) (ns : List Needs) (i : ℕ) → length gs ≡ length ns → i < length ns
    → (get_or (lots_from at gs ns) i no_lot).at ≡ placed_at at i ns
unfolding lots_from together
lot_place at gs [] i e h = none_there i h
lot_place at [] (n ∷ ns) i e h = apart e
lot_place at (g ∷ gs) (n ∷ ns) zero e h = λ x. record { rom = no_more at.rom x; schedule = no_more at.schedule x; log = no_more at.log x }
  where
    no_more : (k : ℕ) → k ≡ k + 0
    no_more k = omega arith
lot_place at (g ∷ gs) (n ∷ ns) (suc i) e h =
    lot_place (next_places at n) gs ns i (omega (arith, e)) (omega (arith, h))
    ∙ (λ x. record {
      rom = further at.rom n.rom (together (λ n. n.rom) (take i ns)) x;
      schedule = further at.schedule n.schedule (together (λ n. n.schedule) (take i ns)) x;
      log = further at.log n.log (together (λ n. n.log) (take i ns)) x;
    })
  where
    further : (a b c : ℕ) → a + b + c ≡ a + (b + c)
    further a b c = omega arith

first_place : (i : ℕ) (ns : List Needs)
    → placed_at first_places i ns
    ≡ record { rom = together (λ n. n.rom) (take i ns); schedule = together (λ n. n.schedule) (take i ns); log = together (λ n. n.log) (take i ns) }
first_place i ns = λ x. record {
  rom = none_before (together (λ n. n.rom) (take i ns)) x;
  schedule = none_before (together (λ n. n.schedule) (take i ns)) x;
  log = none_before (together (λ n. n.log) (take i ns)) x;
}
  where
    none_before : (k : ℕ) → 0 + k ≡ k
    none_before k = omega arith

-- A RUN'S LOG

module _ (M : Machine State) (rom sched : List ℕ) (s : State) (log : List ℕ) (n : ℕ) where
  -- what stands behind the bytes written stays
  told_rest : (k : ℕ) (q : Stepped State) → drop (told M k q s log).written (told M k q s log).log ≡ drop (told M k q s log).written log
  told_rest zero q = drop-append_seam q.ran.bytes (drop (length q.ran.bytes) log)
  told_rest (suc k) q = refl

  run_rest : drop (skipping M rom sched s log n).written (skipping M rom sched s log n).log ≡ drop (skipping M rom sched s log n).written log
  unfolding skipping
  run_rest = told_rest (run_number M rom sched s n) (strides M rom sched n (length log) n s)

-- ALL THE PANELS OF A ROUND

module _ (M : Machine State) (C : EveryRunCountsWithin M) (roms scheds logs : List ℕ) where
  -- a panel's own run
  abbrev own : Panel → Lot → RunAnswer State
  own p lot = own_run M roms scheds logs p.needs lot p.state

  -- where m bytes of later parts come behind a panel's own
  own_long : (p : Panel) (lot : Lot) (m : ℕ) → lot.at.log + (p.needs.log + m) ≤ length logs → length (own p lot).log ≡ p.needs.log
  own_long p lot m h = part_length M C roms scheds logs p.needs lot p.state (omega (arith, h))

  abbrev log_bytes : List Panel → ℕ
  log_bytes ps = together (λ n. n.log) (needs_of ps)

  abbrev lots_for : Places → List ℕ → List Panel → List Lot
  lots_for at gs ps = lots_from at gs (needs_of ps)

  written_long : (at : Places) (gs : List ℕ) (ps : List Panel) → length gs ≡ length ps → at.log + log_bytes ps ≤ length logs
      → length (written M roms scheds logs (lots_for at gs ps) ps) ≡ log_bytes ps
  unfolding written together needs_of lots_from
  written_long at gs [] e h = refl
  written_long at [] (p ∷ ps) e h = apart e
  written_long at (g ∷ gs) (p ∷ ps) e h =
      let lot : Lot = record { grant = record { 0 = g }; at = at } in
      let w : List ℕ = written M roms scheds logs (lots_for (next_places at p.needs) gs ps) ps in
      let rest : length w ≡ log_bytes ps = written_long (next_places at p.needs) gs ps (omega (arith, e)) (omega (arith, h)) in
      omega (arith, rest, own_long p lot (log_bytes ps) h, length-append (own p lot).log w)

  -- a place's part is within its buffer
  lot_in_lem : (at : Places) (gs : List ℕ) (ps : List Panel) (i : ℕ) → length gs ≡ length ps → i < length ps → at.log + log_bytes ps ≤ length logs
      → (get_or (lots_for at gs ps) i no_lot).at.log + (panel_at i ps).needs.log ≤ length logs
  unfolding together needs_of lots_from
  lot_in_lem at gs [] i e h r = none_there i h
  lot_in_lem at [] (p ∷ ps) i e h r = apart e
  lot_in_lem at (g ∷ gs) (p ∷ ps) zero e h r = omega (arith, r)
  lot_in_lem at (g ∷ gs) (p ∷ ps) (suc i) e h r = lot_in_lem (next_places at p.needs) gs ps i (omega (arith, e)) (omega (arith, h)) (omega (arith, r))

  -- behind the records of one panel the buffer is as it was
  behind : (p : Panel) (lot : Lot) (m : ℕ) → lot.at.log + (p.needs.log + m) ≤ length logs
      → drop (own p lot).written ((own p lot).log ++ drop (lot.at.log + p.needs.log) logs) ≡ drop (own p lot).written (drop lot.at.log logs)
  behind p lot m h =
      let rom : List ℕ = part roms lot.at.rom p.needs.rom in
      let sched : List ℕ = part scheds lot.at.schedule p.needs.schedule in
      let l : List ℕ = drop lot.at.log logs in
      let k : ℕ = p.needs.log in
      let lent : List ℕ = take k l in
      let a : RunAnswer State = own p lot in
      let lent_long : length lent ≡ k = length_part logs lot.at.log k (omega (arith, h)) in
      let within : a.written ≤ length lent = (C skipping_one rom sched p.state lent lot.grant.0).written in
      drop-append-le a.written a.log (drop (lot.at.log + k) logs) (omega (arith, within, lent_long, own_long p lot m h))
      ∙ ap₂ ◌++◌ (run_rest M rom sched p.state lent lot.grant.0) (sym (drop-drop k lot.at.log logs))
      ∙ sym (drop-append-le a.written lent (drop k l) within)
      ∙ ap (drop a.written) (take-append-drop k l)

  -- a byte that is none of them, before the panel's part or behind its records
  module _ (p : Panel) (lot : Lot) (m : ℕ) (front : List ℕ) (x : ℕ) (f : length front ≡ lot.at.log)
      (h : lot.at.log + (p.needs.log + m) ≤ length logs) (o : lot.at.log ≤ x → lot.at.log + (own p lot).written ≤ x) where
    abbrev end : List ℕ
    end = (own p lot).log ++ drop (lot.at.log + p.needs.log) logs

    abbrev lent : List ℕ
    lent = drop lot.at.log logs

    -- so far behind the records
    abbrev far : ℕ
    far = x - (lot.at.log + (own p lot).written)

    either : (t : Bool) → ltb x lot.at.log ≡ t → get_or (front ++ end) x 0 ≡ get_or (front ++ lent) x 0
    either true q =
        let short : x < length front = omega (arith, ltb-true x lot.at.log q, f) in
        get_or-append front end 0 x short ∙ sym (get_or-append front lent 0 x short)
    either false q =
        let e : x ≡ length front + ((own p lot).written + far) = omega (arith, o (ltb-false x lot.at.log q), f) in
        ap (λ (y : ℕ). get_or (front ++ end) y 0) e
        ∙ get_or-append-add front end ((own p lot).written + far) 0
        ∙ sym (get_or-drop (own p lot).written end far 0)
        ∙ ap (λ (l : List ℕ). get_or l far 0) (behind p lot m h)
        ∙ get_or-drop (own p lot).written lent far 0
        ∙ sym (get_or-append-add front lent ((own p lot).written + far) 0)
        ∙ ap (λ (y : ℕ). get_or (front ++ lent) y 0) (sym e)

    one_outside : get_or ((front ++ (own p lot).log) ++ drop (lot.at.log + p.needs.log) logs) x 0 ≡ get_or (front ++ lent) x 0
    one_outside =
        ap (λ (l : List ℕ). get_or l x 0) (append_assoc front (own p lot).log (drop (lot.at.log + p.needs.log) logs))
        ∙ either (ltb x lot.at.log) refl

  -- the records of panel i leave it out
  abbrev LeftOut : ℕ → List Lot → List Panel → ℕ → Type 0
  LeftOut x lots ps i = (get_or lots i no_lot).at.log ≤ x → (get_or lots i no_lot).at.log + (own (panel_at i ps) (get_or lots i no_lot)).written ≤ x

  all_outside : (at : Places) (gs : List ℕ) (ps : List Panel) (front : List ℕ) (x : ℕ) → length front ≡ at.log → length gs ≡ length ps
      → at.log + log_bytes ps ≤ length logs → ((i : ℕ) → i < length ps → LeftOut x (lots_for at gs ps) ps i)
      → get_or (front ++ (written M roms scheds logs (lots_for at gs ps) ps ++ drop (at.log + log_bytes ps) logs)) x 0 ≡ get_or (front ++ drop at.log logs) x 0
  unfolding written together needs_of lots_from
  all_outside at gs [] front x f e r o =
      let none : at.log + 0 ≡ at.log = omega arith in
      ap (λ (k : ℕ). get_or (front ++ drop k logs) x 0) none
  all_outside at [] (p ∷ ps) front x f e r o = apart e
  all_outside at (g ∷ gs) (p ∷ ps) front x f e r o =
      let lot : Lot = record { grant = record { 0 = g }; at = at } in
      let a : List ℕ = (own p lot).log in
      let next : Places = next_places at p.needs in
      let w : List ℕ = written M roms scheds logs (lots_for next gs ps) ps in
      let sums : at.log + (p.needs.log + log_bytes ps) ≡ at.log + p.needs.log + log_bytes ps = omega arith in
      let z : List ℕ = drop (at.log + p.needs.log + log_bytes ps) logs in
      let same : front ++ ((a ++ w) ++ drop (at.log + (p.needs.log + log_bytes ps)) logs) ≡ (front ++ a) ++ (w ++ z)
      = ap (λ (k : ℕ). front ++ ((a ++ w) ++ drop k logs)) sums
      ∙ ap (λ (l : List ℕ). front ++ l) (append_assoc a w z) ∙ sym (append_assoc front a (w ++ z)) in
      ap (λ (l : List ℕ). get_or l x 0) same
      ∙ all_outside next gs ps (front ++ a) x (omega (arith, length-append front a, f, own_long p lot (log_bytes ps) r)) (omega (arith, e))
      (omega (arith, r)) (λ i h. o (suc i) (omega (arith, h)))
      ∙ one_outside p lot (log_bytes ps) front x f r (o 0 (omega arith))

-- A ROUND THAT ISN'T REFUSED

abbrev grants_of : Round → List ℕ
grants_of r = grants r.t (wishes_of (needs_of r.bank))

grants_length : (r : Round) → length (grants_of r) ≡ length r.bank
grants_length r =
    (grants_fair r.t (wishes_of (needs_of r.bank))).one_each ∙ wishes_length (needs_of r.bank) ∙ needs_length r.bank

-- what it leaves, by its number
abbrev leaves : Round → ℕ → RoundAnswer
leaves r k = rounded (chip r.sheet) k r.bank r.roms r.schedules r.logs r.t

abbrev number_of : Round → ℕ
number_of r = round_number (chip r.sheet).own_number (ends_of r.roms r.schedules r.logs) (needs_of r.bank)

after_is : (r : Round) → after r ≡ leaves r (number_of r)
unfolding round_answer
after_is r = refl

leaves_number : (r : Round) (k : ℕ) → (leaves r k).number ≡ k
leaves_number r zero = refl
leaves_number r (suc k) = refl

number_is : (r : Round) → (after r).number ≡ number_of r
number_is r = ap (λ (a : RoundAnswer). a.number) (after_is r) ∙ leaves_number r (number_of r)

-- the logs fit their buffer
record Accepted (r : Round) : Type 0 where
  answer : after r ≡ leaves r 0
  logs_fit : 0 + log_bytes (chip r.sheet) (every_run_counts_within r.sheet) r.roms r.schedules r.logs r.bank ≤ length r.logs

accepted : (r : Round) → (after r).number ≡ 0 → Accepted r
accepted r e =
    let z : number_of r ≡ 0 = sym (number_is r) ∙ e in
    record {
      answer = after_is r ∙ ap (leaves r) z;
      logs_fit = (fits_all (ends_of r.roms r.schedules r.logs) (needs_of r.bank) (chip r.sheet).own_number z).log;
    }

-- EVERY PANEL IS ON ITS OWN

module _ (r : Round) (e : (after r).number ≡ 0) where
  C : EveryRunCountsWithin (chip r.sheet)
  C = every_run_counts_within r.sheet

  alone : EachAlone (chip r.sheet) r.bank r.roms r.schedules r.logs r.t
  alone = each_alone (chip r.sheet) C r.bank r.roms r.schedules r.logs r.t e

  panel_is : (i : ℕ) → i < length r.bank → afterwards i r ≡ panel_after (before i r) (run_in i r)
  panel_is i h = alone.panel_alone i no_panel h

  log_is : (i : ℕ) → i < length r.bank → log_afterwards i r ≡ (run_in i r).log
  log_is i h = alone.log_alone i no_panel h

  -- its part of the logs has its length
  pub log_long : (i : ℕ) → i < length r.bank → length (log_in i r) ≡ (before i r).needs.log
  log_long i h =
      let inside : (lot_in i r).at.log + (before i r).needs.log ≤ length r.logs
      = lot_in_lem (chip r.sheet) C r.roms r.schedules r.logs first_places (grants_of r) r.bank i (grants_length r) h (accepted r e).logs_fit in
      length_part r.logs (lot_in i r).at.log (before i r).needs.log inside

  own_is : (i : ℕ) → i < length r.bank → OnItsOwn i r
  unfolding panel_after
  own_is i h = record {
    grant = lot_grant first_places (grants_of r) (needs_of r.bank) i (grants_length r ∙ sym (needs_length r.bank)) (omega (arith, needs_length r.bank));
    place =
        lot_place first_places (grants_of r) (needs_of r.bank) i (grants_length r ∙ sym (needs_length r.bank)) (omega (arith, needs_length r.bank))
        ∙ first_place i (needs_of r.bank);
    state = ap (λ (p : Panel). p.state) (panel_is i h);
    last = ap (λ (p : Panel). p.last) (panel_is i h);
    log = log_is i h;
    needs = ap (λ (p : Panel). p.needs) (panel_is i h);
  }

  abbrev all_logs : List ℕ
  all_logs = written (chip r.sheet) r.roms r.schedules r.logs (lots_of r.t (needs_of r.bank)) r.bank

  buffer_is : length (after r).logs ≡ length r.logs
  buffer_is =
      let k : ℕ = together (λ n. n.log) (needs_of r.bank) in
      let same : length (after r).logs ≡ length (all_logs ++ drop k r.logs) = ap (λ (a : RoundAnswer). length a.logs) (accepted r e).answer in
      let long : length all_logs ≡ k = written_long (chip r.sheet) C r.roms r.schedules r.logs first_places (grants_of r) r.bank (grants_length r) (accepted r e).logs_fit in
      omega (arith, same, long, (accepted r e).logs_fit, length-append all_logs (drop k r.logs), length-drop k r.logs)

  written_is : (i : ℕ) → i < length r.bank → (afterwards i r).last.written ≡ (run_in i r).written
  unfolding panel_after last_of
  written_is i h = ap (λ (p : Panel). p.last.written) (panel_is i h)

  outside_is : (x : ℕ) → ((i : ℕ) → i < length r.bank → OutsideRecords x i r) → get_or (after r).logs x 0 ≡ get_or r.logs x 0
  outside_is x o =
      let k : ℕ = together (λ n. n.log) (needs_of r.bank) in
      ap (λ (a : RoundAnswer). get_or a.logs x 0) (accepted r e).answer
      ∙ ap (λ (m : ℕ). get_or (all_logs ++ drop m r.logs) x 0) (sym (no_more k))
      ∙ all_outside (chip r.sheet) C r.roms r.schedules r.logs first_places (grants_of r) r.bank [] x refl (grants_length r)
      (accepted r e).logs_fit (λ i h q. omega (arith, o i h q, written_is i h))
    where
      no_more : (m : ℕ) → 0 + m ≡ m
      no_more m = omega arith

pub every_panel_is_on_its_own : EveryPanelIsOnItsOwn
every_panel_is_on_its_own r e = record { own = own_is r e; row = (alone r e).as_many; buffer = buffer_is r e; outside = outside_is r e }

-- TWO BANKS

after_same : (p q : Panel) (a : RunAnswer State) → p.needs ≡ q.needs → panel_after p a ≡ panel_after q a
unfolding panel_after
after_same p q a e = λ x. record { state = a.state; needs = e x; last = last_of a }

pub others_affect_nothing_else : OthersAffectNothingElse
others_affect_nothing_else r q i j e f h k s g =
    let same : run_in i r ≡ run_in j q
    = (λ x. skipping (chip (s.sheet x)) (s.rom x) (s.schedule x) (s.state x) (s.log x) (g x)) in
    record {
      panel =
          panel_is r e i h
          ∙ ap (panel_after (before i r)) same
          ∙ after_same (before i r) (before j q) (run_in j q) s.needs
          ∙ sym (panel_is q f j k);
      log = log_is r e i h ∙ ap (λ (a : RunAnswer State). a.log) same ∙ sym (log_is q f j k);
    }

pub stops_hold_up_nobody : StopsHoldUpNobody
stops_hold_up_nobody r q i e f h t w s =
    let k : i < length q.bank
    = omega (arith, h, needs_length r.bank, needs_length q.bank, wishes_length (needs_of r.bank), wishes_length (needs_of q.bank), ap length w) in
    others_affect_nothing_else r q i i e f h k s
    ((own_is r e i h).grant ∙ (λ x. get_or (grants (t x) (w x)) i 0) ∙ sym (own_is q f i k).grant)

-- REFUSALS

pub every_round_is_refused_by_numbers : EveryRoundIsRefusedByNumbers
unfolding round_number
every_round_is_refused_by_numbers r =
    number_is r ∙ ap (λ (m : ℕ). first_of ((chip r.sheet).own_number ∷ unless (leb m most_panels) 61 ∷ unless (fits (ends_of r.roms r.schedules r.logs) (needs_of r.bank)) 62 ∷ [])) (needs_length r.bank)

pub sheet_refuses_the_round_first : SheetRefusesTheRoundFirst
sheet_refuses_the_round_first r k e = every_round_is_refused_by_numbers r ∙ first_is _ k _ e

pub refused_round_changes_nothing : RefusedRoundChangesNothing
refused_round_changes_nothing r k e = after_is r ∙ ap (leaves r) (sym (number_is r) ∙ e)

-- of no panels nothing is too long
empty_number : (own : ℕ) (ends : Places) → round_number own ends [] ≡ own
unfolding round_number first_of together
empty_number zero ends = rw (leb-zero ends.rom, leb-zero ends.schedule, leb-zero ends.log) refl
empty_number (suc k) ends = refl

empty_leaves : (r : Round) (k : ℕ) → rounded (chip r.sheet) k [] r.roms r.schedules r.logs r.t ≡ record { panels = []; logs = r.logs; number = k }
unfolding served written together needs_of
empty_leaves r zero = refl
empty_leaves r (suc k) = refl

empty_is : (r : Round) → round_answer (chip r.sheet) [] r.roms r.schedules r.logs r.t
    ≡ record { panels = []; logs = r.logs; number = (chip r.sheet).own_number }
unfolding round_answer needs_of
empty_is r =
    ap (λ (k : ℕ). rounded (chip r.sheet) k [] r.roms r.schedules r.logs r.t)
    (empty_number (chip r.sheet).own_number (ends_of r.roms r.schedules r.logs))
    ∙ empty_leaves r (chip r.sheet).own_number

pub empty_bank_does_nothing : EmptyBankDoesNothing
empty_bank_does_nothing r e = (λ x. round_answer (chip r.sheet) (e x) r.roms r.schedules r.logs r.t) ∙ empty_is r
