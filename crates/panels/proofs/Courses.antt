-- What a round carries comes to the numbers, grants and places of the definitions, for any list of needs. Assumes nothing.
--     fits_all         where a round isn't refused, the lengths of each kind together are within their buffer
--     plan_is          and before the first turn it carries the shares of `grants`, and the first places
--     plan_refused     where it is refused, it carries the number, and no panel is gone through
--     plan_hands       from the plan on each panel has its lot: what `grants` says, behind the parts before it
use mathlib.Core.Path.{◌≡◌, refl, sym, ◌∙◌, ap, subst}
use Prim.Native.Nat.{ℕ, zero, suc, ◌+◌, ◌-◌, ◌≤◌}
use native.Mathlib.Omega.{arith}
use mathlib.Core.Bool.{Bool, true, false, cond, ◌||◌, ◌&&◌}
use mathlib.Core.List.{List, [], ◌∷◌}
use lib.Dec.{T as Holds, leb, eqb}
use lib.ListN.{length, take}
use lib.Seq.{take-length}
use borrow.Author.Tests.{ltb-false, leb-true, le-leb, le-ltb, ne_eqb}
use Rattle.runs.specs.Refusals.{first_of, unless}
use Rattle.laws.proofs.Lists.{and_left, and_right}
use Rattle.panels.specs.declared.Needs.{Needs}
use Rattle.panels.specs.declared.Places.{Places}
use Rattle.panels.specs.declared.Lot.{Lot}
use Rattle.panels.specs.declared.Course.{Course}
use Rattle.panels.specs.Grants.{sum, firsts, more_of, granted, share_of, left_of}
use Rattle.panels.specs.Places.{most_panels, first_places, next_places, wishes_of, lots_from, lots_of, together, fits, round_number}
use Rattle.panels.specs.Courses.{begin_of, past_of, past_all, short_of, note_of, plan_of, lot_of, after_of, note_all, handed, planned_of}

-- the parts of these panels, from these places on, end within their buffers
pub record Fit (at ends : Places) (ns : List Needs) : Type 0 where
  pub rom : at.rom + together (λ n. n.rom) ns ≤ ends.rom
  pub schedule : at.schedule + together (λ n. n.schedule) ns ≤ ends.schedule
  pub log : at.log + together (λ n. n.log) ns ≤ ends.log

clash : true ≡ false → ⊥
clash e = subst Holds e tt

apart : (k : ℕ) → suc k ≡ 0 → ⊥
apart k h = omega arith

or3 : (a b c : Bool) → (a || b || c) ≡ false → (a ≡ false) × ((b ≡ false) × (c ≡ false))
or3 false false false e = (refl, (refl, refl))
or3 false false true e = absurd (clash e)
or3 false true c e = absurd (clash e)
or3 true b c e = absurd (clash e)

pub wishes_length : (ns : List Needs) → length (wishes_of ns) ≡ length ns
unfolding wishes_of
wishes_length [] = refl
wishes_length (n ∷ ns) = ap suc (wishes_length ns)

-- ==== WHAT IS NOTED

keeps_count : (ns : List Needs) (c : Course) → (note_all c ns).count ≡ c.count
unfolding note_of
keeps_count [] c = refl
keeps_count (n ∷ ns) c = keeps_count ns (note_of c n)

keeps_share : (ns : List Needs) (c : Course) → (note_all c ns).share ≡ c.share
unfolding note_of
keeps_share [] c = refl
keeps_share (n ∷ ns) c = keeps_share ns (note_of c n)

keeps_ends : (ns : List Needs) (c : Course) → (note_all c ns).ends ≡ c.ends
unfolding note_of
keeps_ends [] c = refl
keeps_ends (n ∷ ns) c = keeps_ends ns (note_of c n)

-- the first shares are taken from what there is
takes_firsts : (ns : List Needs) (c : Course) → (note_all c ns).left ≡ c.left - sum (firsts c.share (wishes_of ns))
unfolding note_of sum firsts wishes_of
takes_firsts [] c = omega arith
takes_firsts (n ∷ ns) c = takes_firsts ns (note_of c n) ∙ omega arith

stays_62 : (ns : List Needs) (c : Course) → c.number ≡ 62 → (note_all c ns).number ≡ 62
unfolding note_of
stays_62 [] c e = e
stays_62 (n ∷ ns) c e = stays_62 ns (note_of c n) (by_case (short_of c.at c.ends n))
  where
    by_case : (z : Bool) → cond z 62 c.number ≡ 62
    by_case true = refl
    by_case false = e

-- a place within the buffer moves on by the whole length
past_is : (at k m end : ℕ) → at + (k + m) ≤ end → past_of at k end ≡ at + k
past_is at k m end h = omega arith

past_all-is : (at ends : Places) (n : Needs) (ns : List Needs) → Fit at ends (n ∷ ns) → past_all at ends n ≡ next_places at n
unfolding together
past_all-is at ends n ns f = λ j. record {
  rom = past_is at.rom n.rom (together (λ m. m.rom) ns) ends.rom f.rom j;
  schedule = past_is at.schedule n.schedule (together (λ m. m.schedule) ns) ends.schedule f.schedule j;
  log = past_is at.log n.log (together (λ m. m.log) ns) ends.log f.log j;
}

-- the panels behind one that fits
pub fit_on : (at ends : Places) (n : Needs) (ns : List Needs) → Fit at ends (n ∷ ns) → Fit (past_all at ends n) ends ns
unfolding together
fit_on at ends n ns f = record { rom = omega (arith, f.rom); schedule = omega (arith, f.schedule); log = omega (arith, f.log) }

room_for : (at k m end : ℕ) → at + (k + m) ≤ end → k ≤ end - at
room_for at k m end h = omega arith

all_fit : (ns : List Needs) (c : Course) → Fit c.at c.ends ns → (note_all c ns).number ≡ c.number
unfolding note_of together
all_fit [] c f = refl
all_fit (n ∷ ns) c f =
    let r = le-ltb _ _ (room_for c.at.rom n.rom (together (λ m. m.rom) ns) c.ends.rom f.rom) in
    let s = le-ltb _ _ (room_for c.at.schedule n.schedule (together (λ m. m.schedule) ns) c.ends.schedule f.schedule) in
    let l = le-ltb _ _ (room_for c.at.log n.log (together (λ m. m.log) ns) c.ends.log f.log) in
    let fine : (note_of c n).number ≡ c.number = rw (r, s, l) refl in
    all_fit ns (note_of c n) (fit_on c.at c.ends n ns f) ∙ fine

-- no part begins past its buffer's end
record Inside (at ends : Places) : Type 0 where
  rom : at.rom ≤ ends.rom
  schedule : at.schedule ≤ ends.schedule
  log : at.log ≤ ends.log

-- where one kind fits with the rest of its lengths behind it
fit_back : (at k m end : ℕ) → at ≤ end → k ≤ end - at → past_of at k end + m ≤ end → at + (k + m) ≤ end
fit_back at k m end h i g = omega (arith, h, i, g)

not_all_fit : (ns : List Needs) (c : Course) → c.number ≡ 0 → Inside c.at c.ends → (Fit c.at c.ends ns → ⊥) → (note_all c ns).number ≡ 62
unfolding note_of together
not_all_fit [] c e i f = absurd (f (record { rom = omega (arith, i.rom); schedule = omega (arith, i.schedule); log = omega (arith, i.log) }))
not_all_fit (n ∷ ns) c e i f = by_case (short_of c.at c.ends n) refl (not_all_fit ns (note_of c n))
  where
    inside : Inside (past_all c.at c.ends n) c.ends
    inside = record { rom = omega arith; schedule = omega arith; log = omega arith }

    by_case : (z : Bool) → short_of c.at c.ends n ≡ z
        → ((note_of c n).number ≡ 0 → Inside (past_all c.at c.ends n) c.ends → (Fit (past_all c.at c.ends n) c.ends ns → ⊥) → (note_all (note_of c n) ns).number ≡ 62)
        → (note_all (note_of c n) ns).number ≡ 62
    by_case true h ih = stays_62 ns (note_of c n) (ap (λ (z : Bool). cond z 62 c.number) h)
    by_case false h ih =
        let o = or3 _ _ _ h in
        ih (ap (λ (z : Bool). cond z 62 c.number) h ∙ e) inside
        (λ g. f (record {
          rom = fit_back c.at.rom n.rom (together (λ m. m.rom) ns) c.ends.rom i.rom (ltb-false _ _ o.0) g.rom;
          schedule = fit_back c.at.schedule n.schedule (together (λ m. m.schedule) ns) c.ends.schedule i.schedule (ltb-false _ _ o.1.0) g.schedule;
          log = fit_back c.at.log n.log (together (λ m. m.log) ns) c.ends.log i.log (ltb-false _ _ o.1.1) g.log;
        }))

-- ==== WHAT IS HANDED OUT

handed_is : (ns : List Needs) (c : Course) → Fit c.at c.ends ns → handed c ns ≡ lots_from c.at (granted c.share c.left (wishes_of ns)) ns
unfolding lot_of after_of granted wishes_of lots_from
handed_is [] c f = refl
handed_is (n ∷ ns) c f =
    let gs : List ℕ = granted c.share (c.left - more_of c.share c.left n.wish.0) (wishes_of ns) in
    ap (λ (l : List Lot). lot_of c n ∷ l) (handed_is ns (after_of c n) (fit_on c.at c.ends n ns f) ∙ ap (λ (at : Places). lots_from at gs ns) (past_all-is c.at c.ends n ns f))

-- ==== THE PLAN

-- what the round carries before its first turn, where it isn't refused
abbrev pub plan_for : Places → ℕ → List Needs → Course
plan_for ends t ns = record { count = length ns; share = share_of t (length (wishes_of ns)); left = left_of t (wishes_of ns); at = first_places; ends = ends; number = 0 }

module _ (ends : Places) (ns : List Needs) where
  abbrev rom_test : Bool
  rom_test = leb (together (λ n. n.rom) ns) ends.rom

  abbrev schedule_test : Bool
  schedule_test = leb (together (λ n. n.schedule) ns) ends.schedule

  abbrev log_test : Bool
  log_test = leb (together (λ n. n.log) ns) ends.log

  tests_fit : fits ends ns ≡ true → Fit first_places ends ns
  tests_fit e =
      let r : together (λ n. n.rom) ns ≤ ends.rom = leb-true _ _ (and_left rom_test schedule_test (and_left (rom_test && schedule_test) log_test e)) in
      let s : together (λ n. n.schedule) ns ≤ ends.schedule = leb-true _ _ (and_right rom_test schedule_test (and_left (rom_test && schedule_test) log_test e)) in
      let l : together (λ n. n.log) ns ≤ ends.log = leb-true _ _ (and_right (rom_test && schedule_test) log_test e) in
      record { rom = omega (arith, r); schedule = omega (arith, s); log = omega (arith, l) }

  no_more : (m : ℕ) (end : ℕ) → 0 + m ≤ end → m ≤ end
  no_more m end h = omega arith

  fit_tests : Fit first_places ends ns → fits ends ns ≡ true
  fit_tests f = rw (le-leb _ _ (no_more _ _ f.rom), le-leb _ _ (no_more _ _ f.schedule), le-leb _ _ (no_more _ _ f.log)) refl

  -- where a round isn't refused, all parts lie in their buffers
  pub fits_all : (own : ℕ) → round_number own ends ns ≡ 0 → Fit first_places ends ns
  unfolding round_number first_of
  fits_all zero e = tests_fit (go (leb (length ns) most_panels) (fits ends ns) e)
    where
      go : (few all : Bool) → first_of (unless few 61 ∷ unless all 62 ∷ []) ≡ 0 → all ≡ true
      go true true h = refl
      go true false h = absurd (apart 61 h)
      go false all h = absurd (apart 60 h)
  fits_all (suc k) e = absurd (apart k e)

  module _ (t : ℕ) where
    -- a round that no number has refused before a panel is noted
    abbrev start : Course
    start = record { count = length ns; share = share_of t (length ns); left = t; at = first_places; ends = ends; number = 0 }

    -- and all its panels noted
    abbrev noted : Course
    noted = note_all start (take (length ns) ns)

    same : noted ≡ note_all start ns
    same = ap (note_all start) (take-length ns)

    number_is : (all : Bool) → fits ends ns ≡ all → noted.number ≡ unless all 62
    number_is true e = ap (λ (c : Course). c.number) same ∙ all_fit ns start (tests_fit e)
    number_is false e =
        ap (λ (c : Course). c.number) same
        ∙ not_all_fit ns start refl (record { rom = omega arith; schedule = omega arith; log = omega arith }) (λ f. clash (sym (fit_tests f) ∙ e))

    noted_plan : noted.number ≡ 0 → plan_of noted ≡ plan_for ends t ns
    unfolding plan_of
    noted_plan e =
        let share_is : noted.share ≡ share_of t (length (wishes_of ns)) = ap (λ (c : Course). c.share) same ∙ keeps_share ns start ∙ ap (share_of t) (sym (wishes_length ns)) in
        let left_is : noted.left ≡ left_of t (wishes_of ns) =
        ap (λ (c : Course). c.left) same ∙ takes_firsts ns start ∙ ap (λ (m : ℕ). t - sum (firsts (share_of t m) (wishes_of ns))) (sym (wishes_length ns)) in
        let count_is : noted.count ≡ length ns = ap (λ (c : Course). c.count) same ∙ keeps_count ns start in
        let ends_are : noted.ends ≡ ends = ap (λ (c : Course). c.ends) same ∙ keeps_ends ns start in
        λ j. record { count = cond (eqb (e j) 0) (count_is j) 0; share = share_is j; left = left_is j; at = first_places; ends = ends_are j; number = e j }

    abbrev begun : ℕ → Bool → Course
    begun own few =
        let k = first_of (own ∷ unless few 61 ∷ []) in
        record { count = cond (eqb k 0) (length ns) 0; share = share_of t (length ns); left = t; at = first_places; ends = ends; number = k }

    abbrev planned : ℕ → Bool → Course
    planned own few = plan_of (note_all (begun own few) (take (begun own few).count ns))

    abbrev refusal : ℕ → Bool → Bool → ℕ
    refusal own few all = first_of (own ∷ unless few 61 ∷ unless all 62 ∷ [])

    accepted : (own : ℕ) (few all : Bool) → fits ends ns ≡ all → refusal own few all ≡ 0 → planned own few ≡ plan_for ends t ns
    unfolding first_of
    accepted zero true true f e = noted_plan (number_is true f)
    accepted zero true false f e = absurd (apart 61 e)
    accepted zero false all f e = absurd (apart 60 e)
    accepted (suc k) few all f e = absurd (apart k e)

    turned_away : (c : Course) (k : ℕ) → c.number ≡ suc k → ((plan_of c).number ≡ suc k) × ((plan_of c).count ≡ 0)
    unfolding plan_of
    turned_away c k e = (e, ap (λ (m : ℕ). cond (eqb m 0) c.count 0) e ∙ ap (λ (z : Bool). cond z c.count 0) (ne_eqb (suc k) 0 (apart k)))

    -- where no panel is gone through, none is noted
    at_once : (c : Course) (k : ℕ) → c.count ≡ 0 → c.number ≡ suc k
        → ((plan_of (note_all c (take c.count ns))).number ≡ suc k) × ((plan_of (note_all c (take c.count ns))).count ≡ 0)
    at_once c k z e =
        let none : note_all c (take c.count ns) ≡ c = ap (λ (m : ℕ). note_all c (take m ns)) z in
        let away = turned_away c k e in
        (ap (λ (d : Course). (plan_of d).number) none ∙ away.0, ap (λ (d : Course). (plan_of d).count) none ∙ away.1)

    none_counted : (m : ℕ) → cond (eqb (suc m) 0) (length ns) 0 ≡ 0
    none_counted m = ap (λ (z : Bool). cond z (length ns) 0) (ne_eqb (suc m) 0 (apart m))

    refused : (own : ℕ) (few all : Bool) → fits ends ns ≡ all → (k : ℕ) → refusal own few all ≡ suc k → ((planned own few).number ≡ suc k) × ((planned own few).count ≡ 0)
    unfolding first_of
    refused zero true true f k e = absurd (apart k (sym e))
    refused zero true false f k e = turned_away noted k (number_is false f ∙ e)
    refused zero false all f k e = at_once (begun zero false) k (none_counted 60) e
    refused (suc m) few all f k e = at_once (begun (suc m) few) k (none_counted m) e

    -- THE PLAN OF A ROUND THAT ISN'T REFUSED
    pub plan_is : (own : ℕ) → round_number own ends ns ≡ 0 → planned_of own ends t ns ≡ plan_for ends t ns
    unfolding round_number begin_of
    plan_is own e = accepted own (leb (length ns) most_panels) (fits ends ns) refl e

    -- AND OF ONE THAT IS
    pub plan_refused : (own k : ℕ) → round_number own ends ns ≡ suc k → ((planned_of own ends t ns).number ≡ suc k) × ((planned_of own ends t ns).count ≡ 0)
    unfolding round_number begin_of
    plan_refused own k e = refused own (leb (length ns) most_panels) (fits ends ns) refl k e

    -- WHAT EACH PANEL HAS WHEN ITS TURN COMES
    pub plan_hands : Fit first_places ends ns → handed (plan_for ends t ns) ns ≡ lots_of t ns
    plan_hands f = handed_is ns (plan_for ends t ns) f
