-- A round as the two loops make it: panel i of the whole row is noted, and then replaced, for i from 0 up. It is the round of the
-- definitions. Assumes nothing.
use mathlib.Core.Path.{◌≡◌, refl, sym, ◌∙◌, ap, subst}
use Prim.Native.Nat.{ℕ, zero, suc, ◌+◌, ◌-◌, ◌<◌, ◌≤◌}
use native.Mathlib.Omega.{arith}
use mathlib.Core.Bool.{Bool, true, false, cond}
use mathlib.Core.List.{List, [], ◌∷◌, ◌++◌}
use lib.Dec.{eqb, leb}
use borrow.Author.Tests.{leb-true, ne_eqb}
use lib.ListN.{length, get_or, set, take, length-append, length-set, get_or-append}
use Rattle.std.proofs.lemmas.List.{get_or_default, get_or-take, length-take-le, set-append_left}
use Rattle.runs.specs.Machine.{Machine}
use Rattle.runs.specs.EveryRun.{EveryRunCountsWithin}
use Rattle.runs.specs.Refusals.{first_of, unless}
use Rattle.upd546.specs.declared.State.{State}
use Rattle.upd546.specs.TheMachine.{fresh}
use Rattle.panels.specs.declared.Panel.{Panel}
use Rattle.panels.specs.declared.Places.{Places}
use Rattle.panels.specs.declared.Course.{Course}
use Rattle.panels.specs.Places.{most_panels, ends_of}
use Rattle.panels.specs.Courses.{begin_of, note_of, plan_of, after_of, note_all, planned_of}
use Rattle.panels.specs.Round.{needs_of, panel_after, RoundAnswer, turn_run, turn_logs, round_answer}
use Rattle.panels.proofs.Rounds.{needs_length, turns_of, turns_make}

-- some panel, which is read nowhere
abbrev pub some_panel : Panel
some_panel = record {
  state = fresh;
  needs = record { wish = record { 0 = 0 }; rom = 0; schedule = 0; log = 0 };
  last = record { cycles = record { 0 = 0 }; begun = 0; written = 0; steps = 0; number = 0 };
}

-- k panels from i on are noted
abbrev pub noting : ℕ → ℕ → List Panel → Course → Course
noting zero i zs c = c
noting (suc k) i zs c = noting k (i + 1) zs (note_of c (get_or zs i some_panel).needs)

-- k panels from i on have their turns
abbrev pub serving : Machine State → (roms scheds : List ℕ) → ℕ → ℕ → List Panel → List ℕ → Course → RoundAnswer
serving M roms scheds zero i zs ls c = record { panels = zs; logs = ls; number = c.number }
serving M roms scheds (suc k) i zs ls c =
    serving M roms scheds k (i + 1) (set zs i (panel_after (get_or zs i some_panel) (turn_run M roms scheds ls (get_or zs i some_panel) c)))
    (turn_logs M roms scheds ls (get_or zs i some_panel) c) (after_of c (get_or zs i some_panel).needs)

-- no more panels are gone through than there are
none_or_all : (z : Bool) (m n : ℕ) → m ≤ n → cond z m 0 ≤ n
none_or_all true m n h = h
none_or_all false m n h = omega arith

pub begin_count : (own m : ℕ) (ends : Places) (t : ℕ) → (begin_of own m ends t).count ≤ m
unfolding begin_of
begin_count own m ends t = none_or_all (eqb (first_of (own ∷ unless (leb m most_panels) 61 ∷ [])) 0) m m (omega arith)

pub noting_count : (k i : ℕ) (zs : List Panel) (c : Course) → (noting k i zs c).count ≡ c.count
unfolding note_of
noting_count zero i zs c = refl
noting_count (suc k) i zs c = noting_count k (i + 1) zs (note_of c (get_or zs i some_panel).needs)

pub plan_count : (c : Course) (n : ℕ) → c.count ≤ n → (plan_of c).count ≤ n
unfolding plan_of
plan_count c n h = none_or_all (eqb c.number 0) c.count n h

-- ==== ONE AFTER ANOTHER: the panels behind the first ds

mid_is : (ds : List Panel) (p : Panel) (ps : List Panel) → get_or (ds ++ (p ∷ ps)) (length ds) some_panel ≡ p
mid_is [] p ps = refl
mid_is (d ∷ ds) p ps = mid_is ds p ps

mid_set : (ds : List Panel) (p : Panel) (ps : List Panel) (y : Panel) → set (ds ++ (p ∷ ps)) (length ds) y ≡ (ds ++ (y ∷ [])) ++ ps
mid_set [] p ps y = refl
mid_set (d ∷ ds) p ps y = ap {B = List Panel} (λ l. d ∷ l) (mid_set ds p ps y)

assoc : (ds : List Panel) (y : Panel) (ps : List Panel) → (ds ++ (y ∷ [])) ++ ps ≡ ds ++ (y ∷ ps)
assoc [] y ps = refl
assoc (d ∷ ds) y ps = ap {B = List Panel} (λ l. d ∷ l) (assoc ds y ps)

apart : {k : ℕ} {A : Type 0} → suc k ≤ 0 → A
apart {k} h = absurd (no k h)
  where
    no : (k : ℕ) → suc k ≤ 0 → ⊥
    no k h = omega arith

noting_after : (k : ℕ) (ps ds : List Panel) (c : Course) → k ≤ length ps → noting k (length ds) (ds ++ ps) c ≡ note_all c (take k (needs_of ps))
unfolding needs_of
noting_after zero ps ds c h = refl
noting_after (suc k) [] ds c h = apart h
noting_after (suc k) (p ∷ ps) ds c h =
    ap (λ (z : Panel). noting k (length ds + 1) (ds ++ (p ∷ ps)) (note_of c z.needs)) (mid_is ds p ps)
    ∙ ap (λ (l : List Panel). noting k (length ds + 1) l (note_of c p.needs)) (sym (assoc ds p ps))
    ∙ ap (λ (j : ℕ). noting k j ((ds ++ (p ∷ [])) ++ ps) (note_of c p.needs)) (sym (length-append ds (p ∷ [])))
    ∙ noting_after k ps (ds ++ (p ∷ [])) (note_of c p.needs) (omega (arith, h))

module _ (M : Machine State) (roms scheds : List ℕ) where
  -- what the turns leave, behind the panels ds
  abbrev behind : List Panel → RoundAnswer → RoundAnswer
  behind ds a = record { panels = ds ++ a.panels; logs = a.logs; number = a.number }

  serving_after : (k : ℕ) (ps ds : List Panel) (ls : List ℕ) (c : Course) → k ≤ length ps
      → serving M roms scheds k (length ds) (ds ++ ps) ls c ≡ behind ds (turns_of M roms scheds k ps ls c)
  serving_after zero ps ds ls c h = refl
  serving_after (suc k) [] ds ls c h = apart h
  serving_after (suc k) (p ∷ ps) ds ls c h =
      let i = length ds in
      let y : Panel = panel_after p (turn_run M roms scheds ls p c) in
      let ls' : List ℕ = turn_logs M roms scheds ls p c in
      let c' : Course = after_of c p.needs in
      let rest : RoundAnswer = turns_of M roms scheds k ps ls' c' in
      ap (λ (z : Panel). serving M roms scheds k (i + 1) (set (ds ++ (p ∷ ps)) i (panel_after z (turn_run M roms scheds ls z c))) (turn_logs M roms scheds ls z c) (after_of c z.needs)) (mid_is ds p ps)
      ∙ ap (λ (zs : List Panel). serving M roms scheds k (i + 1) zs ls' c') (mid_set ds p ps y)
      ∙ ap (λ (j : ℕ). serving M roms scheds k j ((ds ++ (y ∷ [])) ++ ps) ls' c') (sym (length-append ds (y ∷ [])))
      ∙ serving_after k ps (ds ++ (y ∷ [])) ls' c' (omega (arith, h))
      ∙ ap {B = RoundAnswer} (λ (l : List Panel). record { panels = l; logs = rest.logs; number = rest.number }) (assoc ds y rest.panels)

-- ==== THE WHOLE ROUND
module _ (M : Machine State) (counts : EveryRunCountsWithin M) (roms scheds : List ℕ) (t : ℕ) (ps : List Panel) (logs : List ℕ) where
  abbrev pub began : Course
  began = begin_of M.own_number (length ps) (ends_of roms scheds logs) t

  abbrev pub plan : Course
  plan = plan_of (noting began.count 0 ps began)

  plan_is : plan ≡ planned_of M.own_number (ends_of roms scheds logs) t (needs_of ps)
  plan_is =
      ap plan_of (noting_after began.count ps [] began (begin_count M.own_number (length ps) (ends_of roms scheds logs) t))
      ∙ ap (λ (m : ℕ). plan_of (note_all (begin_of M.own_number m (ends_of roms scheds logs) t) (take (begin_of M.own_number m (ends_of roms scheds logs) t).count (needs_of ps)))) (sym (needs_length ps))

  few : plan.count ≤ length ps
  few =
      let same = noting_count began.count 0 ps began in
      plan_count (noting began.count 0 ps began) (length ps) (omega (arith, same, begin_count M.own_number (length ps) (ends_of roms scheds logs) t))

  -- THE TWO LOOPS MAKE THE ROUND of the definitions.
  pub round_is : serving M roms scheds plan.count 0 ps logs plan ≡ round_answer M ps roms scheds logs t
  round_is =
      serving_after M roms scheds plan.count ps [] logs plan few
      ∙ ap (λ (c : Course). turns_of M roms scheds c.count ps logs c) plan_is
      ∙ turns_make M counts roms scheds t ps logs

-- ==== WHAT THE LOOPS KEEP

-- with m panels, up to 16, or none
abbrev count_of : ℕ → ℕ → ℕ
count_of k m = cond (eqb k 0) m 0

few_tested : (z : Bool) (m : ℕ) → leb m most_panels ≡ z → count_of (first_of (0 ∷ unless z 61 ∷ [])) m ≤ 16
unfolding first_of
few_tested true m h = leb-true m most_panels h
few_tested false m h = omega arith

not_none : (k : ℕ) → suc k ≡ 0 → ⊥
not_none k e = omega arith

few_of : (own m : ℕ) → count_of (first_of (own ∷ unless (leb m most_panels) 61 ∷ [])) m ≤ 16
unfolding first_of
few_of zero m = few_tested (leb m most_panels) m refl
few_of (suc own) m = rw (ne_eqb (suc own) 0 (not_none own)) (omega arith)

pub begin_few : (own m : ℕ) (ends : Places) (t : ℕ) → (begin_of own m ends t).count ≤ 16
unfolding begin_of
begin_few own m ends t = few_of own m

-- n panels are to be noted, and i are, from the course `start` on
pub record Noted (n i : ℕ) (zs : List Panel) (course start : Course) : Type 0 where
  pub few : n ≤ 16
  pub within : n ≤ length zs
  pub so_far : i ≤ n
  pub same : noting (n - i) i zs course ≡ noting n 0 zs start

pub noted_none : (own : ℕ) (ends : Places) (t : ℕ) (zs : List Panel) (c : Course) → c ≡ begin_of own (length zs) ends t → Noted c.count 0 zs c c
noted_none own ends t zs c e = record {
  few = omega (arith, begin_few own (length zs) ends t, ap (λ (x : Course). x.count) e);
  within = omega (arith, begin_count own (length zs) ends t, ap (λ (x : Course). x.count) e);
  so_far = omega arith;
  same = let all : c.count - 0 ≡ c.count = omega arith in ap (λ (k : ℕ). noting k 0 zs c) all;
}

pub noted_more : (n i : ℕ) (zs : List Panel) (x : Panel) (c d start : Course) → Noted n i zs c start → i < n → d ≡ note_of c (get_or zs i x).needs → Noted n (i + 1) zs d start
noted_more n i zs x c d start w h e =
    let read : get_or zs i x ≡ get_or zs i some_panel = get_or_default zs i x some_panel (omega (arith, w.within)) in
    let left : n - i ≡ suc (n - (i + 1)) = omega arith in
    record {
      few = w.few;
      within = w.within;
      so_far = omega arith;
      same = ap (noting (n - (i + 1)) (i + 1) zs) (e ∙ ap (λ (z : Panel). note_of c z.needs) read) ∙ ap (λ (k : ℕ). noting k i zs c) (sym left) ∙ w.same;
    }

-- panel i of the first n
pub noted_next : (n i : ℕ) (zs : List Panel) (x : Panel) (c d start : Course) → Noted n i zs c start → i < length (take n zs)
    → d ≡ note_of c (get_or (take n zs) i x).needs → Noted n (i + 1) zs d start
noted_next n i zs x c d start w h e =
    let more : i < n = omega (arith, h, length-take-le n zs w.within) in
    noted_more n i zs x c d start w more (e ∙ ap (λ (z : Panel). note_of c z.needs) (get_or-take n zs i x more))

-- all of the first n are noted
pub all_noted : (n i : ℕ) (zs : List Panel) (c start : Course) → Noted n i zs c start → length (take n zs) ≤ i → n ≤ i
all_noted n i zs c start w h = omega (arith, h, length-take-le n zs w.within)

pub noted_all : (n i : ℕ) (zs : List Panel) (c start : Course) → Noted n i zs c start → n ≤ i → c ≡ noting n 0 zs start
noted_all n i zs c start w h =
    let none : n - i ≡ 0 = omega arith in
    ap (λ (k : ℕ). noting k i zs c) (sym none) ∙ w.same

-- n panels are to be served, and i are
module _ (M : Machine State) (roms scheds : List ℕ) where
  pub record Served (n i : ℕ) (zs : List Panel) (ls : List ℕ) (course : Course) (ps : List Panel) (logs : List ℕ) (start : Course) : Type 0 where
    pub few : n ≤ 16
    pub within : n ≤ length zs
    pub so_far : i ≤ n
    pub same : serving M roms scheds (n - i) i zs ls course ≡ serving M roms scheds n 0 ps logs start

  pub served_none : (n i : ℕ) (ps : List Panel) (logs : List ℕ) (c d start : Course) → Noted n i ps c start → n ≤ i → start.count ≡ n → d ≡ plan_of c
      → Served d.count 0 ps logs d ps logs d
  served_none n i ps logs c d start w h start_is e =
      let noted_count : c.count ≡ n = ap (λ (x : Course). x.count) (noted_all n i ps c start w h) ∙ noting_count n 0 ps start ∙ start_is in
      let count_is : d.count ≡ (plan_of c).count = ap (λ (x : Course). x.count) e in
      record {
        few = omega (arith, count_is, plan_count c 16 (omega (arith, noted_count, w.few)));
        within = omega (arith, count_is, plan_count c (length ps) (omega (arith, noted_count, w.within)));
        so_far = omega arith;
        same = let all : d.count - 0 ≡ d.count = omega arith in ap (λ (k : ℕ). serving M roms scheds k 0 ps logs d) all;
      }

  pub served_start : (n i : ℕ) (ps : List Panel) (logs : List ℕ) (c d start : Course) → Noted n i ps c start → length (take n ps) ≤ i → start.count ≡ n
      → d ≡ plan_of c → Served d.count 0 ps logs d ps logs d
  served_start n i ps logs c d start w h = served_none n i ps logs c d start w (all_noted n i ps c start w h)

  pub served_more : (n i : ℕ) (zs : List Panel) (ls : List ℕ) (c : Course) (ps : List Panel) (logs : List ℕ) (start : Course) → Served n i zs ls c ps logs start → i < n
      → (x p : Panel) (ls' : List ℕ) (d : Course) → p ≡ panel_after (get_or zs i x) (turn_run M roms scheds ls (get_or zs i x) c)
      → d ≡ after_of c (get_or zs i x).needs → ls' ≡ turn_logs M roms scheds ls (get_or zs i x) c
      → Served n (i + 1) (set zs i p) ls' d ps logs start
  served_more n i zs ls c ps logs start w h x p ls' d e f g =
      let left : n - i ≡ suc (n - (i + 1)) = omega arith in
      let on : serving M roms scheds (n - (i + 1)) (i + 1) (set zs i p) ls' d ≡ serving M roms scheds (suc (n - (i + 1))) i zs ls c
      = rw (e, f, g, get_or_default zs i x some_panel (omega (arith, w.within))) refl in
      record {
        few = w.few;
        within = omega (arith, w.within, length-set zs i p);
        so_far = omega arith;
        same = on ∙ ap (λ (k : ℕ). serving M roms scheds k i zs ls c) (sym left) ∙ w.same;
      }

  -- panel i of the first n, whose row is `items`; those behind them are `rest`
  pub served_next : (n i : ℕ) (items rest : List Panel) (ls : List ℕ) (c : Course) (ps : List Panel) (logs : List ℕ) (start : Course)
      → Served n i (items ++ rest) ls c ps logs start → length items ≡ n → i < length items
      → (x p : Panel) (ls' : List ℕ) (d : Course) → p ≡ panel_after (get_or items i x) (turn_run M roms scheds ls (get_or items i x) c)
      → d ≡ after_of c (get_or items i x).needs → ls' ≡ turn_logs M roms scheds ls (get_or items i x) c
      → Served n (i + 1) (set items i p ++ rest) ls' d ps logs start
  served_next n i items rest ls c ps logs start w l h x p ls' d e f g =
      let read : get_or (items ++ rest) i x ≡ get_or items i x = get_or-append items rest x i h in
      subst (λ (row : List Panel). Served n (i + 1) row ls' d ps logs start) (set-append_left items rest i p h)
      (served_more n i (items ++ rest) ls c ps logs start w (omega (arith, h, l)) x p ls' d
      (e ∙ ap (λ (z : Panel). panel_after z (turn_run M roms scheds ls z c)) (sym read))
      (f ∙ ap (λ (z : Panel). after_of c z.needs) (sym read))
      (g ∙ ap (λ (z : Panel). turn_logs M roms scheds ls z c) (sym read)))

  pub served_all : (n i : ℕ) (zs : List Panel) (ls : List ℕ) (c : Course) (ps : List Panel) (logs : List ℕ) (start : Course) → Served n i zs ls c ps logs start → n ≤ i
      → record { panels = zs; logs = ls; number = c.number } ≡ serving M roms scheds n 0 ps logs start
  served_all n i zs ls c ps logs start w h =
      let none : n - i ≡ 0 = omega arith in
      ap (λ (k : ℕ). serving M roms scheds k i zs ls c) (sym none) ∙ w.same
