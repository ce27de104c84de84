-- Each panel of a round that isn't refused has its own run and nothing else, on any machine whose runs write no more than their log
-- holds. Assumes nothing.
use mathlib.Core.Path.{◌≡◌, refl, sym, ◌∙◌, ap}
use Prim.Native.Nat.{ℕ, zero, suc, ◌+◌, ◌≤◌, ◌<◌}
use native.Mathlib.Omega.{arith}
use mathlib.Core.List.{List, [], ◌∷◌, ◌++◌, append_assoc}
use lib.ListN.{length, get_or, take, drop, length-append}
use lib.Seq.{take_at, drop_at}
use Rattle.runs.specs.Machine.{Machine}
use Rattle.runs.specs.EveryRun.{EveryRunCountsWithin}
use Rattle.runs.specs.TwoRunners.{Stepped, told, strides, run_number, skipping}
use Rattle.upd546.specs.declared.State.{State}
use Rattle.upd546.specs.Bytes.{part}
use Rattle.panels.specs.declared.Needs.{Needs}
use Rattle.panels.specs.declared.Places.{Places}
use Rattle.panels.specs.declared.Lot.{Lot}
use Rattle.panels.specs.declared.Panel.{Panel}
use Rattle.panels.specs.Grants.{grants}
use Rattle.panels.specs.Places.{first_places, next_places, wishes_of, lots_from, lots_of, together, ends_of, round_number}
use Rattle.panels.specs.Round.{own_run, panel_after, needs_of, RoundAnswer, served, written, rounded, round_answer}
use Rattle.panels.specs.Alone.{no_lot, EachAlone}
use Rattle.panels.proofs.Fairness.{grants_fair}
use Rattle.panels.proofs.Courses.{wishes_length, fits_all}
use Rattle.panels.proofs.Rounds.{needs_length, part_length}

none_there : (i : ℕ) {A : Type 0} → i < 0 → A
none_there i h = absurd (no i h)
  where
    no : (i : ℕ) → i < 0 → ⊥
    no i h = omega arith

apart : {n : ℕ} {A : Type 0} → 0 ≡ suc n → A
apart {n} h = absurd (no n h)
  where
    no : (n : ℕ) → 0 ≡ suc n → ⊥
    no n h = omega arith

-- one lot for each panel
lots_length : (ns : List Needs) (gs : List ℕ) (at : Places) → length gs ≡ length ns → length (lots_from at gs ns) ≡ length ns
unfolding lots_from
lots_length [] gs at l = refl
lots_length (n ∷ ns) [] at l = apart l
lots_length (n ∷ ns) (g ∷ gs) at l = ap suc (lots_length ns gs (next_places at n) (omega (arith, l)))

module _ (M : Machine State) where
  -- what a run doesn't write stays
  told_rest : (k : ℕ) (q : Stepped State) (s : State) (log : List ℕ)
      → drop (told M k q s log).written (told M k q s log).log ≡ drop (told M k q s log).written log
  told_rest zero q s log = drop_at q.ran.bytes (drop (length q.ran.bytes) log) (length q.ran.bytes) refl
  told_rest (suc k) q s log = refl

  run_rest : (rom sched : List ℕ) (s : State) (log : List ℕ) (n : ℕ)
      → drop (skipping M rom sched s log n).written (skipping M rom sched s log n).log ≡ drop (skipping M rom sched s log n).written log
  unfolding skipping
  run_rest rom sched s log n = told_rest (run_number M rom sched s n) (strides M rom sched n (length log) n s) s log

module _ (M : Machine State) (roms scheds logs : List ℕ) where
  served_length : (ps : List Panel) (lots : List Lot) → length (served M roms scheds logs lots ps) ≡ length ps
  unfolding served
  served_length [] lots = refl
  served_length (p ∷ ps) [] = refl
  served_length (p ∷ ps) (lot ∷ lots) = ap suc (served_length ps lots)

  served_at : (ps : List Panel) (lots : List Lot) (i : ℕ) (d : Panel) → length lots ≡ length ps → i < length ps
      → get_or (served M roms scheds logs lots ps) i d
      ≡ panel_after (get_or ps i d) (own_run M roms scheds logs (get_or ps i d).needs (get_or lots i no_lot) (get_or ps i d).state)
  unfolding served
  served_at [] lots i d l h = none_there i h
  served_at (p ∷ ps) [] i d l h = apart l
  served_at (p ∷ ps) (lot ∷ lots) zero d l h = refl
  served_at (p ∷ ps) (lot ∷ lots) (suc i) d l h = served_at ps lots i d (omega (arith, l)) (omega (arith, h))

  module _ (counts : EveryRunCountsWithin M) where
    abbrev log_lengths : List Panel → ℕ
    log_lengths ps = together (λ n. n.log) (needs_of ps)

    -- the part of a panel whose lot is at a place, with more behind it in the buffer
    one_long : (p : Panel) (at : Places) (g m : ℕ) → at.log + (p.needs.log + m) ≤ length logs
        → length (own_run M roms scheds logs p.needs (record { grant = record { 0 = g }; at = at }) p.state).log ≡ p.needs.log
    one_long p at g m h = part_length M counts roms scheds logs p.needs (record { grant = record { 0 = g }; at = at }) p.state (omega (arith, h))

    written_long : (ps : List Panel) (gs : List ℕ) (at : Places) → length gs ≡ length ps → at.log + log_lengths ps ≤ length logs
        → length (written M roms scheds logs (lots_from at gs (needs_of ps)) ps) ≡ log_lengths ps
    unfolding written together lots_from needs_of
    written_long [] gs at l h = refl
    written_long (p ∷ ps) [] at l h = apart l
    written_long (p ∷ ps) (g ∷ gs) at l h =
        let rest = written_long ps gs (next_places at p.needs) (omega (arith, l)) (omega (arith, h)) in
        let a : List ℕ = (own_run M roms scheds logs p.needs (record { grant = record { 0 = g }; at = at }) p.state).log in
        omega (arith, rest, one_long p at g (log_lengths ps) h, length-append a (written M roms scheds logs (lots_from (next_places at p.needs) gs (needs_of ps)) ps))

    written_at : (ps : List Panel) (gs : List ℕ) (at : Places) (i : ℕ) (d : Panel) (front z : List ℕ) → length gs ≡ length ps → i < length ps
        → at.log + log_lengths ps ≤ length logs → length front ≡ at.log
        → part (front ++ (written M roms scheds logs (lots_from at gs (needs_of ps)) ps ++ z)) (get_or (lots_from at gs (needs_of ps)) i no_lot).at.log (get_or ps i d).needs.log
        ≡ (own_run M roms scheds logs (get_or ps i d).needs (get_or (lots_from at gs (needs_of ps)) i no_lot) (get_or ps i d).state).log
    unfolding written together lots_from needs_of
    written_at [] gs at i d front z l h r e = none_there i h
    written_at (p ∷ ps) [] at i d front z l h r e = apart l
    written_at (p ∷ ps) (g ∷ gs) at zero d front z l h r e =
        let a : List ℕ = (own_run M roms scheds logs p.needs (record { grant = record { 0 = g }; at = at }) p.state).log in
        let w : List ℕ = written M roms scheds logs (lots_from (next_places at p.needs) gs (needs_of ps)) ps in
        ap (take p.needs.log) (drop_at front ((a ++ w) ++ z) at.log e ∙ append_assoc a w z)
        ∙ take_at a (w ++ z) p.needs.log (one_long p at g (log_lengths ps) r)
    written_at (p ∷ ps) (g ∷ gs) at (suc i) d front z l h r e =
        let a : List ℕ = (own_run M roms scheds logs p.needs (record { grant = record { 0 = g }; at = at }) p.state).log in
        let next : Places = next_places at p.needs in
        let w : List ℕ = written M roms scheds logs (lots_from next gs (needs_of ps)) ps in
        let there : ℕ = (get_or (lots_from next gs (needs_of ps)) i no_lot).at.log in
        let moved : front ++ ((a ++ w) ++ z) ≡ (front ++ a) ++ (w ++ z) = ap (λ (l : List ℕ). front ++ l) (append_assoc a w z) ∙ sym (append_assoc front a (w ++ z)) in
        ap (λ (l : List ℕ). part l there (get_or ps i d).needs.log) moved
        ∙ written_at ps gs next i d (front ++ a) z (omega (arith, l)) (omega (arith, h)) (omega (arith, r))
        (omega (arith, length-append front a, one_long p at g (log_lengths ps) r, e))

module _ (M : Machine State) (counts : EveryRunCountsWithin M) (ps : List Panel) (roms scheds logs : List ℕ) (t : ℕ) where
  abbrev number : ℕ
  number = round_number M.own_number (ends_of roms scheds logs) (needs_of ps)

  -- THE NUMBER of a round
  rounded-number : (k : ℕ) → (rounded M k ps roms scheds logs t).number ≡ k
  rounded-number zero = refl
  rounded-number (suc k) = refl

  pub number_is : (round_answer M ps roms scheds logs t).number ≡ number
  unfolding round_answer
  number_is = rounded-number number

  goes : number ≡ 0 → round_answer M ps roms scheds logs t ≡ rounded M 0 ps roms scheds logs t
  unfolding round_answer
  goes e = ap (λ (k : ℕ). rounded M k ps roms scheds logs t) e

  -- EACH PANEL OF A ROUND HAS ITS OWN RUN.
  pub each_alone : (round_answer M ps roms scheds logs t).number ≡ 0 → EachAlone M ps roms scheds logs t
  each_alone h =
      let e : number ≡ 0 = sym number_is ∙ h in
      let is = goes e in
      let ns : List Needs = needs_of ps in
      let gs : List ℕ = grants t (wishes_of ns) in
      let many : length gs ≡ length ps = (grants_fair t (wishes_of ns)).one_each ∙ wishes_length ns ∙ needs_length ps in
      let lots : length (lots_of t ns) ≡ length ps = lots_length ns gs first_places (many ∙ sym (needs_length ps)) ∙ needs_length ps in
      let inside : 0 + together (λ n. n.log) ns ≤ length logs = (fits_all (ends_of roms scheds logs) ns M.own_number e).log in
      let all : List ℕ = written M roms scheds logs (lots_of t ns) ps in
      let end : List ℕ = drop (together (λ n. n.log) ns) logs in
      record {
        as_many = ap (λ (a : RoundAnswer). length a.panels) is ∙ served_length M roms scheds logs ps (lots_of t ns);
        panel_alone = λ i d m. ap (λ (a : RoundAnswer). get_or a.panels i d) is ∙ served_at M roms scheds logs ps (lots_of t ns) i d lots m;
        log_alone = λ i d m.
            ap (λ (a : RoundAnswer). part a.logs (get_or (lots_of t ns) i no_lot).at.log (get_or ps i d).needs.log) is
            ∙ written_at M roms scheds logs counts ps gs first_places i d [] end many m inside refl;
        own_bytes = λ i d m. run_rest M _ _ (get_or ps i d).state (part logs (get_or (lots_of t ns) i no_lot).at.log (get_or ps i d).needs.log) _;
        rest_stays =
            ap (λ (a : RoundAnswer). drop (together (λ n. n.log) ns) a.logs) is
            ∙ drop_at all end (together (λ n. n.log) ns) (written_long M roms scheds logs counts ps gs first_places many inside);
      }
