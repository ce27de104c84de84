-- The turns of the panels, one after another, make the round of the definitions, on any machine whose runs write no more than their log
-- holds. Assumes nothing.
--     run_length       a run keeps the length of its log
--     turns_make       the turns make what `round_answer` says
use mathlib.Core.Path.{◌≡◌, refl, sym, ◌∙◌, ap, ap₂}
use Prim.Native.Nat.{ℕ, zero, suc, ◌+◌, ◌≤◌}
use native.Mathlib.Omega.{arith}
use mathlib.Core.List.{List, [], ◌∷◌, ◌++◌, append_assoc}
use lib.ListN.{length, take, drop, length-append, length-drop}
use lib.Seq.{take_at, drop_at, drop-drop}
use Rattle.runs.specs.Machine.{Machine}
use Rattle.runs.specs.EveryRun.{EveryRunCountsWithin}
use Rattle.runs.specs.Lists.{skipping_one}
use Rattle.runs.specs.TwoRunners.{RunAnswer, Stepped, told, strides, run_number, skipping}
use Rattle.upd546.specs.declared.State.{State}
use Rattle.upd546.specs.Bytes.{part}
use Rattle.laws.proofs.Parts.{length_part}
use Rattle.panels.specs.declared.Needs.{Needs}
use Rattle.panels.specs.declared.Places.{Places}
use Rattle.panels.specs.declared.Lot.{Lot}
use Rattle.panels.specs.declared.Panel.{Panel}
use Rattle.panels.specs.declared.Course.{Course}
use Rattle.panels.specs.Places.{together, ends_of, round_number}
use Rattle.panels.specs.Courses.{past_of, lot_of, after_of, handed, planned_of}
use Rattle.panels.specs.Round.{own_run, panel_after, needs_of, RoundAnswer, turn_run, turn_logs, served, written, rounded, round_answer}
use Rattle.panels.proofs.Courses.{fits_all, plan_for, plan_is, plan_refused, plan_hands}

pub needs_length : (ps : List Panel) → length (needs_of ps) ≡ length ps
unfolding needs_of
needs_length [] = refl
needs_length (p ∷ ps) = ap suc (needs_length ps)

-- the first k of the panels have their turns, one after another
module _ (M : Machine State) (roms scheds : List ℕ) where
  abbrev pub turns_of : ℕ → List Panel → List ℕ → Course → RoundAnswer
  turns_of zero ps ls c = record { panels = ps; logs = ls; number = c.number }
  turns_of (suc k) [] ls c = record { panels = []; logs = ls; number = c.number }
  turns_of (suc k) (p ∷ ps) ls c =
      let rest : RoundAnswer = turns_of k ps (turn_logs M roms scheds ls p c) (after_of c p.needs) in
      record { panels = panel_after p (turn_run M roms scheds ls p c) ∷ rest.panels; logs = rest.logs; number = rest.number }

module _ (M : Machine State) (counts : EveryRunCountsWithin M) where
  told_length : (k : ℕ) (q : Stepped State) (s : State) (log : List ℕ) → (told M k q s log).written ≤ length log → length (told M k q s log).log ≡ length log
  told_length zero q s log h = omega (arith, length-append q.ran.bytes (drop (length q.ran.bytes) log), length-drop (length q.ran.bytes) log)
  told_length (suc k) q s log h = refl

  -- A RUN KEEPS THE LENGTH OF ITS LOG
  pub run_length : (rom sched : List ℕ) (s : State) (log : List ℕ) (n : ℕ) → length (skipping M rom sched s log n).log ≡ length log
  unfolding skipping
  run_length rom sched s log n =
      told_length (run_number M rom sched s n) (strides M rom sched n (length log) n s) s log (counts skipping_one rom sched s log n).written

  -- so a panel's part of the logs stays as long as it is, where it lies in the buffer
  pub part_length : (roms scheds logs : List ℕ) (n : Needs) (lot : Lot) (s : State) → lot.at.log + n.log ≤ length logs
      → length (own_run M roms scheds logs n lot s).log ≡ n.log
  part_length roms scheds logs n lot s h =
      run_length (part roms lot.at.rom n.rom) (part scheds lot.at.schedule n.schedule) s (part logs lot.at.log n.log) lot.grant.0
      ∙ length_part logs lot.at.log n.log h

  module _ (roms scheds : List ℕ) where
    -- one panel's turn behind parts that are done, where its own lies in the buffer
    module _ (logs : List ℕ) (p : Panel) (done : List ℕ) (c : Course) (e : length done ≡ c.at.log) (h : c.at.log + p.needs.log ≤ length logs) where
      -- the logs before its turn, and its own run
      abbrev ls : List ℕ
      ls = done ++ drop c.at.log logs

      abbrev a : RunAnswer State
      a = own_run M roms scheds logs p.needs (lot_of c p.needs) p.state

      rest_is : drop c.at.log ls ≡ drop c.at.log logs
      rest_is = drop_at done (drop c.at.log logs) c.at.log e

      own : turn_run M roms scheds ls p c ≡ a
      unfolding turn_run lot_of
      own = ap (λ (l : List ℕ). skipping M (part roms c.at.rom p.needs.rom) (part scheds c.at.schedule p.needs.schedule) p.state
          (take p.needs.log l) (lot_of c p.needs).grant.0) rest_is

      logs_put : turn_logs M roms scheds ls p c ≡ (done ++ a.log) ++ drop (c.at.log + p.needs.log) logs
      unfolding turn_logs
      logs_put =
          let behind : drop (c.at.log + p.needs.log) ls ≡ drop (c.at.log + p.needs.log) logs =
          sym (drop-drop p.needs.log c.at.log ls) ∙ ap (drop p.needs.log) rest_is ∙ drop-drop p.needs.log c.at.log logs in
          λ j. take_at done (drop c.at.log logs) c.at.log e j ++ (own j).log ++ behind j

      done_long : length (done ++ a.log) ≡ c.at.log + p.needs.log
      unfolding lot_of
      done_long = omega (arith, length-append done a.log, part_length roms scheds logs p.needs (lot_of c p.needs) p.state h, e)

    abbrev log_lengths : List Panel → ℕ
    log_lengths ps = together (λ n. n.log) (needs_of ps)

    ends_there : (at k end : ℕ) → at + k ≤ end → past_of at k end ≡ at + k
    ends_there at k end h = omega arith

    turns_are : (logs : List ℕ) (ps : List Panel) (done : List ℕ) (c : Course) → length done ≡ c.at.log → c.ends.log ≡ length logs
        → c.at.log + log_lengths ps ≤ length logs
        → turns_of M roms scheds (length ps) ps (done ++ drop c.at.log logs) c
        ≡ record {
          panels = served M roms scheds logs (handed c (needs_of ps)) ps;
          logs = done ++ (written M roms scheds logs (handed c (needs_of ps)) ps ++ drop (c.at.log + log_lengths ps) logs);
          number = c.number;
        }
    unfolding served written needs_of together after_of
    turns_are logs [] done c e f h =
        let same : c.at.log ≡ c.at.log + 0 = omega arith in
        (λ j. record { panels = []; logs = done ++ drop (same j) logs; number = c.number })
    turns_are logs (p ∷ ps) done c e f h =
        let at = c.at.log in
        let k = p.needs.log in
        let m : ℕ = log_lengths ps in
        let inside : at + k ≤ length logs = omega (arith, h) in
        let own_a : RunAnswer State = a logs p done c e inside in
        let done' : List ℕ = done ++ own_a.log in
        let c' : Course = after_of c p.needs in
        let next : c'.at.log ≡ at + k = ends_there at k c.ends.log (omega (arith, f, inside)) in
        let lots : List Lot = handed c' (needs_of ps) in
        let more : List ℕ = written M roms scheds logs lots ps in
        let there : turns_of M roms scheds (length ps) ps (turn_logs M roms scheds (done ++ drop at logs) p c) c' ≡ turns_of M roms scheds (length ps) ps (done' ++ drop c'.at.log logs) c' =
        ap (λ (l : List ℕ). turns_of M roms scheds (length ps) ps l c') (logs_put logs p done c e inside ∙ ap (λ (n : ℕ). done' ++ drop n logs) (sym next)) in
        let rest : turns_of M roms scheds (length ps) ps (done' ++ drop c'.at.log logs) c'
        ≡ record { panels = served M roms scheds logs lots ps; logs = done' ++ (more ++ drop (c'.at.log + m) logs); number = c.number } =
        turns_are logs ps done' c' (done_long logs p done c e inside ∙ sym next) f (omega (arith, next, h)) in
        let sums : c'.at.log + m ≡ at + (k + m) = omega (arith, next) in
        let joined : done' ++ (more ++ drop (c'.at.log + m) logs) ≡ done ++ ((own_a.log ++ more) ++ drop (at + (k + m)) logs) =
        append_assoc done own_a.log (more ++ drop (c'.at.log + m) logs)
        ∙ ap (λ (z : List ℕ). done ++ z) (sym (append_assoc own_a.log more (drop (c'.at.log + m) logs)))
        ∙ ap (λ (n : ℕ). done ++ ((own_a.log ++ more) ++ drop n logs)) sums in
        let all = there ∙ rest in
        (λ j. record {
          panels = panel_after p (own logs p done c e inside j) ∷ (all j).panels;
          logs = (ap (λ (z : RoundAnswer). z.logs) all ∙ joined) j;
          number = (all j).number;
        })

    -- ==== THE WHOLE ROUND
    module _ (t : ℕ) (ps : List Panel) (logs : List ℕ) where
      abbrev ns : List Needs
      ns = needs_of ps

      abbrev ends : Places
      ends = ends_of roms scheds logs

      abbrev plan : Course
      plan = planned_of M.own_number ends t ns

      goes : round_number M.own_number ends ns ≡ 0 → turns_of M roms scheds plan.count ps logs plan ≡ rounded M 0 ps roms scheds logs t
      goes e =
          let fit = fits_all ends ns M.own_number e in
          let inside : 0 + together (λ n. n.log) ns ≤ length logs = fit.log in
          let none : 0 + together (λ n. n.log) ns ≡ together (λ n. n.log) ns = omega arith in
          ap (λ (c : Course). turns_of M roms scheds c.count ps logs c) (plan_is ends ns t M.own_number e)
          ∙ ap (λ (k : ℕ). turns_of M roms scheds k ps logs (plan_for ends t ns)) (needs_length ps)
          ∙ turns_are logs ps [] (plan_for ends t ns) refl refl inside
          ∙ ap₂ {C = RoundAnswer} (λ (lots : List Lot) (k : ℕ). record { panels = served M roms scheds logs lots ps; logs = written M roms scheds logs lots ps ++ drop k logs; number = 0 })
          (plan_hands ends ns t fit) none

      stays : (k : ℕ) → round_number M.own_number ends ns ≡ suc k → turns_of M roms scheds plan.count ps logs plan ≡ rounded M (suc k) ps roms scheds logs t
      stays k e =
          let r = plan_refused ends ns t M.own_number k e in
          ap (λ (m : ℕ). turns_of M roms scheds m ps logs plan) r.1
          ∙ ap {B = RoundAnswer} (λ (m : ℕ). record { panels = ps; logs = logs; number = m }) r.0

      -- THE TURNS MAKE THE ROUND of the definitions.
      pub turns_make : turns_of M roms scheds plan.count ps logs plan ≡ round_answer M ps roms scheds logs t
      unfolding round_answer
      turns_make = go (round_number M.own_number ends ns) refl
        where
          go : (k : ℕ) → round_number M.own_number ends ns ≡ k → turns_of M roms scheds plan.count ps logs plan ≡ rounded M (round_number M.own_number ends ns) ps roms scheds logs t
          go zero e = goes e ∙ ap (λ (n : ℕ). rounded M n ps roms scheds logs t) (sym e)
          go (suc k) e = stays k e ∙ ap (λ (n : ℕ). rounded M n ps roms scheds logs t) (sym e)
