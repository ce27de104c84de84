-- The parts of the buffers that an entry's turn is lent. Assumes nothing.
use mathlib.Core.Path.{◌≡◌, ◌∙◌, sym, ap}
use mathlib.Core.List.{List}
use Prim.Native.Nat.{ℕ, ◌-◌, ◌≤◌}
use native.Mathlib.Omega.{arith}
use lib.ListN.{length}
use borrow.Rule.Slice.PartMut.{mid_of, put_mid}
use Rattle.runs.specs.Machine.{Machine}
use Rattle.upd546.specs.declared.Sheet.{Sheet}
use Rattle.upd546.specs.Bytes.{part}
use Rattle.panels.specs.declared.Needs.{Needs}
use Rattle.panels.specs.declared.Places.{Places}
use Rattle.panels.specs.declared.Lot.{Lot}
use Rattle.panels.specs.declared.Course.{Course}
use Rattle.panels.specs.Courses.{past_of, lot_of, after_of}
use Rattle.panels.specs.Round.{with_part}
use Rattle.panels.proofs.Cuts.{cut_part, cut_put}
use Rattle.calls.specs.Call.{BoardAnswer}
use Rattle.bank_calls.specs.Entries.{entry_needs, own_answer}
use Rattle.bank_calls.specs.Round.{lot_answer}
use Rattle.bank_calls.specs.InTurn.{Within, turn_answer, turn_logs}

-- the bytes from a place within a buffer to where the part behind it ends
module _ (xs : List ℕ) (at k : ℕ) (h : at ≤ length xs) {to : ℕ} (e : to ≡ past_of at k (length xs)) where
  begins : at ≡ past_of at 0 (length xs)
  begins = omega (arith, h)

  pub lent_part : mid_of at (to - at) xs ≡ part xs at k
  lent_part = (λ j. mid_of (begins j) (e j - begins j) xs) ∙ cut_part xs at k

  pub lent_put : (ys : List ℕ) → put_mid at (to - at) xs ys ≡ with_part xs at k ys
  lent_put ys = (λ j. put_mid (begins j) (e j - begins j) xs ys) ∙ cut_put xs at k ys

-- a part begins and ends within its buffer
pub record Lent (from to : Places) (roms schedules logs : List ℕ) : Type 0 where
  pub rom : from.rom ≤ to.rom
  pub rom_end : to.rom ≤ length roms
  pub schedule : from.schedule ≤ to.schedule
  pub schedule_end : to.schedule ≤ length schedules
  pub log : from.log ≤ to.log
  pub log_end : to.log ≤ length logs

module _ (roms schedules logs : List ℕ) (c : Course) (w : Within c roms schedules logs) where
  -- what comes behind, in a buffer of logs that is as long
  pub within_on : (n : Needs) {logs' : List ℕ} → length logs' ≡ length logs → Within (after_of c n) roms schedules logs'
  unfolding after_of
  within_on n {logs'} same = record {
    rom = omega (arith, ap (λ (p : Places). p.rom) w.ends);
    schedule = omega (arith, ap (λ (p : Places). p.schedule) w.ends);
    log = omega (arith, ap (λ (p : Places). p.log) w.ends, same);
    ends = w.ends ∙ ap {B = Places} (λ (k : ℕ). record { rom = length roms; schedule = length schedules; log = k }) (sym same);
  }

  module _ (n : Needs) {next : Course} (onward : next ≡ after_of c n) where
    there : next.at ≡ (after_of c n).at
    there = ap (λ (z : Course). z.at) onward

    rom_ends : next.at.rom ≡ past_of c.at.rom n.rom (length roms)
    unfolding after_of
    rom_ends = ap (λ (p : Places). p.rom) there ∙ ap (λ (p : Places). past_of c.at.rom n.rom p.rom) w.ends

    schedule_ends : next.at.schedule ≡ past_of c.at.schedule n.schedule (length schedules)
    unfolding after_of
    schedule_ends = ap (λ (p : Places). p.schedule) there ∙ ap (λ (p : Places). past_of c.at.schedule n.schedule p.schedule) w.ends

    log_ends : next.at.log ≡ past_of c.at.log n.log (length logs)
    unfolding after_of
    log_ends = ap (λ (p : Places). p.log) there ∙ ap (λ (p : Places). past_of c.at.log n.log p.log) w.ends

    pub lent : Lent c.at next.at roms schedules logs
    lent = record {
      rom = omega (arith, rom_ends, w.rom);
      rom_end = omega (arith, rom_ends, w.rom);
      schedule = omega (arith, schedule_ends, w.schedule);
      schedule_end = omega (arith, schedule_ends, w.schedule);
      log = omega (arith, log_ends, w.log);
      log_end = omega (arith, log_ends, w.log);
    }

  -- the call of an entry on the parts that it is lent, and the logs after it
  module _ {S : Type 0} (M : Sheet → Machine S) (sheet : Sheet) (entry : List ℕ) {next : Course} (onward : next ≡ after_of c (entry_needs entry))
      {lot : Lot} (its : lot ≡ lot_of c (entry_needs entry)) where
    abbrev lent_answer : BoardAnswer
    lent_answer =
        own_answer M sheet entry
        (mid_of c.at.rom (next.at.rom - c.at.rom) roms)
        (mid_of c.at.schedule (next.at.schedule - c.at.schedule) schedules)
        (mid_of c.at.log (next.at.log - c.at.log) logs)
        lot.grant.0

    pub own_answer_lem : lent_answer ≡ turn_answer M sheet roms schedules logs entry c
    unfolding turn_answer lot_answer lot_of
    own_answer_lem = λ j.
        own_answer M sheet entry
        (lent_part roms c.at.rom (entry_needs entry).rom w.rom (rom_ends (entry_needs entry) onward) j)
        (lent_part schedules c.at.schedule (entry_needs entry).schedule w.schedule (schedule_ends (entry_needs entry) onward) j)
        (lent_part logs c.at.log (entry_needs entry).log w.log (log_ends (entry_needs entry) onward) j)
        (its j).grant.0

    pub own_logs : {log : List ℕ} → log ≡ lent_answer.log → put_mid c.at.log (next.at.log - c.at.log) logs log ≡ turn_logs M sheet roms schedules logs entry c
    unfolding turn_logs
    own_logs {log} e =
        lent_put logs c.at.log (entry_needs entry).log w.log (log_ends (entry_needs entry) onward) log
        ∙ ap (with_part logs c.at.log (entry_needs entry).log) (e ∙ ap (λ (a : BoardAnswer). a.log) own_answer_lem)
