-- The figures of the list of slices, clause by clause from the theorem. Assumes nothing.
use mathlib.Core.Path.{◌≡◌, ◌∙◌, refl, ap}
use mathlib.Core.List.{List}
use lib.Dec.{lit<, lit≤}
use lib.ListN.{length}
use Rattle.runs.specs.Laws.{Panel}
use Rattle.runs.specs.Lists.{Call, not_refused, runs, joined_log, SlicesEndAsOneRun, EndsAsOneRun}
use Rattle.upd546.specs.declared.State.{State}
use Rattle.upd546.specs.declared.Sheet.{Sheet}
use Rattle.upd546.specs.TheMachine.{fresh}
use Rattle.upd546.specs.TheSheet.{upd546_sheet}
use Rattle.upd546.specs.TwoRunners.{chip, upd546}
use Rattle.laws.proofs.Lists.{below_all}
use Rattle.laws.proofs.Demand3.{every_list_of_slices}
use Rattle.witness.specs.Slices.{rom, sched, slices, calls, with_refused, SliceFigures}
use Rattle.witness.proofs.Opened.{opened}
use Rattle.witness.proofs.Calls.{sound}

panel : Panel upd546 rom sched
unfolding opened
panel = record {
  legal = refl;
  rom_bytes = below_all 256 rom (lit< tt) refl;
  sched_bytes = below_all 256 sched (lit< tt) refl;
  not_refused_is = refl;
}

-- DEMAND 3, of these slices
one_run : SlicesEndAsOneRun chip upd546_sheet rom sched fresh slices
one_run =
    every_list_of_slices upd546_sheet rom sched fresh slices panel sound (lit≤ tt)
    ((lit≤ tt, lit≤ tt), ((lit≤ tt, lit≤ tt), ((lit≤ tt, lit≤ tt), tt)))

dropped : not_refused chip with_refused ≡ calls
unfolding opened
dropped = one_run.none_refused

pub figures : SliceFigures
unfolding opened
figures =
    let among : EndsAsOneRun chip upd546_sheet rom sched fresh with_refused = one_run.among with_refused dropped in
    record {
      all_carried_out = ap length one_run.none_refused;
      log = one_run.ends.log;
      cycle = ap (λ (s : State). s.cycle.0) one_run.ends.state;
      all_finish = one_run.ends.finish.1 refl;
      asks = one_run.asks;
      among = among.nothing.log ∙ ap (λ (cs : List (Call Sheet State)). joined_log (runs chip cs)) dropped ∙ one_run.ends.log;
    }
