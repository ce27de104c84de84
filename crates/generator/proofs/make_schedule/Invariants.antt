-- So many records are written, and the generator and the last cycle are those behind them. Assumes nothing.
use Rattle.std.proofs.Common.{◌≡◌, ◌++◌, ◌*◌, drop}
use Rattle.upd546.specs.TheLineSchedule.{record_length}
use Rattle.generator.specs.Loads.{stands_at, last_drawn, schedule_of}
use Rattle.generator.proofs.make_schedule.Given as goal

abbrev pub invariant-loop-i : goal.invariant-loop-i
invariant-loop-i l = record {
  behind : l.stand.s ≡ stands_at l.seed l.i;
  last : l.stand.cycle ≡ last_drawn l.seed l.i;
  written : l.buffer ≡ schedule_of l.seed l.i ++ drop (record_length * l.i) l.initial.buffer;
}
