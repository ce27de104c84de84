-- A trial is the run with the first k records. Assumes nothing.
use Rattle.shortest.proofs.Ends.{run_kept}
use Rattle.shortest.proofs.Trial.stops_with_first.Goals as goal

pub stops_by-requires : goal.stops_by-requires
stops_by-requires c =
    let a = c.args in
    record {
      taken = run_kept a.self.sheet a.self.rom.now a.self.sched.now a.k c.requires.some a.s a.n c.requires.ready.taken;
      room = c.requires.ready.room;
    }
