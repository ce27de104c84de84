-- A run in pieces: where a piece leads, and what is known between pieces. Assumes nothing.
use mathlib.Core.Path.{◌≡◌, ◌∙◌, refl, sym, ap}
use mathlib.Core.List.{List}
use mathlib.Core.Logic.{◌⊎◌, ⊎_elim}
use mathlib.Core.Option.{Option, none}
use Prim.Native.Nat.{ℕ, zero, suc, ◌+◌, ◌-◌, ◌*◌, ◌<◌, ◌≤◌}
use native.Mathlib.Omega.{arith}
use lib.ListN.{length, take, replicate, length-replicate}
use borrow.Author.Tests.{le-leb}
use Rattle.runs.specs.Machine.{Machine, Out, stop, went}
use Rattle.runs.specs.Laws.{Bytes}
use Rattle.runs.specs.Lists.{skipping_one, run_answer, AnswersAs}
use Rattle.runs.specs.declared.Version.TheVariants.{Two}
use Rattle.runs.specs.TwoRunners.{Ran, RestoreAnswer, end_with, on_out, log_bound, unbroken, restore_answer}
use Rattle.runs.proofs.Cut.{first_stop, unbroken-cut}
use Rattle.runs.proofs.Iterate.{Reached, reaches}
use Rattle.runs.proofs.Calls.{fit_run, run_same}
use Rattle.upd546.specs.declared.Sheet.{Sheet}
use Rattle.upd546.specs.declared.State.{State}
use Rattle.upd546.specs.StateImage.{image_length, state_number, version_number, absent_zero}
use Rattle.upd546.specs.Bytes.{number_at}
use Rattle.upd546.specs.TheSheet.{sheet_number}
use Rattle.upd546.specs.TheLineSchedule.{record_length, record_count, record_cycle, record_lines, lines_among, lines_at}
use Rattle.upd546.specs.TwoRunners.{chip}
use Rattle.laws.proofs.Chip.{chip_laws}
use Rattle.laws.proofs.Demand3.{laws}
use Rattle.laws.proofs.Images.{saved_restores}
use Rattle.laws.proofs.Sound.{accepted-valid, accepted-absent, valid_accepted}
use Rattle.shortest.specs.declared.Kept.{Kept}
use Rattle.shortest.specs.Search.{trial_end}
use Rattle.shortest.specs.Tried.{Ready}
use Rattle.shortest.specs.Returns.{timeless, Settled, look_of, CameBack, LedTo, GoesOn}
use Rattle.shortest.proofs.Ends.{Sound, sound, trial_ends, as_trial}
use Rattle.shortest.proofs.Returns.{never_stops}
use Rattle.shortest.proofs.Shared.{rest}

-- LINES THAT STAY

pub settled_none : (sched : List ℕ) (from : ℕ) → record_count sched ≡ 0 → Settled sched from
unfolding lines_at lines_among
settled_none sched from e c h = ap (lines_among sched c) e ∙ sym (ap (lines_among sched from) e)

-- no record is behind the last
pub settled_last : (sched : List ℕ) (from k : ℕ) → record_count sched ≡ suc k → record_cycle sched k ≤ from → Settled sched from
unfolding lines_at lines_among
settled_last sched from k e l c h = ap (lines_among sched c) e ∙ last c h ∙ sym (ap (lines_among sched from) e ∙ last from (omega arith))
  where
    last : (d : ℕ) → from ≤ d → lines_among sched d (suc k) ≡ record_lines sched k
    last d g = rw (le-leb (record_cycle sched k) d (omega arith), lines_among)

pub settled_by_last : (sched : List ℕ) (from last : ℕ) → (record_count sched ≡ 0 → ⊥)
    → last ≡ number_at sched (record_length * (record_count sched - 1)) 6 → last ≤ from → Settled sched from
unfolding record_cycle
settled_by_last sched from last more read l =
    let is_last : last ≡ record_cycle sched (record_count sched - 1) = read in
    settled_last sched from (record_count sched - 1) (omega arith) (omega arith)

-- STATES BY THEIR BYTES

module _ (sheet : Sheet) (legal : sheet_number sheet ≡ 0) where
  timeless-taken : (s : State) → state_number sheet s ≡ 0 → state_number sheet (timeless s) ≡ 0
  unfolding absent_zero
  timeless-taken s e =
      let v = accepted-valid sheet s e in
      valid_accepted sheet (timeless s)
      (record { core = v.core; ports = v.ports; ram = v.ram; count = v.count; cycle = omega arith }) (accepted-absent sheet s e)

  restored : (s : State) → state_number sheet s ≡ 0
      → restore_answer (chip sheet) (take (image_length Two) (look_of sheet s)) ≡ record { number = 0; state = timeless s }
  unfolding look_of version_number
  restored s e =
      saved_restores sheet Two (timeless s) (replicate (image_length Two) 0) legal (timeless-taken s e) refl
      (omega (arith, length-replicate {A = ℕ} (image_length Two) 0))

  pub by_look : (a b : State) → state_number sheet a ≡ 0 → state_number sheet b ≡ 0 → look_of sheet a ≡ look_of sheet b → timeless a ≡ timeless b
  by_look a b x y e =
      ap (λ (r : RestoreAnswer State). r.state)
      (sym (restored a x) ∙ ap (λ (l : List ℕ). restore_answer (chip sheet) (take (image_length Two) l)) e ∙ restored b y)

-- A PIECE

-- where all cycles are done, there was no stop
all_done : {S : Type 0} (M : Machine S) (rom sched : List ℕ) (n : ℕ) (s : S) → (unbroken M rom sched n s).cycles ≡ n
    → (unbroken M rom sched n s).number ≡ none
unfolding unbroken
all_done M rom sched zero s e = refl
all_done {S} M rom sched (suc n) s e = go (M.cycle rom sched s) (λ t. all_done M rom sched n t) e
  where
    go : (o : Out S) → ((t : S) → (unbroken M rom sched n t).cycles ≡ n → (unbroken M rom sched n t).number ≡ none)
        → (on_out o s (λ t. unbroken M rom sched n t)).cycles ≡ suc n → (on_out o s (λ t. unbroken M rom sched n t)).number ≡ none
    go (stop k) ih q = absurd (omega arith)
    go (went t w b) ih q = ih t (omega arith)

module _ (sheet : Sheet) (rom sched : List ℕ) (s : State) (n : ℕ) (w : Sound sheet rom sched s n) (d : ℕ) (h : d ≤ n) where
  abbrev pub there : Ran State
  there = unbroken (chip sheet) rom sched d s

  pub reached : Reached (chip sheet) d s there
  reached = reaches (chip sheet) (chip_laws sheet w.panel.legal) rom sched w.panel d s w.state (omega (arith, w.limit))

  stands : Sound sheet rom sched there.state (n - there.cycles)
  stands = record { panel = w.panel; state = reached.sound; limit = omega (arith, reached.rises, reached.cycles, w.limit) }

  pub leads : (log : List ℕ) → log_bound n ≤ length log → AnswersAs (run_answer (chip sheet) skipping_one rom sched s log d) there
  leads log room =
      run_same (chip sheet) (laws sheet w.panel.legal) skipping_one rom sched s log d w.panel w.state (omega (arith, w.limit)) (omega arith)

  ends_same : trial_end (chip sheet) rom there.state (n - there.cycles) sched ≡ trial_end (chip sheet) rom s n sched
  ends_same =
      let all : d + (n - d) ≡ n = omega arith in
      trial_ends sheet rom sched there.state (n - there.cycles) stands
      ∙ ap end_with (sym (rw all at (rest (chip sheet) rom sched d (n - d) s)))
      ∙ sym (trial_ends sheet rom sched s n w)

  from_there : GoesOn (chip sheet) rom sched s n there.state (n - there.cycles)
  from_there = record {
    taken = fit_run (chip sheet) rom sched there.state (n - there.cycles)
        (record { legal = w.panel.legal; panel = w.panel.not_refused_is; state = stands.state; limit = stands.limit });
    fewer = omega arith;
    same = ends_same;
  }

  pub goes_on : (t : State) (left : ℕ) → LedTo (chip sheet) rom sched s n d t left → GoesOn (chip sheet) rom sched s n t left
  goes_on t left l = rw (l.state, l.left_is) from_there

-- a run that goes on from t, on a log that is as long, ends as the one from s
pub ends_from : (sheet : Sheet) (rom sched : List ℕ) (s : State) (n : ℕ) (t : State) (left : ℕ) → Bytes rom → Bytes sched
    → GoesOn (chip sheet) rom sched s n t left → (log log' : List ℕ) → length log' ≡ length log → log_bound n ≤ length log
    → (run_answer (chip sheet) skipping_one rom sched t log' left).end ≡ trial_end (chip sheet) rom s n sched
ends_from sheet rom sched s n t left br bs g log log' e room =
    as_trial sheet rom sched t left (sound sheet rom sched t left br bs g.taken) skipping_one log' (omega (arith, g.fewer)) ∙ g.same

-- BETWEEN PIECES

module _ (sheet : Sheet) (rom sched : List ℕ) where
  abbrev run : ℕ → State → Ran State
  run n t = unbroken (chip sheet) rom sched n t

  -- from a so many cycles lead to b, without a stop
  pub record Came (a b : State) : Type 0 where
    pub sound : state_number sheet a ≡ 0
    pub many : ℕ
    pub goes : (run many a).number ≡ none
    pub gets : (run many a).state ≡ b
    pub later : a.cycle.0 ≤ b.cycle.0

  came_start : (s : State) → state_number sheet s ≡ 0 → Came s s
  unfolding unbroken
  came_start s e = record { sound = e; many = 0; goes = refl; gets = refl; later = omega arith }

  module _ (a b : State) (c : Came a b) (d : ℕ) (goes : (run d b).number ≡ none) (later : b.cycle.0 ≤ (run d b).state.cycle.0) where
    goes_both : (run (c.many + d) a).number ≡ none
    goes_both =
        ap (λ (r : Ran State). r.number) (unbroken-cut (chip sheet) rom sched c.many d a)
        ∙ ap (λ (o : Option ℕ). first_stop o (run d (run c.many a).state).number) c.goes
        ∙ ap (λ (z : State). (run d z).number) c.gets
        ∙ goes

    gets_both : (run (c.many + d) a).state ≡ (run d b).state
    gets_both =
        ap (λ (r : Ran State). r.state) (unbroken-cut (chip sheet) rom sched c.many d a) ∙ ap (λ (z : State). (run d z).state) c.gets

    came_on : Came a (run d b).state
    came_on = record { sound = c.sound; many = c.many + d; goes = goes_both; gets = gets_both; later = omega (arith, c.later) }

    -- what came back never stops
    back_never : 0 < d → Settled sched a.cycle.0 → timeless a ≡ timeless (run d b).state → (n : ℕ) → (run n (run d b).state).number ≡ none
    back_never more settled back n =
        ap (λ (z : State). (run n z).number) (sym gets_both)
        ∙ never_stops sheet rom sched a settled (c.many + d) (omega arith) goes_both
        (omega (arith, c.later, ap (λ (z : State). z.cycle.0) gets_both)) (back ∙ ap timeless (sym gets_both)) n

module _ (sheet : Sheet) (rom sched : List ℕ) (s : State) (n : ℕ) where
  pub record Watching (old : Kept) (here : Kept) (log₀ log : List ℕ) : Type 0 where
    pub room : log_bound n ≤ length log₀
    pub long : length log ≡ length log₀
    pub on : GoesOn (chip sheet) rom sched s n here.state here.left
    pub came : Came sheet rom sched old.state here.state
    pub fewer : old.left ≤ n

  module _ (br : Bytes rom) (bs : Bytes sched) where
    pub at_start : (log : List ℕ) → Ready (chip sheet) rom sched s n log
        → Watching (record { state = s; left = n }) (record { state = s; left = n }) log log
    at_start log r = record {
      room = r.room;
      long = refl;
      on = record { taken = r.taken; fewer = omega arith; same = refl };
      came = came_start sheet rom sched s (sound sheet rom sched s n br bs r.taken).state;
      fewer = omega arith;
    }

    module _ (old here : Kept) (log₀ log : List ℕ) (w : Watching old here log₀ log) where
      pub ready : Ready (chip sheet) rom sched here.state here.left log
      ready = record { taken = w.on.taken; room = omega (arith, w.room, w.long, w.on.fewer) }

      here_sound : Sound sheet rom sched here.state here.left
      here_sound = sound sheet rom sched here.state here.left br bs w.on.taken

      module _ (d : ℕ) (within : d ≤ here.left) (next : Kept)
          (led : LedTo (chip sheet) rom sched here.state here.left d next.state next.left) where
        further : GoesOn (chip sheet) rom sched here.state here.left next.state next.left
        further = goes_on sheet rom sched here.state here.left here_sound d within next.state next.left led

        pub less_left : next.left ≤ here.left
        less_left = further.fewer

        -- the run goes on from the next state
        pub from_next : GoesOn (chip sheet) rom sched s n next.state next.left
        from_next = record {
          taken = further.taken;
          fewer = omega (arith, further.fewer, w.on.fewer);
          same = further.same ∙ w.on.same;
        }

        module _ (all : d ≤ here.left - next.left) where
          abbrev got : Ran State
          got = run sheet rom sched d here.state

          far : Reached (chip sheet) d here.state got
          far = reached sheet rom sched here.state here.left here_sound d within

          no_stop_yet : got.number ≡ none
          no_stop_yet = all_done (chip sheet) rom sched d here.state (omega (arith, far.cycles, led.left_is))

          rises : here.state.cycle.0 ≤ got.state.cycle.0
          rises = omega (arith, far.rises)

          came_next : Came sheet rom sched old.state next.state
          came_next = rw led.state (came_on sheet rom sched old.state here.state w.came d no_stop_yet rises)

          pub watching_next : (log' : List ℕ) → length log' ≡ length log → (kept : Kept) → (kept ≡ next) ⊎ (kept ≡ old)
              → Watching kept next log₀ log'
          watching_next log' l kept which = record {
            room = w.room;
            long = l ∙ w.long;
            on = from_next;
            came = ⊎_elim
                (λ e. rw e (came_start sheet rom sched next.state (sound sheet rom sched next.state next.left br bs from_next.taken).state))
                (λ e. rw e came_next) which;
            fewer = ⊎_elim (λ e. omega (arith, ap (λ (k : Kept). k.left) e, from_next.fewer)) (λ e. omega (arith, ap (λ (k : Kept). k.left) e, w.fewer)) which;
          }

          -- where it came back it never stops, so that it ends as a run of no cycle does
          pub ended : 0 < d → CameBack sheet sched old.state next.state → GoesOn (chip sheet) rom sched s n next.state 0
          unfolding unbroken
          ended more back =
              let at_next = sound sheet rom sched next.state next.left br bs from_next.taken in
              let same = by_look sheet at_next.panel.legal old.state next.state w.came.sound at_next.state back.same in
              let never : (run sheet rom sched next.left next.state).number ≡ none
              = ap (λ (z : State). (run sheet rom sched next.left z).number) led.state
              ∙ back_never sheet rom sched old.state here.state w.came d no_stop_yet rises more back.settled
              (same ∙ ap timeless led.state) next.left in
              let none_left : Sound sheet rom sched next.state 0
              = record { panel = at_next.panel; state = at_next.state; limit = omega (arith, at_next.limit) } in
              record {
                taken = fit_run (chip sheet) rom sched next.state 0
                    (record { legal = at_next.panel.legal; panel = at_next.panel.not_refused_is; state = at_next.state; limit = none_left.limit });
                fewer = omega arith;
                same = trial_ends sheet rom sched next.state 0 none_left
                    ∙ sym (ap end_with never)
                    ∙ sym (trial_ends sheet rom sched next.state next.left at_next)
                    ∙ from_next.same;
              }
