-- Where the loop of a burst stands: the machine has come so many cycles, and the core is the machine's with the timer behind.
-- Assumes nothing.
use mathlib.Core.Path.{◌≡◌, ◌∙◌, refl, sym, ap, ap₂, subst}
use mathlib.Core.Bool.{Bool, true, false, cond, not, ◌&&◌, and-true, and-false}
use mathlib.Core.List.{List, [], ◌++◌}
use mathlib.Core.Option.{some}
use Prim.Native.Nat.{ℕ, suc, ◌+◌, ◌-◌, ◌<◌, ◌≤◌, min}
use native.Mathlib.Omega.{arith}
use lib.Dec.{eqb, leb}
use lib.ListN.{length, take, drop, length-append}
use borrow.Author.Tests.{leb-true, leb-false, eqb-true, eqb-false, ne_eqb}
use Rattle.std.specs.Prelude.{Option}
use Rattle.runs.specs.declared.Stop.{Stop}
use Rattle.runs.specs.Machine.{Out, stop, went}
use Rattle.runs.specs.Refusals.{cycle_limit}
use Rattle.runs.specs.TwoRunners.{still, within}
use Rattle.runs.specs.OneByOne.{OneByOne, none}
use Rattle.runs.proofs.Loop.{one_stops, one_fills}
use Rattle.upd546.specs.declared.Core.{Core}
use Rattle.upd546.specs.declared.Interrupt.{Interrupt}
use Rattle.upd546.specs.declared.Timer.{Timer}
use Rattle.upd546.specs.declared.Lines.{Lines}
use Rattle.upd546.specs.declared.Sheet.{Sheet}
use Rattle.upd546.specs.declared.State.{State}
use Rattle.upd546.specs.TheMachine.{stack_depth, byte_at, mark_ei, mark_stm}
use Rattle.upd546.specs.Parts.{with_parts, state_of, with_timer, set_owed}
use Rattle.upd546.specs.TheLineSchedule.{lines_at}
use Rattle.upd546.specs.Timer.{ticks_left}
use Rattle.upd546.specs.OneMachineCycle.{blocks, accepts, taken, given, execute, on_owed, on_accepts, ordinary_cycle}
use Rattle.upd546.specs.TwoRunners.{at_ttm, at_jcp_back, may_jump, wait_length}
use Rattle.laws.specs.Timer.{ticks}
use Rattle.laws.specs.Ordinary.{steps_of, ordinary}
use Rattle.laws.specs.Burst.{Free, unticked, forward, brought_forward}
use Rattle.laws.specs.Stops.{StopNumber}
use Rattle.laws.specs.Valid.{Scalars, ValidStack, ValidPorts, ValidRam, Valid, ValidLines}
use Rattle.laws.proofs.Lines.{lines_valid, panel_schedule}
use Rattle.laws.proofs.Cycle.{taken_keeps, unticked_valid}
use Rattle.laws.proofs.Stops.{steps_stop}
use Rattle.laws.proofs.Tails.{put_none, put_more, put_length}
use Rattle.laws.proofs.Jump.{free_accepts, blocked_accepts, cycle_due, wait_length-none}
use Rattle.laws.proofs.Burst.{tm_stays, ticks_stopped, forward-none, forward-on, forward-stm, execute-late, Begun, begun_is, reaches_later}
use Rattle.jump.specs.Boundary.{watch_code}
use Rattle.jump.proofs.Lengths.{no_ttm, both_one, stopped, no_loop}
use Rattle.effect.specs.declared.Started.{Started}
use Rattle.effect.specs.Answer.{Answer, Told, start_of, answer_on}
use Rattle.effect.specs.Endings.{Fits}
use Rattle.cycle.specs.Ready.{Ready}
use Rattle.burst.specs.Turn.{Turn, Due, Horizon, Moved, Bursts, may_be_due, nearest_of, number_of, stretch_of, ended_at, appended}
use Rattle.burst.proofs.Lending.{lent_legal, lent_rom, lent_fits}
use Rattle.burst.proofs.Moving.{Next, next}

-- what stays the same in a burst from the state s on, with the log as it is lent, empty from `at` on
pub record Setting (sheet : Sheet) (skips : Bool) (rom sched table rows positions : List ℕ) (levels : ℕ) (l : Lines) (limit : ℕ) (s : State) (log : List ℕ) (at begun : ℕ) (first : Core) : Type 0 where
  pub turn : Turn sheet skips rom sched table rows positions l limit s log at begun
  pub due : Due s
  pub levels_is : sheet.levels ≡ levels
  pub first_is : first ≡ taken l s.core

-- the lines leave the timer as it was
pub first_register : {sheet : Sheet} {skips : Bool} {rom sched table rows positions : List ℕ} {l : Lines} {limit : ℕ} {s : State} {log : List ℕ} {at begun : ℕ}
    → Turn sheet skips rom sched table rows positions l limit s log at begun → (taken l s.core).timer.register < 64
unfolding taken
first_register k = k.valid.core.scalars.register

-- what the code has, between two instructions
pub record Standing : Type 0 where
  pub core : Core
  pub ram : List ℕ
  pub ports : List ℕ
  pub log : List ℕ
  pub at : ℕ
  pub done : ℕ
  pub begun : ℕ
  pub horizon : ℕ
  pub since : ℕ
  pub watch : ℕ

-- The machine stands at t, after d cycles that began b instructions and appended w. The next event is the horizon, and the timer of
-- the core was the machine's before cycle `since`. The instruction at PC is due.
pub record Riding (sheet : Sheet) (skips : Bool) (rom sched : List ℕ) (l : Lines) (limit : ℕ) (s : State) (log₀ : List ℕ) (at₀ begun₀ : ℕ) (p : Standing) : Type 0 where
  pub t : State
  pub w : List ℕ
  pub d : ℕ
  pub b : ℕ
  pub steps : OneByOne (ordinary sheet) rom sched skips (length log₀ - at₀) (limit - s.cycle.0) s t w d b
  pub parts : t ≡ state_of t.core p.ram p.ports p.done
  pub done_is : p.done ≡ s.cycle.0 + d
  pub begun_is : p.begun ≡ begun₀ + b
  pub few : b ≤ d
  pub due_is : steps_of sheet rom sched t ≡ execute sheet rom l t (with_timer p.core (ticks (p.done - p.since) p.core.timer))
  pub valid : Valid (state_of p.core p.ram p.ports p.done)
  pub level : p.core.interrupt.level ≡ l.int
  pub no_jump : skips ≡ true → wait_length sheet rom sched t (limit - s.cycle.0 - d) ≡ 0
  pub inside : p.done < p.horizon
  pub in_limit : p.horizon ≤ limit
  pub before_tick : 0 < p.core.timer.register → p.horizon ≤ p.since + ticks_left p.core.timer
  pub set : p.since ≤ p.done
  pub watches : p.watch ≡ watch_code (skips && not (eqb p.core.timer.register 0))
  pub place : p.at ≡ at₀ + length w
  pub fits : at₀ + length w ≤ length log₀
  pub log_is : p.log ≡ appended log₀ at₀ w
  pub at_start : p.done ≡ s.cycle.0 → (t ≡ s) × (w ≡ [])
  pub state_is : (p.done ≡ s.cycle.0 → ⊥) → t ≡ state_of (forward (p.done - p.since) p.core) p.ram p.ports p.done

-- what the code says of the instruction that is due at the state s, with this ROM, these rows and levels
pub record Answers (rom rows : List ℕ) (levels : ℕ) (l : Lines) (s : State) (at : ℕ) (log : List ℕ) (r : Told) (ram ports log' : List ℕ) : Type 0 where
  pub is : (sheet : Sheet) → Fits sheet rom rows levels → start_of r ram ports log' ≡ answer_on at (unticked sheet rom l s s.core) s log

-- what `execute` answers of an instruction that is begun
abbrev pub begun_of : Started → Told
begun_of o = record { core = o.core; at = o.at; stop = 0 }

-- after STM it doesn't matter by how many cycles a timer is brought forward
forward-by : (a b : ℕ) (c : Core) → ((c.mark ≡ mark_stm → ⊥) → a ≡ b) → forward a c ≡ forward b c
forward-by a b c e = go (eqb c.mark mark_stm) refl
  where
    go : (x : Bool) → eqb c.mark mark_stm ≡ x → forward a c ≡ forward b c
    go true q = let m = eqb-true c.mark mark_stm q in forward-stm a c m ∙ sym (forward-stm b c m)
    go false q = ap (λ (d : ℕ). forward d c) (e (eqb-false c.mark mark_stm q))

-- where the code stands after an instruction of which `execute` answers r
abbrev pub stands_after : Standing → Told → (ram ports log : List ℕ) → (h since watch : ℕ) → Standing
stands_after p r ram ports log h since watch = record {
  core = set_owed 0 r.core;
  ram = ram;
  ports = ports;
  log = log;
  at = r.at;
  done = p.done + 1 + r.core.owed;
  begun = p.begun + 1;
  horizon = h;
  since = since;
  watch = watch;
}

-- what the code knows of `near`
pub record Near (near h : ℕ) (i : Interrupt) : Type 0 where
  pub event : 0 < near → near ≡ h
  pub free : 0 < near → Free i
  pub due : near ≡ 0 → 0 < h → may_be_due i ≡ true

pub near_is : {near h : ℕ} {i : Interrupt} → near ≡ nearest_of i h → Near near h i
near_is {near} {h} {i} e = go (may_be_due i) refl e
  where
    go : (x : Bool) → may_be_due i ≡ x → near ≡ cond x 0 h → Near near h i
    go true q z = record { event = λ v. absurd (omega (arith, v, z)); free = λ v. absurd (omega (arith, v, z)); due = λ v w. q }
    go false q z = record { event = λ v. z; free = λ v. q; due = λ v w. absurd (omega (arith, v, w, z)) }

-- and once an instruction has left this mark: where the mark doesn't block, an interrupt needn't be due any more
pub record Left (near h : ℕ) (i : Interrupt) (mark : ℕ) : Type 0 where
  pub event : 0 < near → near ≡ h
  pub free : 0 < near → Free i
  pub due : near ≡ 0 → 0 < h → blocks mark ≡ true → may_be_due i ≡ true

pub left_near : {near h mark : ℕ} {i : Interrupt} → Near near h i → Left near h i mark
left_near n = record { event = n.event; free = n.free; due = λ v w b. n.due v w }

pub near_to : {near near' h h' mark : ℕ} {i : Interrupt} → near' ≡ near → h' ≡ h → Left near h i mark → Left near' h' i mark
near_to e f n = rw (e, f) n

-- a runner that jumps and whose timer runs watches for TTM
watches_ttm : (skips : Bool) (register : ℕ) → skips ≡ true → (register ≡ 0 → ⊥) → watch_code (skips && not (eqb register 0)) ≡ 0x05
watches_ttm skips register p n = rw (p, ne_eqb register 0 n)

module _ {sheet : Sheet} {skips : Bool} {rom sched table rows positions : List ℕ} {levels : ℕ} {l : Lines} {limit : ℕ} {s : State} {log₀ : List ℕ}
    {at₀ begun₀ : ℕ} {first : Core}
    (k : Setting sheet skips rom sched table rows positions levels l limit s log₀ at₀ begun₀ first) where
  lines_here : lines_at sched s.cycle.0 ≡ l
  lines_here = k.turn.lines s.cycle.0 (omega arith) k.turn.ahead

  fits_here : Fits sheet rom rows levels
  fits_here = lent_fits k.turn.lent k.levels_is

  -- as many levels as a legal sheet has
  levels_small : (1 ≤ levels) × (levels ≤ stack_depth)
  levels_small =
      let v = lent_legal k.turn.lent in
      (omega (arith, v.level_some, k.levels_is), omega (arith, v.level_most, k.levels_is))

  pub l_valid : ValidLines l
  l_valid = subst ValidLines lines_here (lines_valid sched s.cycle.0 k.turn.lent.panel.sched_bytes
      (panel_schedule sheet rom sched k.turn.lent.panel.not_refused_is))

  -- the first instruction
  first_due : steps_of sheet rom sched s ≡ execute sheet rom l s first
  unfolding ordinary_cycle
  first_due =
      let n = lines_at sched s.cycle.0 in
      ap (λ (x : Bool). on_accepts x sheet rom n s) k.due.not_accepted
      ∙ ap (λ (x : ℕ). on_owed x sheet rom n s (taken n s.core)) k.due.none_owed
      ∙ ap (λ (x : Lines). execute sheet rom x s (taken x s.core)) lines_here
      ∙ ap (execute sheet rom l s) (sym k.first_is)

  first_level : first.interrupt.level ≡ l.int
  unfolding taken
  first_level = rw k.first_is

  pub rides : {h watch : ℕ} → Horizon first.timer s.cycle.0 limit h → watch ≡ watch_code (skips && not (eqb first.timer.register 0))
      → Riding sheet skips rom sched l limit s log₀ at₀ begun₀ (record {
        core = first;
        ram = s.ram;
        ports = s.ports;
        log = log₀;
        at = at₀;
        done = s.cycle.0;
        begun = begun₀;
        horizon = h;
        since = s.cycle.0;
        watch = watch;
      })
  rides v x =
      let none_late : s.cycle.0 - s.cycle.0 ≡ 0 = omega arith in
      let all_left : limit - s.cycle.0 - 0 ≡ limit - s.cycle.0 = omega arith in
      record {
        t = s;
        w = [];
        d = 0;
        b = 0;
        steps = none;
        parts = k.turn.parts;
        done_is = omega arith;
        begun_is = omega arith;
        few = omega arith;
        due_is = first_due ∙ ap (execute sheet rom l s) (sym (forward-none first)) ∙ ap (λ (y : ℕ). execute sheet rom l s (with_timer first (ticks y first.timer))) (sym none_late);
        valid = record {
          core = rw k.first_is (taken_keeps l s.core l_valid k.turn.valid.core);
          ports = k.turn.valid.ports;
          ram = k.turn.valid.ram;
          count = omega arith;
          cycle = k.turn.valid.cycle;
        };
        level = first_level;
        no_jump = λ e. rw all_left (k.turn.no_jump e);
        inside = v.some;
        in_limit = v.in_limit;
        before_tick = v.before_tick;
        set = omega arith;
        watches = x;
        place = omega arith;
        fits = omega (arith, k.turn.place);
        log_is = sym (put_none log₀ at₀);
        at_start = λ z. (refl, refl);
        state_is = λ n. absurd (n refl);
      }

  -- THE NEXT INSTRUCTION, of which the code says r
  module _ {p : Standing} (c : Riding sheet skips rom sched l limit s log₀ at₀ begun₀ p) where
    -- the state that the code works on
    abbrev here : State
    here = state_of p.core p.ram p.ports p.done

    pub ready : Ready rom table rows levels l here
    ready = record {
      rom_bytes = k.turn.lent.panel.rom_bytes;
      sizes = k.turn.lent.instructions;
      rows_are = record { sheet = sheet; is = k.turn.lent.row_table_is };
      some_level = levels_small.0;
      three_levels = levels_small.1;
      lines = l_valid;
      valid = c.valid;
      below = omega (arith, k.turn.in_limit, c.in_limit, c.inside);
    }

    -- so that the counts fit
    pub counts_small : (p.done < limit) × (limit ≤ cycle_limit) × (p.begun ≤ p.done)
    counts_small = (omega (arith, c.inside, c.in_limit), k.turn.in_limit, omega (arith, c.begun_is, c.done_is, c.few, k.turn.few))

    pub log_length : length p.log ≡ length log₀
    log_length = ap length c.log_is ∙ put_length log₀ c.w at₀ c.fits

    pub at_fits : p.at ≤ length p.log
    at_fits = omega (arith, log_length, c.place, c.fits)

    -- the room that is left, as the steps count it
    room_same : length log₀ - p.at ≡ length log₀ - at₀ - length c.w
    room_same = omega (arith, c.place)

    -- the machine's state and the code's differ in the core alone, which an instruction takes from elsewhere
    same_outcome : unticked sheet rom l c.t p.core ≡ unticked sheet rom l here p.core
    unfolding unticked given
    same_outcome = ap (λ (t : State). unticked sheet rom l t p.core) c.parts

    cycle_is : c.t.cycle.0 ≡ p.done
    cycle_is = ap (λ (t : State). t.cycle.0) c.parts

    -- how late the core's timer is
    abbrev late : ℕ
    late = p.done - p.since

    tm : (ticks late p.core.timer).tm ≡ p.core.timer.tm
    tm = tm_stays late p.core.timer c.valid.core.scalars.register (λ q. omega (arith, c.inside, c.set, c.before_tick q))

    outcome : steps_of sheet rom sched c.t ≡ brought_forward (suc late) (unticked sheet rom l here p.core)
    outcome = c.due_is ∙ execute-late sheet rom l c.t p.core late tm ∙ ap (brought_forward (suc late)) same_outcome

    module _ {r : Told} {ram' ports' log' : List ℕ} (a : Answers rom rows levels l here p.at p.log r ram' ports' log') where
      -- IT ISN'T BEGUN
      record Unbegun : Type 0 where
        stops : within (ordinary sheet) rom sched (length log₀ - p.at) 1 c.t ≡ still c.t (some r.stop)
        known : (r.stop ≡ 3 → ⊥) → StopNumber r.stop
        core_is : r.core ≡ p.core
        ram_is : ram' ≡ p.ram
        ports_is : ports' ≡ p.ports
        log_is : log' ≡ p.log

      unbegun : (r.stop ≡ 0 → ⊥) → Unbegun
      unfolding answer_on
      unbegun g = go (unticked sheet rom l here p.core) outcome (a.is sheet fits_here)
        where
          go : (o : Out State) → steps_of sheet rom sched c.t ≡ brought_forward (suc late) o → start_of r ram' ports' log' ≡ answer_on p.at o here p.log → Unbegun
          go (stop i) q z =
              let same : r.stop ≡ i = ap (λ (y : Answer). y.stop) z in
              record {
                stops = one_stops (ordinary sheet) rom sched (length log₀ - p.at) c.t i q ∙ ap (λ (y : ℕ). still c.t (some y)) (sym same);
                known = λ d. subst StopNumber (sym same) (steps_stop sheet rom sched c.t i q);
                core_is = ap (λ (y : Answer). y.core) z;
                ram_is = ap (λ (y : Answer). y.ram) z;
                ports_is = ap (λ (y : Answer). y.ports) z;
                log_is = ap (λ (y : Answer). y.log) z;
              }
          go (went u x e) q z = fit (leb (length x) (length p.log - p.at)) refl z
            where
              fit : (v : Bool) → leb (length x) (length p.log - p.at) ≡ v
                  → start_of r ram' ports' log' ≡ cond v
                  (record { stop = 0; core = u.core; ram = u.ram; ports = u.ports; log = appended p.log p.at x; at = p.at + length x })
                  (record { stop = 3; core = p.core; ram = p.ram; ports = p.ports; log = p.log; at = p.at })
                  → Unbegun
              fit true y z = absurd (g (ap (λ (y : Answer). y.stop) z))
              fit false y z =
                  let same : r.stop ≡ 3 = ap (λ (y : Answer). y.stop) z in
                  let full = leb-false (length x) (length p.log - p.at) y in
                  record {
                    stops = one_fills (ordinary sheet) rom sched (length log₀ - p.at) c.t _ x e q (omega (arith, full, log_length)) ∙ ap (λ (y : ℕ). still c.t (some y)) (sym same);
                    known = λ d. absurd (d same);
                    core_is = ap (λ (y : Answer). y.core) z;
                    ram_is = ap (λ (y : Answer). y.ram) z;
                    ports_is = ap (λ (y : Answer). y.ports) z;
                    log_is = ap (λ (y : Answer). y.log) z;
                  }

      pub stops_here : {x : Option Stop} → number_of x ≡ r.stop → (r.stop ≡ 0 → ⊥)
          → Bursts sheet skips rom sched limit s log₀ at₀ begun₀ (record { stretch = stretch_of r.core p.done p.begun p.at x; late = late }) ram' ports' log'
      stops_here same g =
          let o = unbegun g in
          rw o.core_is
          (record {
            held = λ z.
                let e = c.at_start z in
                let same_place : p.at ≡ at₀ = omega (arith, c.place, ap length e.1) in
                record {
                  stops = ap₂ (λ (y : ℕ) (t : State). within (ordinary sheet) rom sched (length log₀ - y) 1 t) (sym same_place) (sym e.0) ∙ o.stops
                      ∙ ap (λ (t : State). still t (some r.stop)) e.0 ∙ ap (λ (y : ℕ). still s (some y)) (sym same);
                  some_number = λ z. g (sym same ∙ z);
                  known = λ d. subst StopNumber (sym same) (o.known (λ z. d (same ∙ z)));
                  ram_is = o.ram_is ∙ ap (λ (t : State). t.ram) (sym c.parts ∙ e.0);
                  ports_is = o.ports_is ∙ ap (λ (t : State). t.ports) (sym c.parts ∙ e.0);
                  log_is = o.log_is ∙ c.log_is ∙ ap (appended log₀ at₀) e.1 ∙ put_none log₀ at₀;
                };
            went = λ n.
                record {
                  d = c.d;
                  b = c.b;
                  w = c.w;
                  some_cycles = omega (arith, n, c.done_is);
                  steps = rw (o.ram_is, o.ports_is)
                      (subst (λ (t : State). OneByOne (ordinary sheet) rom sched skips (length log₀ - at₀) (limit - s.cycle.0) s t c.w c.d c.b) (c.state_is n) c.steps);
                  cycle_is = c.done_is;
                  begun_is = c.begun_is;
                  at_is = c.place;
                  log_is = o.log_is ∙ c.log_is;
                };
            forwards = record {
              register = c.valid.core.scalars.register;
              ticks_left_is = λ n q. omega (arith, c.inside, c.set, c.before_tick q);
            };
          })

      pub stop_length : (r.stop ≡ 0 → ⊥) → length log' ≡ length log₀
      stop_length g = ap length (unbegun g).log_is ∙ log_length

      -- IT IS BEGUN
      record Gone : Type 0 where
        u : State
        x : List ℕ
        e : ℕ
        is : unticked sheet rom l c.t p.core ≡ went u x e
        fits : at₀ + length (c.w ++ x) ≤ length log₀
        core_is : r.core ≡ u.core
        ram_is : ram' ≡ u.ram
        ports_is : ports' ≡ u.ports
        log_is : log' ≡ appended log₀ at₀ (c.w ++ x)
        at_is : r.at ≡ at₀ + length (c.w ++ x)

      gone : r.stop ≡ 0 → Gone
      unfolding answer_on
      gone g = go (unticked sheet rom l here p.core) same_outcome outcome (a.is sheet fits_here)
        where
          go : (o : Out State) → unticked sheet rom l c.t p.core ≡ o → steps_of sheet rom sched c.t ≡ brought_forward (suc late) o
              → start_of r ram' ports' log' ≡ answer_on p.at o here p.log → Gone
          go (stop i) v q z = absurd ((steps_stop sheet rom sched c.t i q).some (sym (ap (λ (y : Answer). y.stop) z) ∙ g))
          go (went u x e) v q z = fit (leb (length x) (length p.log - p.at)) refl z
            where
              fit : (f : Bool) → leb (length x) (length p.log - p.at) ≡ f
                  → start_of r ram' ports' log' ≡ cond f
                  (record { stop = 0; core = u.core; ram = u.ram; ports = u.ports; log = appended p.log p.at x; at = p.at + length x })
                  (record { stop = 3; core = p.core; ram = p.ram; ports = p.ports; log = p.log; at = p.at })
                  → Gone
              fit false y z = let three : ◌≡◌ {A = ℕ} 0 3 = sym g ∙ ap (λ (y : Answer). y.stop) z in absurd (omega arith)
              fit true y z =
                  let room = leb-true (length x) (length p.log - p.at) y in
                  let long = length-append c.w x in
                  let put = ap (λ (y : Answer). y.log) z in
                  record {
                    u = u;
                    x = x;
                    e = e;
                    is = v;
                    fits = omega (arith, room, log_length, c.place, c.fits, long);
                    core_is = ap (λ (y : Answer). y.core) z;
                    ram_is = ap (λ (y : Answer). y.ram) z;
                    ports_is = ap (λ (y : Answer). y.ports) z;
                    log_is = put_more log₀ c.w x at₀ k.turn.place c.log_is (put ∙ ap (λ (i : ℕ). take i p.log ++ x ++ drop (i + length x) p.log) c.place);
                    at_is = ap (λ (y : Answer). y.at) z ∙ omega (arith, c.place, long);
                  }

      module _ (g : r.stop ≡ 0) where
        begun_here : Begun c.t (gone g).u p.core (gone g).e
        begun_here = begun_is sheet rom l c.t p.core (gone g).u (gone g).x (gone g).e (gone g).is

        after_valid : Valid (gone g).u
        after_valid =
            unticked_valid sheet (lent_legal k.turn.lent).level_most here c.valid ready.below rom l k.turn.lent.panel.rom_bytes l_valid p.core c.valid.core (gone g).u (gone g).x (gone g).e
            (sym same_outcome ∙ (gone g).is)

        pub owed_small : r.core.owed ≤ 3
        owed_small = omega (arith, ap (λ (y : Core). y.owed) (gone g).core_is, after_valid.core.scalars.owed)

        pub go_length : length log' ≡ length log₀
        go_length = ap length (gone g).log_is ∙ put_length log₀ (c.w ++ (gone g).x) at₀ (gone g).fits

        -- where it ends, with what it owes
        abbrev over : ℕ
        over = p.done + 1 + r.core.owed

        timer_same : (r.core.mark ≡ mark_stm → ⊥) → r.core.timer ≡ p.core.timer
        timer_same n =
            let v = (gone g).core_is in
            ap (λ (y : Core). y.timer) v ∙ begun_here.timer (λ m. n (ap (λ (y : Core). y.mark) v ∙ m))

        pub register_small : r.core.timer.register < 64
        register_small = subst (λ (y : Core). y.timer.register < 64) (sym (gone g).core_is) after_valid.core.scalars.register

        -- after STM the timer runs
        runs : r.core.mark ≡ mark_stm → 0 < r.core.timer.register
        runs m =
            let v = (gone g).core_is in
            subst (λ (y : Core). 0 < y.timer.register) (sym v) (begun_here.runs (sym (ap (λ (y : Core). y.mark) v) ∙ m))

        -- no instruction but EI that leaves a blocking mark changes the interrupts
        interrupt_still : (r.core.mark ≡ mark_ei → ⊥) → blocks r.core.mark ≡ true → r.core.interrupt ≡ p.core.interrupt
        interrupt_still n b =
            let v = (gone g).core_is in
            let m = ap (λ (y : Core). y.mark) v in
            ap (λ (y : Core). y.interrupt) v ∙ begun_here.blocked (sym (ap blocks m) ∙ b) (λ z. n (m ∙ z))

        -- no instruction but EI makes INT and INTE both 1
        free_still : (r.core.mark ≡ mark_ei → ⊥) → Free p.core.interrupt → Free r.core.interrupt
        free_still n f =
            let v = (gone g).core_is in
            subst (λ (y : Core). Free y.interrupt) (sym v) (begun_here.free (λ z. n (ap (λ (y : Core). y.mark) v ∙ z)) f)

        module _ {h' since' watch' : ℕ} (moved : Moved (set_owed 0 r.core) over limit skips p.horizon p.since p.watch h' since' watch') where
          m : Next skips limit (set_owed 0 r.core) over p.horizon p.since p.watch h' since' watch'
          m = next p.done (omega arith) c.inside c.set c.in_limit runs moved

          pub since_small : (since' ≤ over) × (since' ≤ h')
          since_small = (omega (arith, m.set), omega (arith, m.set))

          pub event_near : over ≤ h' + 3
          event_near = omega (arith, m.not_before, c.inside, owed_small)

          -- the machine before a later cycle, up to the event
          reached : (n : ℕ) → p.done < n → n ≤ over → n ≤ h'
              → OneByOne (ordinary sheet) rom sched skips (length log₀ - at₀) (limit - s.cycle.0) s
              (state_of (forward (n - since') (set_owed (over - n) r.core)) ram' ports' n) (c.w ++ (gone g).x) (n - s.cycle.0) (c.b + 1)
          reached n q v y =
              let o = gone g in
              let b = begun_here in
              let j = n - suc p.done in
              let owed_is = ap (λ (y : Core). y.owed) o.core_is in
              let e₁ : suc c.d + j ≡ n - s.cycle.0 = omega (arith, c.done_is) in
              let e₂ : o.u.core.owed - j ≡ over - n = omega (arith, owed_is) in
              let e₃ : o.u.cycle.0 + j ≡ n = omega (arith, b.rises, cycle_is) in
              let level : (i : ℕ) → i < j → (lines_at sched (o.u.cycle.0 + i)).int ≡ o.u.core.interrupt.level =
              λ i z. ap (λ (y : Lines). y.int)
              (k.turn.lines (o.u.cycle.0 + i) (omega (arith, b.rises, cycle_is, c.done_is)) (omega (arith, b.rises, cycle_is, m.in_limit)))
              ∙ sym (b.level ∙ c.level) in
              let all = reaches_later sheet rom sched l skips (length log₀ - at₀) (limit - s.cycle.0) s c.t c.w c.d c.b c.steps p.core late c.due_is tm c.no_jump
              o.u o.x o.e o.is (omega (arith, o.fits)) (omega (arith, c.inside, c.in_limit, c.done_is)) j (omega (arith, owed_is))
              (omega (arith, m.in_limit, c.done_is)) level in
              let f = forward-by (suc late + j) (n - since') (set_owed (over - n) r.core) (λ i. omega (arith, c.set, (m.same i).0)) in
              let parts = b.kept ∙ ap (λ (t : State). with_parts t o.u.core o.u.ram o.u.ports o.u.cycle.0) c.parts in
              let to : with_parts o.u (forward (suc late + j) (set_owed (o.u.core.owed - j) o.u.core)) o.u.ram o.u.ports (o.u.cycle.0 + j)
              ≡ state_of (forward (n - since') (set_owed (over - n) r.core)) ram' ports' n
              = ap (λ (u : State). with_parts u (forward (suc late + j) (set_owed (o.u.core.owed - j) o.u.core)) o.u.ram o.u.ports (o.u.cycle.0 + j)) parts
              ∙ (λ i. state_of (forward (suc late + j) (set_owed (e₂ i) (sym o.core_is i))) (sym o.ram_is i) (sym o.ports_is i) (e₃ i))
              ∙ ap (λ (y : Core). state_of y ram' ports' n) f in
              let z = subst (λ (t : State). OneByOne (ordinary sheet) rom sched skips (length log₀ - at₀) (limit - s.cycle.0) s t (c.w ++ o.x) (suc c.d + j) (c.b + o.e)) to all in
              rw (e₁, b.one) at z

          pub ends : Bursts sheet skips rom sched limit s log₀ at₀ begun₀ (ended_at (set_owed 0 r.core) over (p.begun + 1) r.at h' since') ram' ports' log'
          ends =
              let o = gone g in
              let some : p.done < min over h' = omega (arith, c.inside, m.not_before) in
              let e : over - min over h' ≡ over - h' = omega arith in
              let all = reached (min over h') some (omega arith) (omega arith) in
              record {
                held = λ z. absurd (omega (arith, z, some, c.done_is));
                went = λ n.
                    record {
                      d = min over h' - s.cycle.0;
                      b = c.b + 1;
                      w = c.w ++ o.x;
                      some_cycles = omega (arith, some, c.done_is);
                      steps = rw e at all;
                      cycle_is = omega (arith, some, c.done_is);
                      begun_is = omega (arith, c.begun_is);
                      at_is = o.at_is;
                      log_is = o.log_is;
                    };
                forwards = record {
                  register = register_small;
                  ticks_left_is = λ n q. let t = timer_same n in let y = m.same n in rw t (omega (arith, y.0, y.1, c.before_tick (rw t at q)));
                };
              }

          -- THE BURST GOES ON: the event is ahead, no interrupt is accepted, and the runner doesn't jump
          module _ (ahead : over < h') where
            abbrev pub on : Core
            on = with_timer (set_owed 0 r.core) (ticks (over - since') r.core.timer)

            abbrev there : State
            there = state_of on ram' ports' over

            level_still : r.core.interrupt.level ≡ l.int
            level_still = ap (λ (y : Core). y.interrupt.level) (gone g).core_is ∙ begun_here.level ∙ c.level

            lines_still : lines_at sched over ≡ l
            lines_still = k.turn.lines _ (omega (arith, c.done_is)) (omega (arith, ahead, m.in_limit))

            -- after STM the timer isn't late
            on_core : forward (over - since') (set_owed 0 r.core) ≡ on
            on_core = go (eqb r.core.mark mark_stm) refl
              where
                go : (x : Bool) → eqb r.core.mark mark_stm ≡ x → forward (over - since') (set_owed 0 r.core) ≡ on
                go true q =
                    let stm = eqb-true r.core.mark mark_stm q in
                    let none : 0 ≡ over - since' = omega (arith, (m.stm stm ahead).0) in
                    forward-stm (over - since') (set_owed 0 r.core) stm
                    ∙ sym (forward-none (set_owed 0 r.core))
                    ∙ ap (λ (y : ℕ). with_timer (set_owed 0 r.core) (ticks y r.core.timer)) none
                go false q = forward-on (over - since') (set_owed 0 r.core) (eqb-false r.core.mark mark_stm q)

            before_tick_still : 0 < r.core.timer.register → h' ≤ since' + ticks_left r.core.timer
            before_tick_still q = go (eqb r.core.mark mark_stm) refl
              where
                go : (x : Bool) → eqb r.core.mark mark_stm ≡ x → h' ≤ since' + ticks_left r.core.timer
                go true v = let y = m.stm (eqb-true r.core.mark mark_stm v) ahead in omega (arith, y.0, y.1)
                go false v =
                    let not_stm = eqb-false r.core.mark mark_stm v in
                    let t = timer_same not_stm in
                    let y = m.same not_stm in
                    rw t (omega (arith, y.0, y.1, c.before_tick (rw t at q)))

            watches_still : watch' ≡ watch_code (skips && not (eqb r.core.timer.register 0))
            watches_still = go (eqb r.core.mark mark_stm) refl
              where
                go : (x : Bool) → eqb r.core.mark mark_stm ≡ x → watch' ≡ watch_code (skips && not (eqb r.core.timer.register 0))
                go true v =
                    let stm = eqb-true r.core.mark mark_stm v in
                    let on : eqb r.core.timer.register 0 ≡ false = ne_eqb r.core.timer.register 0 (λ z. omega (arith, z, runs stm)) in
                    (m.stm stm ahead).2 ∙ ap watch_code (sym (ap (λ (y : Bool). skips && not y) on ∙ and-true skips))
                go false v =
                    let not_stm = eqb-false r.core.mark mark_stm v in
                    (m.same not_stm).2 ∙ c.watches ∙ ap (λ (y : Timer). watch_code (skips && not (eqb y.register 0))) (sym (timer_same not_stm))

            valid_still : Valid (state_of (set_owed 0 r.core) ram' ports' over)
            valid_still =
                let o = gone g in
                let v = after_valid in
                let scalars = subst Scalars (sym o.core_is) v.core.scalars in
                record {
                  core = record { scalars = omega (arith, scalars); stack = subst (λ (y : Core). ValidStack y.flow.stack) (sym o.core_is) v.core.stack };
                  ports = subst ValidPorts (sym o.ports_is) v.ports;
                  ram = subst ValidRam (sym o.ram_is) v.ram;
                  count = omega arith;
                  cycle = omega (arith, ahead, m.in_limit, k.turn.in_limit);
                }

            -- where the code then stands
            abbrev after : Standing
            after = stands_after p r ram' ports' log' h' since' watch'

            rides_on : accepts on ≡ false → (skips ≡ true → (left : ℕ) → wait_length sheet rom sched there left ≡ 0) → Riding sheet skips rom sched l limit s log₀ at₀ begun₀ after
            rides_on not_accepted no_jump =
                let o = gone g in
                let e : over - over ≡ 0 = omega arith in
                let all = reached over (omega arith) (omega arith) (omega (arith, ahead)) in
                let on_is : state_of (forward (over - since') (set_owed 0 r.core)) ram' ports' over ≡ there = ap (λ (y : Core). state_of y ram' ports' over) on_core in
                record {
                  t = there;
                  w = c.w ++ o.x;
                  d = over - s.cycle.0;
                  b = c.b + 1;
                  steps = subst (λ (y : State). OneByOne (ordinary sheet) rom sched skips (length log₀ - at₀) (limit - s.cycle.0) s y (c.w ++ o.x) (over - s.cycle.0) (c.b + 1)) on_is (rw e at all);
                  parts = refl;
                  done_is = omega (arith, c.done_is);
                  begun_is = omega (arith, c.begun_is);
                  few = omega (arith, c.few, c.done_is);
                  due_is = cycle_due sheet rom sched there refl not_accepted (ap (λ (y : Lines). y.int) lines_still ∙ sym level_still)
                      ∙ ap (λ (y : Lines). execute sheet rom y there on) lines_still;
                  valid = valid_still;
                  level = level_still;
                  no_jump = λ q. no_jump q (limit - s.cycle.0 - (over - s.cycle.0));
                  inside = ahead;
                  in_limit = m.in_limit;
                  before_tick = before_tick_still;
                  set = since_small.0;
                  watches = watches_still;
                  place = o.at_is;
                  fits = o.fits;
                  log_is = o.log_is;
                  at_start = λ z. absurd (omega (arith, z, c.done_is));
                  state_is = λ n. sym on_is;
                }

            -- INT and INTE aren't both 1, and no loop waits on the timer: the code at PC isn't the one that is watched for
            rides_freely : Free r.core.interrupt → (byte_at rom r.core.flow.pc ≡ watch' → ⊥) → Riding sheet skips rom sched l limit s log₀ at₀ begun₀ after
            rides_freely f n = rides_on (free_accepts on f) (λ q left. wait_length-none sheet rom sched there left (go q (eqb r.core.timer.register 0) refl))
              where
                go : skips ≡ true → (x : Bool) → eqb r.core.timer.register 0 ≡ x → may_jump sheet rom sched there ≡ false
                go q true v =
                    let z = eqb-true r.core.timer.register 0 v in
                    stopped sheet rom sched there (ap (λ (y : Timer). y.register) (ticks_stopped (over - since') r.core.timer z) ∙ z)
                go q false v =
                    let watched = watches_still ∙ watches_ttm skips r.core.timer.register q (eqb-false r.core.timer.register 0 v) in
                    no_loop sheet rom sched there (rw (no_ttm sheet rom (lent_rom k.turn.lent) r.core.flow.pc (λ z. n (z ∙ sym watched))))

            -- or the address after PC holds no JCP back
            rides_past : Free r.core.interrupt → at_jcp_back sheet rom r.core.flow.pc ≡ false → Riding sheet skips rom sched l limit s log₀ at₀ begun₀ after
            rides_past f z =
                rides_on (free_accepts on f)
                (λ q left. wait_length-none sheet rom sched there left (no_loop sheet rom sched there (rw z (and-false (at_ttm sheet rom r.core.flow.pc)))))

            -- the mark keeps an interrupt back
            rides_kept : may_be_due r.core.interrupt ≡ true → blocks r.core.mark ≡ true
                → Riding sheet skips rom sched l limit s log₀ at₀ begun₀ after
            rides_kept due z =
                rides_on (blocked_accepts on z)
                (λ q left. wait_length-none sheet rom sched there left (both_one sheet rom sched there due))

        pub near_still : {near : ℕ} → Near near p.horizon p.core.interrupt → (r.core.mark ≡ mark_ei → ⊥)
            → Left near p.horizon r.core.interrupt r.core.mark
        near_still v n = record {
          event = v.event;
          free = λ q. free_still n (v.free q);
          due = λ z h b. ap may_be_due (interrupt_still n b) ∙ v.due z h;
        }

-- THE LOOPS' INVARIANTS

-- around the instructions: the loop stands at p, whichever the sheet is and whichever core it was before the lines were taken
pub record Rides (skips : Bool) (rom sched table rows positions : List ℕ) (levels : ℕ) (l : Lines) (limit n : ℕ) (ram₀ ports₀ log₀ : List ℕ)
    (at₀ begun₀ : ℕ) (first : Core) (p : Standing) : Type 0 where
  pub riding : (sheet : Sheet) (b : Core)
      → Setting sheet skips rom sched table rows positions levels l limit (state_of b ram₀ ports₀ n) log₀ at₀ begun₀ first
      → Riding sheet skips rom sched l limit (state_of b ram₀ ports₀ n) log₀ at₀ begun₀ p

-- from instruction to instruction: from q, where the loop around it stood, to p
pub record Follows (skips : Bool) (rom sched table rows positions : List ℕ) (levels : ℕ) (l : Lines) (limit at₀ begun₀ : ℕ) (q p : Standing)
    (near : ℕ) : Type 0 where
  pub riding : {sheet : Sheet} {s : State} {log₀ : List ℕ} {first : Core}
      → Setting sheet skips rom sched table rows positions levels l limit s log₀ at₀ begun₀ first
      → Riding sheet skips rom sched l limit s log₀ at₀ begun₀ q → Riding sheet skips rom sched l limit s log₀ at₀ begun₀ p
  pub later : q.done ≤ p.done
  pub near_event : Near near p.horizon p.core.interrupt

-- what stays the same, by what the burst asks
pub setting_of : {sheet : Sheet} {skips : Bool} {rom sched table rows positions : List ℕ} {l : Lines} {limit : ℕ} {s : State} {log : List ℕ} {at begun : ℕ} {first : Core}
    → Turn sheet skips rom sched table rows positions l limit s log at begun × Due s → first ≡ taken l s.core
    → Setting sheet skips rom sched table rows positions sheet.levels l limit s log at begun first
setting_of v e = record { turn = v.0; due = v.1; levels_is = refl; first_is = e }

-- where both loops stand
pub riding_of : {sheet : Sheet} {skips : Bool} {rom sched table rows positions : List ℕ} {levels : ℕ} {l : Lines} {limit n : ℕ} {ram₀ ports₀ log₀ : List ℕ}
    {at₀ begun₀ near : ℕ} {first b : Core} {q p : Standing}
    → Follows skips rom sched table rows positions levels l limit at₀ begun₀ q p near
    → Rides skips rom sched table rows positions levels l limit n ram₀ ports₀ log₀ at₀ begun₀ first q
    → Setting sheet skips rom sched table rows positions levels l limit (state_of b ram₀ ports₀ n) log₀ at₀ begun₀ first
    → Riding sheet skips rom sched l limit (state_of b ram₀ ports₀ n) log₀ at₀ begun₀ p
riding_of f o k = f.riding k (o.riding _ _ k)

-- what `execute` says of an instruction that is begun
pub answered : {rom rows : List ℕ} {levels : ℕ} {l : Lines} {s : State} {at : ℕ} {log : List ℕ} (o : Started) {ram ports log' : List ℕ}
    → ((sheet : Sheet) → Fits sheet rom rows levels → start_of (begun_of o) ram ports log' ≡ answer_on at (unticked sheet rom l s s.core) s log)
    → Answers rom rows levels l s at log (begun_of o) ram ports log'
answered o e = record { is = e }

-- before the first of them
pub follows-none : {skips : Bool} {rom sched table rows positions : List ℕ} {levels : ℕ} {l : Lines} {limit at₀ begun₀ : ℕ} {p : Standing} {near : ℕ}
    → near ≡ nearest_of p.core.interrupt p.horizon → Follows skips rom sched table rows positions levels l limit at₀ begun₀ p p near
follows-none e = record { riding = λ k y. y; later = omega arith; near_event = near_is e }

-- and from p to where an instruction leaves the code
module _ {skips : Bool} {rom sched table rows positions : List ℕ} {levels : ℕ} {l : Lines} {limit at₀ begun₀ : ℕ} {q p : Standing} {near : ℕ}
    (f : Follows skips rom sched table rows positions levels l limit at₀ begun₀ q p near) {r : Told} {ram' ports' log' : List ℕ}
    (a : Answers rom rows levels l (state_of p.core p.ram p.ports p.done) p.at p.log r ram' ports' log') (g : r.stop ≡ 0)
    {h' since' watch' : ℕ}
    (moved : Moved (set_owed 0 r.core) (p.done + 1 + r.core.owed) limit skips p.horizon p.since p.watch h' since' watch') where
  abbrev next_place : Standing
  next_place = stands_after p r ram' ports' log' h' since' watch'

  -- neither an interrupt may be due nor has the event come
  module _ {near' : ℕ} (v : Left near' h' r.core.interrupt r.core.mark) (ahead : p.done + 1 + r.core.owed < near') where
    event_ahead : p.done + 1 + r.core.owed < h'
    event_ahead = omega (arith, ahead, v.event (omega (arith, ahead)))

    still_free : Free r.core.interrupt
    still_free = v.free (omega (arith, ahead))

    still_near : Near near' h' r.core.interrupt
    still_near = record { event = v.event; free = v.free; due = λ z. absurd (omega (arith, z, ahead)) }

    abbrev Follows_on : Type 0
    Follows_on = Follows skips rom sched table rows positions levels l limit at₀ begun₀ q next_place near'

    pub follows_past : ((sheet : Sheet) → sheet.rom ≡ length rom → at_jcp_back sheet rom r.core.flow.pc ≡ false) → Follows_on
    follows_past z = record {
      riding = λ {sheet} k y. rides_past k (f.riding k y) a g moved event_ahead still_free (z sheet (lent_rom k.turn.lent));
      later = omega (arith, f.later);
      near_event = still_near;
    }

    pub follows_freely : (byte_at rom r.core.flow.pc ≡ watch' → ⊥) → Follows_on
    follows_freely n = record {
      riding = λ k y. rides_freely k (f.riding k y) a g moved event_ahead still_free n;
      later = omega (arith, f.later);
      near_event = still_near;
    }

  -- the mark keeps an interrupt back, and the event is ahead
  pub rides_again : {n : ℕ} {ram₀ ports₀ log₀ : List ℕ} {first : Core}
      → Rides skips rom sched table rows positions levels l limit n ram₀ ports₀ log₀ at₀ begun₀ first q
      → {near' : ℕ} → Left near' h' r.core.interrupt r.core.mark → near' ≡ 0
      → (blocks r.core.mark ≡ true) × (p.done + 1 + r.core.owed < h')
      → Rides skips rom sched table rows positions levels l limit n ram₀ ports₀ log₀ at₀ begun₀ first next_place
  rides_again o near zeroed v =
      record { riding = λ sheet b k. rides_kept k (f.riding k (o.riding sheet b k)) a g moved v.1 (near.due zeroed (omega (arith, v.1)) v.0) v.0 }
