-- A machine cycle keeps every field within its width, adds 1 to the cycle number and appends at most 16 bytes. Assumes nothing.
use mathlib.Core.Path.{◌≡◌, ◌∙◌, refl, sym, ap, subst}
use mathlib.Core.Bool.{Bool, true, false, cond}
use mathlib.Core.List.{List, [], ◌∷◌}
use Prim.Native.Nat.{ℕ, zero, suc, ◌+◌, ◌-◌, ◌*◌, ◌<◌, ◌≤◌}
use native.Mathlib.Omega.{arith}
use lib.Dec.{T, eqb, ltb, ltb→lt}
use lib.ListN.{length, set, drop, length-set, replicate}
use borrow.Author.Tests.{eqb-false}
use Rattle.runs.specs.Machine.{Out, stop, went}
use Rattle.runs.specs.Refusals.{cycle_limit}
use Rattle.runs.specs.Laws.{Bytes}
use Rattle.upd546.specs.declared.Core.{Core}
use Rattle.upd546.specs.declared.Timer.{Timer}
use Rattle.upd546.specs.declared.Lines.{Lines}
use Rattle.upd546.specs.declared.State.{State}
use Rattle.upd546.specs.declared.Sheet.{Sheet}
use Rattle.upd546.specs.TheMachine.{addresses, stack_depth, byte_at, follows, past, stored_rows, with_word, place_in, mark_stm, latches, reset_count}
use Rattle.upd546.specs.Parts.{with_count, with_timer, set_owed, set_pc}
use Rattle.upd546.specs.TheLineSchedule.{lines_at, schedule_number}
use Rattle.upd546.specs.StateImage.{rows_zero}
use Rattle.upd546.specs.Ports.{Write, reset_record, latched, log_bytes, port_c}
use Rattle.upd546.specs.Timer.{step_register, tick}
use Rattle.upd546.specs.Instructions.{Given, Effect, Instruction, instruction}
use Rattle.upd546.specs.OneMachineCycle.{accepts, accepted, taken, paid, ticked, ended, quiet, given, instruction_stop, passed_over, begun, on_stop, execute, on_owed, on_accepts, ordinary_cycle, cleared, reset_writes, reset_cycle, cycle}
use Rattle.upd546.proofs.Computed.{every_at}
use Rattle.laws.specs.Burst.{started, unticked}
use Rattle.laws.specs.Valid.{Scalars, ValidStack, ValidCore, ValidPorts, ValidRam, Valid, ValidLines}
use Rattle.laws.proofs.Lists.{below_set, set_entry, below_all}
use Rattle.laws.proofs.Instructions.{ValidGiven, Keeps, keeps, pushed_valid}
use Rattle.laws.specs.Writes.{All, ◌▹◌, ValidWrite}
use Rattle.laws.proofs.Lines.{lines_valid}
use Rattle.laws.proofs.Sheets.{rows_keep}
use Rattle.laws.specs.Reset.{count_after}
use Rattle.laws.proofs.Reset.{counted-small, either}

-- THE TIMER

record ValidTimer (t : Timer) : Type 0 where
  tm : t.tm < 2
  register : t.register < 64
  counter : t.counter < 64
  stopped : t.counter ≤ 63 * t.register

-- the register stays within 6 bits, and a running one never becomes 0
pub step_small : (r : ℕ) → r < 64 → step_register r < 64
unfolding step_register
step_small r h = ltb→lt _ _ (every_at (λ k. ltb (step_register k) 64) 64 tt r h)

pub step_runs : (r : ℕ) → 0 < r → r < 64 → 0 < step_register r
unfolding step_register
step_runs r p h =
    let t : T (ltb 0 (step_register (suc (r - 1)))) = every_at (λ k. ltb 0 (step_register (suc k))) 63 tt (r - 1) (omega arith) in
    let e : suc (r - 1) ≡ r = omega arith in
    ltb→lt 0 (step_register r) (rw e at t)

tick_valid : (t : Timer) → ValidTimer t → ValidTimer (tick t)
unfolding tick
tick_valid t v = go (eqb t.register 0) refl (eqb (step_register t.register) 1) (eqb t.counter 0)
  where
    go : (a : Bool) → eqb t.register 0 ≡ a → (b c : Bool)
        → ValidTimer (cond a t (cond b (cond c (record { tm = 1; register = 0; counter = 0 }) (record { tm = t.tm; register = 1; counter = t.counter - 1 })) (record { tm = t.tm; register = step_register t.register; counter = t.counter })))
    go true e b c = v
    go false e true true = omega arith
    go false e true false = omega arith
    go false e false c =
        let p : 0 < t.register = omega (arith, eqb-false t.register 0 e) in
        omega (arith, step_small t.register v.register, step_runs t.register p v.register)

timer_of : (c : Core) → Scalars c → ValidTimer c.timer
timer_of c v = omega arith

-- STEPS a, b, c AND d

ticked_valid : (c : Core) → ValidCore c → ValidCore (ticked c)
unfolding ticked
ticked_valid c v = go (eqb c.mark mark_stm)
  where
    go : (b : Bool) → ValidCore (cond b c (with_timer c (tick c.timer)))
    go true = v
    go false = record { scalars = omega (arith, tick_valid c.timer (timer_of c v.scalars)); stack = v.stack }

accepted-stack : (sheet : Sheet) → sheet.levels ≤ stack_depth → (c : Core) → ValidCore c
    → ValidStack (accepted sheet c).flow.stack
    × (drop sheet.levels (accepted sheet c).flow.stack ≡ drop sheet.levels c.flow.stack)
unfolding accepted
accepted-stack sheet few c v = pushed_valid sheet.levels c.flow.pc c.flow.stack few v.scalars.pc v.stack

pub accepted-keeps : (sheet : Sheet) → sheet.levels ≤ stack_depth → (c : Core) → ValidCore c → ValidCore (accepted sheet c)
unfolding accepted
accepted-keeps sheet few c v = record { scalars = omega arith; stack = (accepted-stack sheet few c v).0 }

pub taken_keeps : (l : Lines) (c : Core) → ValidLines l → ValidCore c → ValidCore (taken l c)
unfolding taken
taken_keeps l c h v = record { scalars = go (ltb l.int c.interrupt.level); stack = v.stack }
  where
    go : (b : Bool) → Scalars (record {
      registers = c.registers;
      flow = c.flow;
      interrupt = record { int = cond b 1 c.interrupt.int; inte = c.interrupt.inte; level = l.int };
      timer = c.timer;
      mark = c.mark;
      owed = c.owed;
    })
    go true = omega arith
    go false = omega arith

pub paid_keeps : (c : Core) → ValidCore c → ValidCore (paid c)
unfolding paid
paid_keeps c v = record { scalars = omega arith; stack = v.stack }

-- A RESET

cleared-keeps : (c : Core) → ValidCore c → ValidCore (cleared c)
unfolding cleared
cleared-keeps c v = record { scalars = omega arith; stack = v.stack }

reset_one : (count : ℕ) → length (reset_writes count) ≤ 1
reset_one count = go (eqb count reset_count)
  where
    go : (b : Bool) → length (cond b [] reset_record) ≤ 1
    go true = omega arith
    go false = omega arith

-- ADDRESSES

follows-small : (a : ℕ) → a < addresses → follows a < addresses
unfolding follows
follows-small a h = omega arith

past_small : (n a : ℕ) → a < addresses → past n a < addresses
unfolding past
past_small zero a h = h
past_small (suc n) a h = past_small n (follows a) (follows-small a h)

-- WRITES

latched-valid : (ws : List Write) (ports : List ℕ) → All ValidWrite ws → ValidPorts ports → ValidPorts (latched ws ports)
latched-valid [] ports a v = v
latched-valid (w ∷ ws) ports (h ▹ a) v =
    latched-valid ws (set ports (w.port - port_c) w.value) a
    (record {
      count = length-set ports (w.port - port_c) w.value ∙ v.count;
      below = below_set 16 ports (w.port - port_c) w.value h.value v.below;
      last = set_entry 8 ports (w.port - port_c) w.value 6 (λ e. h.narrow (omega (arith, h.first))) v.last;
    })

pub records-length : (n : ℕ) (ws : List Write) → length (log_bytes n ws) ≡ 8 * length ws
records-length n [] = refl
records-length n (w ∷ ws) = omega (arith, records-length n ws)

-- WHAT A CYCLE KEEPS

-- a cycle of the chip of a sheet: its state is valid, and what the sheet lacks stays zero
pub record Cycled (sheet : Sheet) (s t : State) (w : List ℕ) : Type 0 where
  pub valid : Valid t
  pub levels : drop sheet.levels t.core.flow.stack ≡ drop sheet.levels s.core.flow.stack
  pub rows : rows_zero sheet stored_rows s.ram ≡ true → rows_zero sheet stored_rows t.ram ≡ true
  pub rises : t.cycle.0 ≡ suc s.cycle.0
  pub records : length w ≤ 16

abbrev Fine : Sheet → State → Out State → Type 0
Fine sheet s (stop k) = Unit {0}
Fine sheet s (went t w b) = Cycled sheet s t w

ticked_stack : (c : Core) → (ticked c).flow.stack ≡ c.flow.stack
unfolding ticked
ticked_stack c = go (eqb c.mark mark_stm)
  where
    go : (b : Bool) → (cond b c (with_timer c (tick c.timer))).flow.stack ≡ c.flow.stack
    go true = refl
    go false = refl

module _ (sheet : Sheet) (few : sheet.levels ≤ stack_depth) (s : State) (v : Valid s) (h : s.cycle.0 < cycle_limit) where
  abbrev SameAbsent : List ℕ → Type 0
  SameAbsent stack = drop sheet.levels stack ≡ drop sheet.levels s.core.flow.stack

  -- step d leaves the stack
  ticked_absent : (c : Core) → SameAbsent c.flow.stack → SameAbsent (ticked c).flow.stack
  ticked_absent c e = ap (drop sheet.levels) (ticked_stack c) ∙ e

  -- the state after a cycle
  ended_valid : (c : Core) (ram ports : List ℕ) → ValidCore c → ValidRam ram → ValidPorts ports → Valid (ended s c ram ports)
  ended_valid c ram ports vc vr vp = record { core = ticked_valid c vc; ports = vp; ram = vr; count = v.count; cycle = omega arith }

  quiet_fine : (c : Core) → ValidCore c → SameAbsent c.flow.stack → Fine sheet s (quiet s c)
  quiet_fine c vc same =
      record {
        valid = ended_valid c s.ram s.ports vc v.ram v.ports;
        levels = ticked_absent c same;
        rows = λ z. z;
        rises = omega arith;
        records = omega arith;
      }

  taken_absent : (l : Lines) (c : Core) → SameAbsent c.flow.stack → SameAbsent (taken l c).flow.stack
  unfolding taken
  taken_absent l c e = e

  paid_absent : (c : Core) → SameAbsent c.flow.stack → SameAbsent (paid c).flow.stack
  unfolding paid
  paid_absent c e = e

  cleared-absent : (l : Lines) (c : Core) → SameAbsent c.flow.stack → SameAbsent (cleared (taken l c)).flow.stack
  unfolding taken cleared
  cleared-absent l c e = e

  module _ (rom : List ℕ) (l : Lines) (b : Bytes rom) (vl : ValidLines l) (c : Core) (vc : ValidCore c) where
    second_small : (t : Bool) → cond t (byte_at rom (follows c.flow.pc)) 0 < 256
    second_small true = b (follows c.flow.pc)
    second_small false = omega arith

    pub given_valid : ValidGiven (given sheet rom l s c)
    unfolding given
    given_valid = record {
      core = vc;
      after = past_small (instruction (byte_at rom c.flow.pc)).bytes c.flow.pc vc.scalars.pc;
      second = second_small (eqb (instruction (byte_at rom c.flow.pc)).bytes 2);
      word = v.ram.below (place_in sheet ((instruction (byte_at rom c.flow.pc)).address c));
      lines = vl;
      ports = v.ports;
      levels = few;
    }

    over_small : (e : Effect) → passed_over rom e ≤ 2
    unfolding passed_over
    over_small e = go e.skip
      where
        go : (t : Bool) → cond t (instruction (byte_at rom e.core.flow.pc)).bytes 0 ≤ 2
        go true = (keeps (byte_at rom e.core.flow.pc)).two_bytes
        go false = omega arith

    -- what an instruction leaves
    core_after : (i : Instruction) (g : Given) (over : ℕ) → Keeps i → ValidGiven g → over ≤ 2
        → ValidCore (set_owed (i.cycles - 1 + over) (set_pc (past over (i.effect g).core.flow.pc) (i.effect g).core))
    core_after i g over k vg ho =
        let ve = (k.effect g vg).core in
        record { scalars = omega (arith, ve.scalars, k.two_cycles, past_small over (i.effect g).core.flow.pc ve.scalars.pc); stack = ve.stack }

    ram_after : (i : Instruction) (g : Given) → Keeps i → ValidGiven g
        → ValidRam (with_word g.sheet s.ram (i.address g.core) (i.effect g).word)
    ram_after i g k vg = record {
      count = length-set s.ram (place_in g.sheet (i.address g.core)) (i.effect g).word ∙ v.ram.count;
      below = below_set 16 s.ram (place_in g.sheet (i.address g.core)) (i.effect g).word (k.effect g vg).word v.ram.below;
    }

    ports_after : (i : Instruction) (g : Given) → Keeps i → ValidGiven g → ValidPorts (latched (i.effect g).writes s.ports)
    ports_after i g k vg = latched-valid (i.effect g).writes s.ports (k.effect g vg).writes v.ports

    -- what is given is of this sheet, and its stack's absent words are as before
    record Due (g : Given) : Type 0 where
      same_sheet : g.sheet ≡ sheet
      same_absent : SameAbsent g.core.flow.stack

    absent_after : (i : Instruction) (g : Given) → Keeps i → ValidGiven g → Due g → SameAbsent (i.effect g).core.flow.stack
    absent_after i g k vg d =
        subst (λ (x : Sheet). drop x.levels (i.effect g).core.flow.stack ≡ drop x.levels g.core.flow.stack) d.same_sheet
        (k.absent g vg)
        ∙ d.same_absent

    -- an instruction that is begun: at most two records, one for each base cycle
    begun_fine : (i : Instruction) (g : Given) (over : ℕ) → Keeps i → ValidGiven g → Due g → over ≤ 2
        → Fine sheet s (begun i g (i.effect g) over s)
    unfolding begun
    begun_fine i g over k vg d ho =
        let e = i.effect g in
        let core = set_owed (i.cycles - 1 + over) (set_pc (past over e.core.flow.pc) e.core) in
        record {
          valid =
              ended_valid core (with_word g.sheet s.ram (i.address g.core) e.word) (latched e.writes s.ports)
              (core_after i g over k vg ho) (ram_after i g k vg) (ports_after i g k vg);
          levels = ticked_absent core (absent_after i g k vg d);
          rows =
              λ z. subst (λ (x : Sheet). rows_zero sheet stored_rows (with_word x s.ram (i.address g.core) e.word) ≡ true)
              (sym d.same_sheet)
              (rows_keep sheet s.ram (i.address g.core) e.word z);
          rises = omega arith;
          records = omega (arith, records-length s.cycle.0 e.writes, k.two_cycles, k.records g vg);
        }

    -- and before the timer steps
    abbrev Whole : Out State → Type 0
    Whole (stop k) = Unit {0}
    Whole (went u x e) = Valid u

    unticked_whole : Whole (unticked sheet rom l s c)
    unfolding unticked
    unticked_whole = go (instruction_stop i g (i.effect g))
      where
        g : Given
        g = given sheet rom l s c

        i : Instruction
        i = instruction g.code

        go : (k : ℕ) → Whole (on_stop k (started rom i g (i.effect g) s))
        go zero = record {
          core = core_after i g (passed_over rom (i.effect g)) (keeps g.code) given_valid (over_small (i.effect g));
          ports = ports_after i g (keeps g.code) given_valid;
          ram = ram_after i g (keeps g.code) given_valid;
          count = v.count;
          cycle = omega arith;
        }
        go (suc k) = tt

    pub unticked_valid : (u : State) (x : List ℕ) (e : ℕ) → unticked sheet rom l s c ≡ went u x e → Valid u
    unticked_valid u x e q = subst Whole q unticked_whole

    -- a stop before any of it, or the instruction
    on_stop_lem : (i : Instruction) (g : Given) (over : ℕ) → Keeps i → ValidGiven g → Due g → over ≤ 2 → (k : ℕ)
        → Fine sheet s (on_stop k (begun i g (i.effect g) over s))
    on_stop_lem i g over k vg d ho zero = begun_fine i g over k vg d ho
    on_stop_lem i g over k vg d ho (suc n) = tt

    given_due : SameAbsent c.flow.stack → Due (given sheet rom l s c)
    unfolding given
    given_due same = record { same_sheet = refl; same_absent = same }

    execute_fine : SameAbsent c.flow.stack → Fine sheet s (execute sheet rom l s c)
    unfolding execute
    execute_fine same =
        let g = given sheet rom l s c in
        let i = instruction g.code in
        on_stop_lem i g (passed_over rom (i.effect g)) (keeps g.code) given_valid (given_due same) (over_small (i.effect g))
        (instruction_stop i g (i.effect g))

    owed_fine : SameAbsent c.flow.stack → (owed : ℕ) → Fine sheet s (on_owed owed sheet rom l s c)
    owed_fine same zero = execute_fine same
    owed_fine same (suc k) = quiet_fine (paid c) (paid_keeps c vc) (paid_absent c same)

  -- the steps a to d
  ordinary-fine : (rom : List ℕ) (l : Lines) → Bytes rom → ValidLines l → Fine sheet s (ordinary_cycle sheet rom l s)
  unfolding ordinary_cycle
  ordinary-fine rom l br vl = go (accepts s.core)
    where
      go : (t : Bool) → Fine sheet s (on_accepts t sheet rom l s)
      go true =
          quiet_fine (taken l (accepted sheet s.core))
          (taken_keeps l (accepted sheet s.core) vl (accepted-keeps sheet few s.core v.core))
          (taken_absent l (accepted sheet s.core) (accepted-stack sheet few s.core v.core).1)
      go false =
          owed_fine rom l br vl (taken l s.core) (taken_keeps l s.core vl v.core) (taken_absent l s.core refl) s.core.owed

  -- a reset cycle
  reset_fine : (l : Lines) → ValidLines l → Fine sheet s (reset_cycle l s)
  unfolding reset_cycle
  reset_fine l vl = record {
    valid = record {
      core = cleared-keeps (taken l s.core) (taken_keeps l s.core vl v.core);
      ports = record { count = refl; below = below_all 16 (replicate latches 0) (omega arith) refl; last = omega arith };
      ram = v.ram;
      count = omega arith;
      cycle = omega arith;
    };
    levels = cleared-absent l s.core refl;
    rows = λ z. z;
    rises = omega arith;
    records = omega (arith, records-length s.cycle.0 (reset_writes s.count), reset_one s.count);
  }

pub recounted-valid : (s : State) → Valid s → (k : ℕ) → k ≤ reset_count → Valid (with_count k s)
recounted-valid s v k e = record { core = v.core; ports = v.ports; ram = v.ram; count = e; cycle = v.cycle }

module _ (sheet : Sheet) (few : sheet.levels ≤ stack_depth) (s : State) (v : Valid s) (h : s.cycle.0 < cycle_limit) where
  -- of a cycle it doesn't matter which count it began with
  from_count : (k : ℕ) (o : Out State) → Fine sheet (with_count k s) o → Fine sheet s o
  from_count k (stop n) f = tt
  from_count k (went t w b) f = record { valid = f.valid; levels = f.levels; rows = f.rows; rises = f.rises; records = f.records }

  cycle_fine : (rom sched : List ℕ) → Bytes rom → Bytes sched → schedule_number sched ≡ 0 → Fine sheet s (cycle sheet rom sched s)
  cycle_fine rom sched br bs e =
      let l = lines_at sched s.cycle.0 in
      let vl = lines_valid sched s.cycle.0 bs e in
      let k = count_after sched s.cycle.0 s.count in
      either sheet rom sched s (Fine sheet s) (reset_fine sheet few s v h l vl)
      (from_count k (ordinary_cycle sheet rom l (with_count k s))
      (ordinary-fine sheet few (with_count k s) (recounted-valid s v k (counted-small l.res s.count)) h rom l br vl))

-- THE LAW: a cycle that is begun at a valid state below the cycle limit
pub cycle_keeps : (sheet : Sheet) → sheet.levels ≤ stack_depth → (rom sched : List ℕ) (s t : State) (w : List ℕ) (b : ℕ) → Bytes rom
    → Bytes sched
    → schedule_number sched ≡ 0 → Valid s → s.cycle.0 < cycle_limit → cycle sheet rom sched s ≡ went t w b → Cycled sheet s t w
cycle_keeps sheet few rom sched s t w b br bs p v h e = subst (Fine sheet s) e (cycle_fine sheet few s v h rom sched br bs p)
