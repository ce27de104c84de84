-- The loops of both runners: where they stand, the reset line, a jump, a stop, a turn, the next record, the finish. Assumes nothing.
use mathlib.Core.Path.{◌≡◌, ◌∙◌, refl, sym, ap}
use Prim.Native.Nat.{◌+◌, ◌-◌, ◌<◌, ◌≤◌}
use native.Mathlib.Omega.{arith}
use Rattle.runs.specs.Refusals.{cycle_limit}
use Rattle.jump.specs.Boundary.{jump_by}
use Rattle.burst.proofs.Moving.{some_number}
use Rattle.burst.specs.Turn.{number_of}
use Rattle.turns.proofs.Taken.{run_taken}
use Rattle.turns.proofs.Turning.{Place, At, Entered, Ahead, bare, stands_last, stands_on, starts, limit_kept, schedule_taken, rom_taken}
use Rattle.turns.proofs.Turning.{finishes, boundary, jumpable, jump_small, turn_asks, stops, turn_small}
use Rattle.turns.proofs.Turning.{enters, entered_as, is_quiet, not_quiet, look_ahead, look_place, looks, look_full, ahead, first, last, length_is, jumps_to, turns_to}
use Rattle.turns.proofs.run_loop.Goals as goal
use Rattle.turns.proofs.run_loop.Goals.{After-jump_length-j, After-row_known-in-loop-number-1, Joined-lines-count, else-lines-count, then-lines-count+in-Some}

-- once the reset line was looked at
entered : (c : Joined-lines-count)
    → let a = c.args in
    let l = c.loop-number in
    let v = c.if-lines-count in
    Entered a.panel.sheet a.panel.skips a.panel.rom.now a.panel.sched.now a.log.now a.n a.s l.cursor l.number
    (record { core = v.core; ram = l.ram; ports = v.ports; log = v.log; at = v.at; number = v.number; begun = l.begun; spared = l.spared }) v.limit l.count v.count
entered c =
    let k = c.loop-number.invariant in
    let t = c.loop-number-test.true in
    elim c.if-lines-count.branch [
      | then-lines-count+in-Some w ↦ entered_as (looks k t c.min-limit.ensures (not_quiet _ _ w.if-lines-count.true) w.in-Some.ensures refl) w.log-is w.core-is w.ports-is w.at-is w.number-is w.count-is w.limit-is
      | else-lines-count w ↦ entered_as (enters k t c.min-limit.ensures (is_quiet _ _ w.if-lines-count.false)) w.log-is w.core-is w.ports-is w.at-is w.number-is w.count-is w.limit-is
    ]

-- what the code has in the inner loop
abbrev place : After-jump_length-j → Place
place c =
    let l = c.loop-number-2 in
    record { core = l.core; ram = l.ram; ports = l.ports; log = l.log; at = l.at; number = l.number; begun = l.begun; spared = l.spared }

-- where the inner loop began, as `entered` says
abbrev Began : After-jump_length-j → Type 0
Began c =
    let a = c.args in
    let l = c.loop-number in
    let v = c.if-lines-count in
    Entered a.panel.sheet a.panel.skips a.panel.rom.now a.panel.sched.now a.log.now a.n a.s l.cursor l.number
    (record { core = v.core; ram = l.ram; ports = v.ports; log = v.log; at = v.at; number = v.number; begun = l.begun; spared = l.spared }) v.limit l.count v.count

-- where it stands, with the count before the cycles up to the limit
standing : (c : After-jump_length-j) → Began c
    → let a = c.args in
    At a.panel.sheet a.panel.skips a.panel.rom.now a.panel.sched.now a.log.now a.n a.s (place c)
    c.loop-number.count
standing c e = first c.loop-number-2.invariant c.loop-number-2-test.true (c.loop-number-2.invariant.at e.at)

before_limit : (c : After-jump_length-j)
    → let a = c.args in
    let v = c.if-lines-count in
    Ahead a.panel.sheet a.panel.rom.now a.panel.sched.now c.loop-number.cursor.lines v.number (a.s.cycle.0 + a.n) v.limit c.loop-number.count v.count
    c.loop-number-2.number
before_limit c = ahead c.loop-number-2.invariant c.loop-number-2-test.true

-- the length of the jump
jump_is : (c : After-jump_length-j) → Began c
    → let a = c.args in
    c.jump_length-j.result
    ≡ jump_by a.panel.skips a.panel.sheet a.panel.rom.now a.panel.sched.now (bare (place c)) (c.if-lines-count.limit - c.loop-number-2.number)
jump_is c e =
    length_is c.loop-number-2.invariant c.loop-number-2-test.true (rom_taken (standing c e)) c.jump_length-j.ensures

-- the counts after a jump
jump_fits : (c : After-jump_length-j) → Began c → (c.jump_length-j.result ≡ 0 → ⊥)
    → (c.loop-number-2.number + c.jump_length-j.result ≤ c.if-lines-count.limit) × (c.if-lines-count.limit ≤ cycle_limit)
    × (c.loop-number-2.begun ≤ c.loop-number-2.number) × (c.loop-number-2.spared ≤ c.loop-number-2.number) × (1 ≤ c.jump_length-j.result)
jump_fits c e some = jump_small (standing c e) (before_limit c) (jump_is c e) some

-- THE NEXT RECORD
-- the limit is reached, past where the loop by records stood
reached : (c : After-row_known-in-loop-number-1) → c.loop-number.number < c.if-lines-count.limit
    → (c.loop-number-2.number ≡ c.if-lines-count.limit) × (c.loop-number.number < c.if-lines-count.limit)
reached c further = (omega (arith, c.loop-number-2-test.false, c.loop-number-2.invariant.within_limit), further)

-- BEFORE THE LOOPS
pub overflow_add-end : goal.overflow_add-end
overflow_add-end c = omega (arith, (run_taken _ _ _ _ _ c.requires.not_refused_is).limit)

pub loop-number-init : goal.loop-number-init
loop-number-init c =
    let v = c.requires in
    record {
      at = starts _ _ _ _ _ _ _ v.not_refused_is c.bytes_alone.ensures.0 c.bytes_alone.ensures.1;
      stands = v.stands;
    }

-- THE RESET LINE
pub look-requires : goal.look-requires
look-requires c =
    let k = c.loop-number.invariant in
    (look_ahead k c.loop-number-test.true c.min-limit.ensures, look_place k)

pub returns-in-None : goal.returns-in-None
returns-in-None c =
    rw c.answer.ensures
    (look_full c.loop-number.invariant c.loop-number-test.true c.min-limit.ensures (not_quiet _ _ c.if-lines-count.true) c.in-None.ensures refl
    (rw (c.within_widths.ensures c.loop-number.invariant.at.valid.core.scalars) at c.state_of-same.ensures))

-- UP TO THE LIMIT
pub loop-number-2-init : goal.loop-number-2-init
loop-number-2-init c = let v = entered c in record { window = v.window; at = λ h. h; later = omega arith; within_limit = v.window.ahead }

pub jump_length-j-requires : goal.jump_length-j-requires
jump_length-j-requires c =
    boundary (c.loop-number-2.invariant.at (entered (goal.at.jump_length-j-requires c).Joined-lines-count).at) _ c.requires.position_table_is

-- A JUMP
pub core_after_jump-core-requires : goal.core_after_jump-core-requires
core_after_jump-core-requires c =
    let v = c.requires in
    let j = (goal.at.core_after_jump-core-requires c).After-jump_length-j in
    let e = entered (goal.at.core_after_jump-core-requires c).Joined-lines-count in
    jumpable (standing j e) (before_limit j) (jump_is j e) c.if-j-ne0.true _ _ v.position_table_is v.register_table_is

pub overflow_add-begun : goal.overflow_add-begun
overflow_add-begun c = omega (arith, jump_fits (goal.at.overflow_add-begun c).After-jump_length-j (entered (goal.at.overflow_add-begun c).Joined-lines-count) c.if-j-ne0.true)

pub overflow_add-spared : goal.overflow_add-spared
overflow_add-spared c = omega (arith, jump_fits (goal.at.overflow_add-spared c).After-jump_length-j (entered (goal.at.overflow_add-spared c).Joined-lines-count) c.if-j-ne0.true)

pub overflow_add-number : goal.overflow_add-number
overflow_add-number c = omega (arith, jump_fits (goal.at.overflow_add-number c).After-jump_length-j (entered (goal.at.overflow_add-number c).Joined-lines-count) c.if-j-ne0.true)

pub loop-number-2-preserved-then-j-ne0 : goal.loop-number-2-preserved-then-j-ne0
loop-number-2-preserved-then-j-ne0 c =
    let j = (goal.at.loop-number-2-preserved-then-j-ne0 c).After-jump_length-j in
    let e = entered (goal.at.loop-number-2-preserved-then-j-ne0 c).Joined-lines-count in
    jumps_to c.loop-number-2.invariant c.loop-number-2-test.true (jump_is j e) c.if-j-ne0.true c.core_after_jump-core.ensures
    (jump_fits j e c.if-j-ne0.true).0

-- A TURN
pub turn-o-requires : goal.turn-o-requires
turn-o-requires c =
    let v = c.requires in
    let j = (goal.at.turn-o-requires c).After-jump_length-j in
    let e = entered (goal.at.turn-o-requires c).Joined-lines-count in (
      turn_asks (standing j e) (before_limit j) (sym c.if-j-ne0.false ∙ jump_is j e) _ _ _ v.instructions v.row_table_is v.position_table_is,
      v.register_table_is,
    )

pub overflow_sub-number-in-Some-stop : goal.overflow_sub-number-in-Some-stop
overflow_sub-number-in-Some-stop c =
    omega (arith, (standing (goal.at.overflow_sub-number-in-Some-stop c).After-jump_length-j (entered (goal.at.overflow_sub-number-in-Some-stop c).Joined-lines-count)).from)

pub answer-requires-in-Some-stop : goal.answer-requires-in-Some-stop
answer-requires-in-Some-stop c =
    let h = standing (goal.at.answer-requires-in-Some-stop c).After-jump_length-j (entered (goal.at.answer-requires-in-Some-stop c).Joined-lines-count) in
    (omega (arith, limit_kept h, h.not_past), h.less)

pub returns-in-Some-stop : goal.returns-in-Some-stop
returns-in-Some-stop c =
    let j = (goal.at.returns-in-Some-stop c).After-jump_length-j in
    let e = entered (goal.at.returns-in-Some-stop c).Joined-lines-count in
    let h = standing j e in
    rw c.answer-in-Some-stop.ensures
    (stops h (before_limit j) (sym c.if-j-ne0.false ∙ jump_is j e) c.turn-o.ensures (rw c.in-Some-stop.is (some_number c.in-Some-stop.stop)) (ap number_of c.in-Some-stop.is) (rw (c.within_widths-in-Some-stop.ensures h.valid.core.scalars) at c.state_of-state.ensures))

pub loop-number-2-preserved : goal.loop-number-2-preserved
loop-number-2-preserved c =
    let j = (goal.at.loop-number-2-preserved c).After-jump_length-j in
    let e = entered (goal.at.loop-number-2-preserved c).Joined-lines-count in
    let none = sym c.if-j-ne0.false ∙ jump_is j e in
    let well : number_of c.turn-o.result.stop ≡ 0 = rw c.in_default.is refl in
    let z = turn_small (standing j e) (before_limit j) none c.turn-o.ensures well in
    turns_to c.loop-number-2.invariant c.loop-number-2-test.true none c.turn-o.ensures well z.0 z.1

pub overflow_sub-number-in-loop-number : goal.overflow_sub-number-in-loop-number
overflow_sub-number-in-loop-number c =
    omega (arith, reached c (entered (goal.at.overflow_sub-number-in-loop-number c).Joined-lines-count).further)

pub moved-cursor-requires : goal.moved-cursor-requires
moved-cursor-requires c =
    let k = c.loop-number.invariant in
    let v = c.loop-number-2.invariant.window in
    let e = entered (goal.at.moved-cursor-requires c).Joined-lines-count in
    let z = reached c e.further in (
      schedule_taken k.at,
      stands_last _ (schedule_taken k.at) _ _ c.if-lines-count.limit _ e.most (omega (arith, z)) (omega (arith, z)) k.stands,
      omega (arith, z, v.in_run, v.in_limit),
    )

pub loop-number-smaller : goal.loop-number-smaller
loop-number-smaller c =
    let at = goal.at.loop-number-smaller c in
    omega (arith, reached at.After-row_known-in-loop-number-1 (entered at.Joined-lines-count).further, c.loop-number-2.invariant.window.in_run)

pub loop-number-preserved : goal.loop-number-preserved
loop-number-preserved c =
    let at = goal.at.loop-number-preserved c in
    let e = entered at.Joined-lines-count in
    let z = reached at.After-row_known-in-loop-number-1 e.further in
    record { at = last c.loop-number-2.invariant z.0 (c.loop-number-2.invariant.at e.at); stands = stands_on (omega (arith, z)) c.moved-cursor.ensures }

pub returns : goal.returns
returns c =
    rw (c.answer-2.ensures, c.state_of-state-2.ensures, c.within_widths-2.ensures c.loop-number.invariant.at.valid.core.scalars)
    (finishes c.loop-number.invariant.at c.loop-number-test.false)
