-- The loops of a burst: an instruction that isn't begun, the next event after it, the end of a burst, the next instruction. Assumes
-- nothing.
use mathlib.Core.Path.{◌≡◌, ◌∙◌, refl, sym}
use mathlib.Core.Bool.{true, false}
use Prim.Native.Nat.{◌+◌, ◌<◌, ◌≤◌}
use native.Mathlib.Omega.{arith}
use lib.ListN.{length}
use Rattle.upd546.specs.declared.Sheet.{Sheet}
use Rattle.upd546.specs.TheMachine.{byte_at}
use Rattle.upd546.specs.Parts.{set_owed, state_of}
use Rattle.upd546.specs.OneMachineCycle.{blocks}
use Rattle.upd546.specs.TwoRunners.{at_jcp_back}
use Rattle.runs.specs.Refusals.{cycle_limit}
use Rattle.runs.specs.Numbers.{stop_number}
use Rattle.effect.specs.Answer.{held_back}
use Rattle.burst.proofs.Moving.{some_number}
use Rattle.burst.specs.Turn.{Moved, Bursts, ended_at}
use Rattle.burst.proofs.Lending.{lent_legal}
use Rattle.burst.proofs.Moving.{neither, unmoved, moved_to, goes_on}
use Rattle.burst.proofs.Riding.{Standing, Rides, Follows, Left, Answers, stands_after, rides, ready, at_fits, counts_small, stops_here, setting_of, riding_of, begun_of, answered, owed_small, register_small, near_is, left_near, near_to, near_still, since_small, event_near, ends, first_register, follows_past, follows_freely, rides_again}
use Rattle.burst.proofs.burst.Goals as goal
use Rattle.burst.proofs.burst.Goals.{After-stretch_of, In-Ok, Joined-core, else-core, then-core}

-- what the code has before the instruction, in the inner loop and in the outer one
abbrev standing : Joined-core → Standing
standing c =
    let l = c.loop-o-2 in
    record { core = l.core; ram = l.ram; ports = l.ports; log = l.log; at = l.at; done = l.done; begun = l.begun; horizon = l.horizon; since = l.since; watch = l.watch }

abbrev standing_outside : Joined-core → Standing
standing_outside c =
    let l = c.loop-o in
    record { core = l.core; ram = l.ram; ports = l.ports; log = l.log; at = l.at; done = l.done; begun = l.begun; horizon = l.horizon; since = l.since; watch = l.watch }

-- the counts before the instruction
counts : (c : In-Ok)
    → (c.loop-o-2.done < c.args.limit) × (c.args.limit ≤ cycle_limit) × (c.loop-o-2.begun ≤ c.loop-o-2.done)
counts c =
    let k = setting_of c.requires c.taken-first.ensures in
    counts_small k (riding_of c.loop-o-2.invariant c.loop-o.invariant k)

answers : (x : After-stretch_of)
    → let a = x.args in
    let l = x.loop-o-2 in
    Answers a.panel.rom.now a.panel.rows.now a.panel.sheet.levels a.lines (state_of l.core l.ram l.ports l.done) l.at l.log
    (held_back l.core l.at (stop_number x.in-Err.stop)) x.execute.new.ram x.execute.new.ports x.execute.new.log
answers x = record { is = x.in-Err.ensures }

-- the next event after it
moved_at : (j : Joined-core)
    → let a = j.args in
    let l = j.loop-o-2 in
    let o = j.in-Ok.o.core in
    Moved (set_owed 0 o) (l.done + 1 + o.owed) a.limit a.panel.skips l.horizon l.since l.watch j.if-core.horizon j.if-core.since j.if-core.watch
moved_at j =
    elim j.if-core.branch [
      | then-core w ↦ moved_to w.horizon-is w.since-is w.watch-is w.events_after-e.ensures.moved
      | else-core w ↦ moved_to w.horizon-is w.since-is w.watch-is (unmoved (neither _ w.if-core.false).1)
    ]

near_at : (j : Joined-core)
    → let o = j.in-Ok.o.core in
    Left j.if-core.near j.if-core.horizon o.interrupt o.mark
near_at j =
    let k = setting_of j.requires j.taken-first.ensures in
    elim j.if-core.branch [
      | then-core w ↦ near_to w.near-is w.horizon-is (left_near (near_is w.events_after-e.ensures.near_is))
      | else-core w ↦ near_to w.near-is w.horizon-is (near_still k (riding_of j.loop-o-2.invariant j.loop-o.invariant k) (answered j.in-Ok.o j.in-Ok.ensures) refl j.loop-o-2.invariant.near_event (neither _ w.if-core.false).0)
    ]

-- THE END OF THE BURST
-- what `ended` asks, where the arms have met
ends_at : (j : Joined-core)
    → let l = j.loop-o-2 in
    let over = l.done + 1 + j.in-Ok.o.core.owed in
    (over ≤ j.if-core.horizon + 3) × (j.if-core.since ≤ over) × (j.if-core.since ≤ j.if-core.horizon)
ends_at j =
    let k = setting_of j.requires j.taken-first.ensures in
    let y = riding_of j.loop-o-2.invariant j.loop-o.invariant k in
    let a = answered j.in-Ok.o j.in-Ok.ensures in
    let v = since_small k y a refl (moved_at j) in
    (event_near k y a refl (moved_at j), v.0, v.1)

burst_ends : (j : Joined-core)
    → let a = j.args in
    let l = j.loop-o-2 in
    let o = j.in-Ok.o in
    Bursts a.panel.sheet a.panel.skips a.panel.rom.now a.panel.sched.now a.limit (state_of a.before a.ram.now a.ports.now a.n)
    a.log.now a.place a.already
    (ended_at (set_owed 0 o.core) (l.done + 1 + o.core.owed) (l.begun + 1) o.at j.if-core.horizon j.if-core.since) j.execute.new.ram j.execute.new.ports j.execute.new.log
burst_ends j =
    let k = setting_of j.requires j.taken-first.ensures in
    ends k (riding_of j.loop-o-2.invariant j.loop-o.invariant k) (answered j.in-Ok.o j.in-Ok.ensures) refl (moved_at j)

-- what the code has once the arms have met
abbrev standing_after : Joined-core → Standing
standing_after j =
    stands_after (standing j) (begun_of j.in-Ok.o) j.execute.new.ram j.execute.new.ports j.execute.new.log j.if-core.horizon j.if-core.since j.if-core.watch

-- The invariants are shown where the arms have met. At the places where a loop begins again, far behind, the same steps take 1 GB more to
-- check.
abbrev Followed : Joined-core → Type 0
Followed n =
    let a = n.args in
    Follows a.panel.skips a.panel.rom.now a.panel.sched.now a.panel.table.now a.panel.rows.now a.panel.positions.now a.panel.sheet.levels a.lines
    a.limit a.place a.already (standing_outside n) (standing_after n) n.if-core.near

-- the nearest cycle is ahead
abbrev Ahead : Joined-core → Type 0
Ahead n = n.loop-o-2.done + 1 + n.in-Ok.o.core.owed < n.if-core.near

past_at : (n : Joined-core) → Ahead n
    → let rom = n.args.panel.rom.now in
    ((sheet : Sheet) → sheet.rom ≡ length rom → at_jcp_back sheet rom n.in-Ok.o.core.flow.pc ≡ false) → Followed n
past_at n near z =
    follows_past n.loop-o-2.invariant (answered n.in-Ok.o n.in-Ok.ensures) refl (moved_at n) (near_at n) near z

freely_at : (n : Joined-core) → Ahead n
    → (byte_at n.args.panel.rom.now n.in-Ok.o.core.flow.pc ≡ n.if-core.watch → ⊥) → Followed n
freely_at n near z =
    follows_freely n.loop-o-2.invariant (answered n.in-Ok.o n.in-Ok.ensures) refl (moved_at n) (near_at n) near z

kept_at : (j : Joined-core)
    → let a = j.args in
    let l = j.loop-o-2 in
    let o = j.in-Ok.o in
    j.if-core.near ≡ 0 → (blocks o.core.mark ≡ true) × (l.done + 1 + o.core.owed < j.if-core.horizon)
    → Rides a.panel.skips a.panel.rom.now a.panel.sched.now a.panel.table.now a.panel.rows.now a.panel.positions.now a.panel.sheet.levels a.lines
    a.limit a.n a.ram.now a.ports.now a.log.now a.place a.already
    j.taken-first.result (standing_after j)
kept_at j zeroed z =
    rides_again j.loop-o-2.invariant (answered j.in-Ok.o j.in-Ok.ensures) refl (moved_at j) j.loop-o.invariant (near_at j) zeroed z

-- BEFORE THE LOOPS
pub overflow_cast-chip : goal.overflow_cast-chip
overflow_cast-chip c = omega (arith, (lent_legal c.requires.0.lent).level_most)

pub horizon_of-horizon-requires : goal.horizon_of-horizon-requires
horizon_of-horizon-requires c =
    let v = c.requires.0 in
    (v.lent.position_table_is, rw c.taken-first.ensures (first_register v), v.ahead, v.in_limit)

pub loop-o-init : goal.loop-o-init
loop-o-init c = record { riding = λ sheet b k. rides k c.horizon_of-horizon.ensures c.watched-watch.ensures }

-- THE INSTRUCTION
pub execute-requires : goal.execute-requires
execute-requires c =
    let k = setting_of c.requires c.taken-first.ensures in
    let y = riding_of c.loop-o-2.invariant c.loop-o.invariant k in
    (ready k y, at_fits k y)

pub overflow_sub-late : goal.overflow_sub-late
overflow_sub-late c = omega (arith, (riding_of c.loop-o-2.invariant c.loop-o.invariant (setting_of c.requires c.taken-first.ensures)).set)

pub returns-in-Err : goal.returns-in-Err
returns-in-Err c =
    let k = setting_of c.requires c.taken-first.ensures in
    rw c.stretch_of.ensures (stops_here k (riding_of c.loop-o-2.invariant c.loop-o.invariant k) (answers c) refl (some_number c.in-Err.stop))

pub overflow_add-begun : goal.overflow_add-begun
overflow_add-begun c = omega (arith, counts (goal.at.overflow_add-begun c).In-Ok)

pub overflow_add-done : goal.overflow_add-done
overflow_add-done c = omega (arith, counts (goal.at.overflow_add-done c).In-Ok)

pub overflow_add-done-in-loop-o-2 : goal.overflow_add-done-in-loop-o-2
overflow_add-done-in-loop-o-2 c =
    let k = setting_of c.requires c.taken-first.ensures in
    let y = riding_of c.loop-o-2.invariant c.loop-o.invariant k in
    omega (arith, owed_small k y (answered c.in-Ok.o c.in-Ok.ensures) refl, counts (goal.at.overflow_add-done-in-loop-o-2 c).In-Ok)

-- EI AND STM
pub events_after-e-requires : goal.events_after-e-requires
events_after-e-requires c =
    let k = setting_of c.requires c.taken-first.ensures in
    let y = riding_of c.loop-o-2.invariant c.loop-o.invariant k in
    (k.turn.lent.position_table_is, register_small k y (answered c.in-Ok.o c.in-Ok.ensures) refl, y.in_limit, k.turn.in_limit)

pub ended-requires : goal.ended-requires
ended-requires c = let v = ends_at (goal.at.ended-requires c).Joined-core in (refl, v.0, v.1, v.2)

pub returns-then-rom-core : goal.returns-then-rom-core
returns-then-rom-core c = rw c.ended.ensures (burst_ends (goal.at.returns-then-rom-core c).Joined-core)

pub ended-requires-then-jcp_back : goal.ended-requires-then-jcp_back
ended-requires-then-jcp_back c = let v = ends_at (goal.at.ended-requires-then-jcp_back c).Joined-core in (refl, v.0, v.1, v.2)

pub returns-then-jcp_back : goal.returns-then-jcp_back
returns-then-jcp_back c = rw c.ended-then-jcp_back.ensures (burst_ends (goal.at.returns-then-jcp_back c).Joined-core)

pub loop-o-2-smaller-else-jcp_back : goal.loop-o-2-smaller-else-jcp_back
loop-o-2-smaller-else-jcp_back c = omega (arith, counts (goal.at.loop-o-2-smaller-else-jcp_back c).In-Ok)

pub loop-o-2-preserved-else-jcp_back : goal.loop-o-2-preserved-else-jcp_back
loop-o-2-preserved-else-jcp_back c =
    past_at (goal.at.loop-o-2-preserved-else-jcp_back c).Joined-core c.if-near-done.false (λ sheet same. sym (c.jcp_back.ensures sheet same) ∙ c.if-jcp_back.false)

pub loop-o-2-smaller : goal.loop-o-2-smaller
loop-o-2-smaller c = omega (arith, counts (goal.at.loop-o-2-smaller c).In-Ok)

pub loop-o-2-preserved : goal.loop-o-2-preserved
loop-o-2-preserved c =
    freely_at (goal.at.loop-o-2-preserved c).Joined-core c.if-near-done.false (λ z. c.if-byte_in-watch.false (c.byte_in.ensures ∙ z))

-- WHERE THE INSTRUCTIONS ARE LEFT
pub ended-requires-then-near-ne0 : goal.ended-requires-then-near-ne0
ended-requires-then-near-ne0 c = let v = ends_at (goal.at.ended-requires-then-near-ne0 c).Joined-core in (refl, v.0, v.1, v.2)

pub returns-then-near-ne0 : goal.returns-then-near-ne0
returns-then-near-ne0 c = rw c.ended-then-near-ne0.ensures (burst_ends (goal.at.returns-then-near-ne0 c).Joined-core)

pub ended-requires-then-blocks-horizon : goal.ended-requires-then-blocks-horizon
ended-requires-then-blocks-horizon c = let v = ends_at (goal.at.ended-requires-then-blocks-horizon c).Joined-core in (refl, v.0, v.1, v.2)

pub returns-then-blocks-horizon : goal.returns-then-blocks-horizon
returns-then-blocks-horizon c = rw c.ended-then-blocks-horizon.ensures (burst_ends (goal.at.returns-then-blocks-horizon c).Joined-core)

pub loop-o-preserved : goal.loop-o-preserved
loop-o-preserved c =
    let v = goes_on _ _ _ c.if-blocks-horizon.false in
    kept_at (goal.at.loop-o-preserved c).Joined-core c.if-near-ne0.false (sym c.blocks-in-loop-o.ensures ∙ v.0, v.1)
