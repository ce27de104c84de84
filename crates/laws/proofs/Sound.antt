-- The test of 34 passes exactly at the valid states. Assumes nothing.
use mathlib.Core.Path.{◌≡◌, refl}
use mathlib.Core.Bool.{true, ◌&&◌, ◌||◌}
use mathlib.Core.List.{List}
use Prim.Native.Nat.{ℕ, zero, suc, ◌*◌, ◌<◌, ◌≤◌}
use native.Mathlib.Omega.{arith}
use lib.Dec.{ltb, eqb}
use borrow.Author.Tests.{lt-ltb, ltb-true, le-leb, leb-true, eq-eqb, eqb-true}
use Rattle.runs.proofs.Refusals.{passes}
use Rattle.upd546.specs.declared.Core.{Core}
use Rattle.upd546.specs.declared.State.{State}
use Rattle.upd546.specs.declared.Sheet.{Sheet}
use Rattle.upd546.specs.TheMachine.{addresses}
use Rattle.upd546.specs.Sequences.{all_of}
use Rattle.upd546.specs.StateImage.{registers_sound, flow_sound, interrupt_sound, timer_sound, core_sound, ports_sound, ram_sound, fields_sound, absent_zero, state_sound, state_number}
use Rattle.laws.specs.Valid.{Scalars, ValidStack, ValidPorts, ValidRam, Valid}
use Rattle.laws.proofs.Lists.{and_left, and_right, all_at, below_all, all_below_lem}

-- the rule of a stopped timer, both ways
rule_of : (r k : ℕ) → k < 64 → (ltb 0 r || eqb k 0) ≡ true → k ≤ 63 * r
rule_of zero k h e = let z : k ≡ 0 = eqb-true k 0 e in omega arith
rule_of (suc r) k h e = omega arith

of_rule : (r k : ℕ) → k ≤ 63 * r → (ltb 0 r || eqb k 0) ≡ true
of_rule zero k h = eq-eqb k 0 (omega arith)
of_rule (suc r) k h = rw (lt-ltb 0 (suc r) (omega arith))

-- each part of the test, taken apart
scalars_of : (c : Core) → core_sound c ≡ true → Scalars c
unfolding registers_sound flow_sound interrupt_sound timer_sound core_sound
scalars_of c e =
    let r = all_at _ (all_at _ e 0) in
    let f = all_at _ (all_at _ e 1) in
    let i = all_at _ (all_at _ e 2) in
    let t = all_at _ (all_at _ e 3) in
    let counter = ltb-true _ _ (t 2) in
    record {
      acc = ltb-true _ _ (r 0);
      carry = ltb-true _ _ (r 1);
      saved = ltb-true _ _ (r 2);
      dph = ltb-true _ _ (r 3);
      dpl = ltb-true _ _ (r 4);
      pc = ltb-true _ _ (f 0);
      int = ltb-true _ _ (i 0);
      inte = ltb-true _ _ (i 1);
      level = ltb-true _ _ (i 2);
      tm = ltb-true _ _ (t 0);
      register = ltb-true _ _ (t 1);
      counter = counter;
      stopped = rule_of _ _ counter (t 3);
      mark = leb-true _ _ (all_at _ e 4);
      owed = leb-true _ _ (all_at _ e 5);
    }

stack_of : (c : Core) → core_sound c ≡ true → ValidStack c.flow.stack
unfolding registers_sound flow_sound interrupt_sound timer_sound core_sound
stack_of c e =
    let f = all_at _ (all_at _ e 1) in
    record { depth = eqb-true _ _ (f 1); below = below_all addresses c.flow.stack (omega arith) (f 2) }

ports_of : (ports : List ℕ) → ports_sound ports ≡ true → ValidPorts ports
unfolding ports_sound
ports_of ports e =
    record { count = eqb-true _ _ (all_at _ e 0); below = below_all 16 ports (omega arith) (all_at _ e 1); last = ltb-true _ _ (all_at _ e 2) }

ram_of : (ram : List ℕ) → ram_sound ram ≡ true → ValidRam ram
unfolding ram_sound
ram_of ram e = record { count = eqb-true _ _ (all_at _ e 0); below = below_all 16 ram (omega arith) (all_at _ e 1) }

-- a state that passes the test is valid
pub sound_valid : (s : State) → fields_sound s ≡ true → Valid s
unfolding fields_sound
sound_valid s e =
    record {
      core = record { scalars = scalars_of s.core (all_at _ e 0); stack = stack_of s.core (all_at _ e 0) };
      ports = ports_of s.ports (all_at _ e 1);
      ram = ram_of s.ram (all_at _ e 2);
      count = leb-true _ _ (all_at _ e 3);
      cycle = leb-true _ _ (all_at _ e 4);
    }

-- a valid state passes the test
pub valid_sound : (s : State) → Valid s → fields_sound s ≡ true
unfolding all_of registers_sound flow_sound interrupt_sound timer_sound core_sound ports_sound ram_sound fields_sound
valid_sound s v =
    let c = v.core.scalars in
    rw (
      lt-ltb _ _ c.acc,
      lt-ltb _ _ c.carry,
      lt-ltb _ _ c.saved,
      lt-ltb _ _ c.dph,
      lt-ltb _ _ c.dpl,
      lt-ltb _ _ c.pc,
      eq-eqb _ _ v.core.stack.depth,
      all_below_lem addresses _ v.core.stack.below,
      lt-ltb _ _ c.int,
      lt-ltb _ _ c.inte,
      lt-ltb _ _ c.level,
      lt-ltb _ _ c.tm,
      lt-ltb _ _ c.register,
      lt-ltb _ _ c.counter,
      of_rule _ _ c.stopped,
      le-leb _ _ c.mark,
      le-leb _ _ c.owed,
      eq-eqb _ _ v.ports.count,
      all_below_lem 16 _ v.ports.below,
      lt-ltb _ _ v.ports.last,
      eq-eqb _ _ v.ram.count,
      all_below_lem 16 _ v.ram.below,
      le-leb _ _ v.count,
      le-leb _ _ v.cycle,
    )

-- what 34 doesn't refuse is valid, with zeros for what the sheet lacks, and the other way round
accepted-sound : (sheet : Sheet) (s : State) → state_number sheet s ≡ 0 → (fields_sound s && absent_zero sheet s) ≡ true
unfolding state_number state_sound
accepted-sound sheet s e = passes (fields_sound s && absent_zero sheet s) 34 refl e

pub accepted-valid : (sheet : Sheet) (s : State) → state_number sheet s ≡ 0 → Valid s
accepted-valid sheet s e = sound_valid s (and_left (fields_sound s) (absent_zero sheet s) (accepted-sound sheet s e))

pub accepted-absent : (sheet : Sheet) (s : State) → state_number sheet s ≡ 0 → absent_zero sheet s ≡ true
accepted-absent sheet s e = and_right (fields_sound s) (absent_zero sheet s) (accepted-sound sheet s e)

pub valid_accepted : (sheet : Sheet) (s : State) → Valid s → absent_zero sheet s ≡ true → state_number sheet s ≡ 0
unfolding state_number state_sound
valid_accepted sheet s v a = rw (valid_sound s v, a)
