-- The instructions of a group, by what they leave. Assumes nothing: these are definitions.
use Rattle.std.specs.Prelude.{ℕ, ◌≡◌, Bool, true, false, List}
use Rattle.upd546.specs.declared.Sheet.{Sheet}
use Rattle.upd546.specs.TheMachine.{stack_depth, pushed, popped}
use Rattle.upd546.specs.Parts.{with_flow, with_timer, set_mark, set_acc, set_carry, set_saved, set_dph, set_dpl, set_int, set_inte}
use Rattle.upd546.specs.Instructions as chip
use Rattle.portlog.specs.Appending.{writes_of}
use Rattle.decode.specs.Named.{named_jump}
use Rattle.decode.specs.declared.Jump.{Jump}
use Rattle.decode.specs.declared.Jump.TheVariants as jumps
use Rattle.upd546.specs.Instructions.{Effect, leaves, skips, stores, writes, next}
use Rattle.instructions.specs.declared.Inputs.{Inputs}
use Rattle.instructions.specs.declared.Accumulated.{Accumulated}
use Rattle.instructions.specs.declared.Summed.{Summed}
use Rattle.instructions.specs.declared.Moved.{Moved}
use Rattle.instructions.specs.declared.Pointed.{Pointed}
use Rattle.instructions.specs.declared.Worked.{Worked}
use Rattle.instructions.specs.declared.Flagged.{Flagged}
use Rattle.instructions.specs.declared.Jumped.{Jumped}
use Rattle.instructions.specs.declared.Controlled.{Controlled}
use Rattle.instructions.specs.declared.Ported.{Ported}

-- what the instruction is given, with a RAM word and the latches, on the chip of a sheet
abbrev pub given_of : Sheet → Inputs → ℕ → List ℕ → chip.Given
given_of sheet g word ports = record {
  core = g.core;
  after = g.after;
  code = g.code;
  second = g.second;
  word = word;
  lines = g.lines;
  ports = ports;
  sheet = sheet;
}

-- what each group leaves of it
abbrev pub test_effect : chip.Given → Bool → Effect
test_effect g skip = skips skip (leaves g (next g))

abbrev pub acc_effect : chip.Given → Accumulated → Effect
acc_effect g r = skips r.skip (leaves g (set_carry r.carry (set_acc r.acc (next g))))

abbrev pub sum_effect : chip.Given → Summed → Effect
sum_effect g r = skips r.skip (stores r.word (leaves g (set_carry r.carry (set_acc r.acc (next g)))))

abbrev pub move_effect : chip.Given → Moved → Effect
move_effect g r = skips r.skip (leaves g (set_mark r.mark (set_dpl r.dpl (set_dph r.dph (set_acc r.acc (next g))))))

abbrev pub pointer_effect : chip.Given → Pointed → Effect
pointer_effect g r = skips r.skip (stores r.word (leaves g (set_dpl r.dpl (set_dph r.dph (set_acc r.acc (next g))))))

abbrev pub working_effect : chip.Given → Worked → Effect
working_effect g r = stores r.word (leaves g (set_dpl r.dpl (set_dph r.dph (set_acc r.acc (next g)))))

abbrev pub flag_effect : chip.Given → Flagged → Effect
flag_effect g r = skips r.skip (stores r.word (leaves g (next g)))

abbrev pub jump_effect : chip.Given → Jumped → Effect
jump_effect g r = skips r.skip (leaves g (with_flow (next g) r.flow))

-- JPA, JMP and JCP leave the stack alone
abbrev pub stays_of : Jump → Bool
stays_of jumps.Jpa = true
stays_of jumps.Rt = false
stays_of jumps.Rts = false
stays_of jumps.Jmp = true
stays_of jumps.Cal = false
stays_of jumps.Czp = false
stays_of jumps.Jcp = true

-- the others move it, on a chip with so many levels: RT and RTS pop, calls push the address after them
abbrev pub stack_after : Jump → (levels after : ℕ) → List ℕ → List ℕ
stack_after jumps.Jpa levels after stack = stack
stack_after jumps.Rt levels after stack = popped levels stack
stack_after jumps.Rts levels after stack = popped levels stack
stack_after jumps.Jmp levels after stack = stack
stack_after jumps.Cal levels after stack = pushed levels after stack
stack_after jumps.Czp levels after stack = pushed levels after stack
stack_after jumps.Jcp levels after stack = stack

abbrev pub with_stack : List ℕ → Jumped → Jumped
with_stack stack r = record { flow = record { pc = r.flow.pc; stack = stack }; skip = r.skip }

-- The group moves the stack as on three levels; on the chip of a sheet it is the sheet's levels that move.
pub record JumpsAs (op : Jump) (g : Inputs) (r : Jumped) : Type 0 where
  pub three_levels : r.flow.stack ≡ stack_after op stack_depth g.after g.core.flow.stack
  pub effect_is : (sheet : Sheet) (word : ℕ) (ports : List ℕ) → (named_jump op).effect (given_of sheet g word ports)
      ≡ jump_effect (given_of sheet g word ports) (with_stack (stack_after op sheet.levels g.after g.core.flow.stack) r)

abbrev pub control_effect : chip.Given → Controlled → Effect
control_effect g r =
    skips r.skip
    (leaves g (set_mark r.mark (with_timer (set_inte r.inte (set_int r.int (set_saved r.saved (set_carry r.carry (next g))))) r.timer)))

abbrev pub port_effect : chip.Given → Ported → Effect
port_effect g r = skips r.skip (writes (writes_of r.port r.value) (leaves g (set_acc r.acc (next g))))
