-- A jump that leaves the stack alone; held back by what it skips, or begun with the group's parts. Assumes nothing.
use mathlib.Core.Path.{◌≡◌, ◌∙◌, refl, sym, ap}
use mathlib.Core.Bool.{true, false}
use mathlib.Core.List.{List}
use Prim.Native.Nat.{ℕ, ◌+◌, ◌-◌}
use native.Mathlib.Nat.{add-zero}
use native.Mathlib.Omega.{arith}
use Rattle.std.specs.Prelude.{Ok}
use Rattle.upd546.specs.declared.Core.{Core}
use Rattle.upd546.specs.declared.Sheet.{Sheet}
use Rattle.upd546.specs.TheMachine.{past, mark_other}
use Rattle.upd546.specs.Parts.{with_flow, set_owed, set_mark, set_pc}
use Rattle.upd546.specs.Instructions.{Given, Effect}
use Rattle.decode.specs.declared.Jump.{Jump}
use Rattle.decode.specs.declared.Jump.TheVariants as jumps
use Rattle.decode.specs.Named.{named_jump}
use Rattle.fetch.specs.Fetching.{PassedAs}
use Rattle.instructions.specs.declared.Inputs.{Inputs}
use Rattle.instructions.specs.declared.Jumped.{Jumped}
use Rattle.instructions.specs.Groups.{given_of, jump_effect, stays_of, stack_after, with_stack}
use Rattle.effect.specs.Endings.{EndsAs}
use Rattle.effect.proofs.Ends.{sized, over_small, begun_as}
use Rattle.effect.proofs.jumps.Goals as goal

-- AN INSTRUCTION THAT LEAVES THE STACK ALONE skips nothing
stays_skip : (op : Jump) (g : Given) → stays_of op ≡ true → ((named_jump op).effect g).skip ≡ false
stays_skip jumps.Jpa g e = refl
stays_skip jumps.Rt g e = refl
stays_skip jumps.Rts g e = cc
stays_skip jumps.Jmp g e = refl
stays_skip jumps.Cal g e = refl
stays_skip jumps.Czp g e = refl
stays_skip jumps.Jcp g e = refl

stays_stack : (op : Jump) (g : Given) → stays_of op ≡ true → ((named_jump op).effect g).core.flow.stack ≡ g.core.flow.stack
stays_stack jumps.Jpa g e = refl
stays_stack jumps.Rt g e = cc
stays_stack jumps.Rts g e = cc
stays_stack jumps.Jmp g e = refl
stays_stack jumps.Cal g e = cc
stays_stack jumps.Czp g e = cc
stays_stack jumps.Jcp g e = refl

plain_pass : (sheet : Sheet) (rom : List ℕ) (to : ℕ) → PassedAs sheet rom false to (Ok (record { pc = to; over = 0 }))
unfolding past
plain_pass sheet rom to = record { stop = refl; over = refl; pc = refl }

ends_plainly : {rom : List ℕ} (sheet : Sheet) (op : Jump) {g : Inputs} {r : Jumped} (word : ℕ) (ports : List ℕ) (at cycles : ℕ) → stays_of op ≡ true
    → (named_jump op).effect (given_of sheet g word ports) ≡ jump_effect (given_of sheet g word ports) r → cycles ≡ (named_jump op).cycles
    → {core : Core} → core ≡ set_owed (cycles - 1) (set_mark mark_other (set_pc r.flow.pc g.core))
    → EndsAs sheet rom at (named_jump op) g word ports (record { core = core; at = at; stop = 0 })
ends_plainly {rom} sheet op {g} {r} word ports at cycles s e n d =
    let x = given_of sheet g word ports in
    let none : r.skip ≡ false = sym (ap (λ (y : Effect). y.skip) e) ∙ stays_skip op x s in
    let stack : g.core.flow.stack ≡ r.flow.stack = sym (stays_stack op x s) ∙ ap (λ (y : Effect). y.core.flow.stack) e in
    let q : PassedAs sheet rom r.skip r.flow.pc (Ok (record { pc = r.flow.pc; over = 0 })) = rw none (plain_pass sheet rom r.flow.pc) in
    let owed : cycles - 1 ≡ cycles - 1 + 0 = sym (add-zero (cycles - 1)) in
    begun_as (jump_effect x r) e refl refl at q cycles n
    (d ∙ λ i. set_owed (owed i) (set_mark mark_other (with_flow g.core (record { pc = r.flow.pc; stack = stack i }))))

pub returns-then-stays : goal.returns-then-stays
returns-then-stays c sheet same levels word ports =
    ends_plainly sheet c.args.op word ports c.args.at c.args.cycles (sym c.stays.ensures ∙ c.if-stays.true) (c.jump_group-r.ensures.effect_is sheet word ports)
    c.requires.0.cycles_are c.begun-d.ensures

pub overflow_add-cycles : goal.overflow_add-cycles
overflow_add-cycles c =
    omega (arith, c.requires.0.two_cycles, over_small (sized c.args.chip.rom.now) c.args.chip.rom.now _ _ _ (c.in_ok-p.ensures (sized c.args.chip.rom.now) refl))

pub returns : goal.returns
returns c sheet same levels word ports =
    let a = c.args in
    let r = c.jump_group-r.result in
    let after : ℕ → List ℕ = λ k. stack_after a.op k a.g.after a.g.core.flow.stack in
    let stack : c.settled-stack.result ≡ after sheet.levels = c.settled-stack.ensures ∙ ap after (sym levels) in
    let b = c.begun-c.ensures in
    begun_as (jump_effect (given_of sheet a.g word ports) (with_stack (after sheet.levels) r)) (c.jump_group-r.ensures.effect_is sheet word ports) refl refl
    a.at (c.in_ok-p.ensures sheet same) a.cycles c.requires.0.cycles_are
    (λ i. with_flow (b i) (record { pc = c.in_ok-p.p.pc; stack = stack i }))
