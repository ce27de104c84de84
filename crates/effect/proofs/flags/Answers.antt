-- Held back by what it skips, or begun with the group's parts and its word stored. Assumes nothing.
use mathlib.Core.Path.{◌∙◌, refl, sym, ap}
use Prim.Native.Nat.{ℕ}
use native.Mathlib.Omega.{arith}
use Rattle.upd546.specs.declared.Core.{Core}
use Rattle.decode.specs.Named.{named_flag}
use Rattle.instructions.specs.Groups.{given_of, flag_effect}
use Rattle.effect.specs.Endings.{effect_of}
use Rattle.effect.proofs.Places.{flag_at_flags}
use Rattle.std.proofs.lemmas.Result.{err_from_is_err_and}
use Rattle.effect.proofs.Ends.{sized, over_small, held_on, begun_on}
use Rattle.effect.proofs.flags.Goals as goal

pub returns-in_err-p : goal.returns-in_err-p
returns-in_err-p c sheet same ports =
    let a = c.args in
    let p = err_from_is_err_and c.from_residual.result c.from_residual.ensures.1 in
    rw (p.1, p.2)
    (held_on sheet (named_flag a.op) a.g a.ram.now ports (flag_effect (given_of sheet a.g c.load.result ports) c.flag_group-r.result) (89)
    (sym (flag_at_flags sheet a.op a.g.core))
    (ap (λ (word : ℕ). effect_of sheet (named_flag a.op) a.g word ports) (sym c.load.ensures) ∙ c.flag_group-r.ensures sheet ports) refl
    (c.in_err-p.ensures sheet same) a.at)

pub overflow_add-cycles : goal.overflow_add-cycles
overflow_add-cycles c =
    omega (arith, c.requires.0.two_cycles, over_small (sized c.args.chip.rom.now) c.args.chip.rom.now _ _ _ (c.in_ok-p.ensures (sized c.args.chip.rom.now) refl))

pub returns : goal.returns
returns c sheet same ports =
    let a = c.args in
    let r = c.flag_group-r.result in
    begun_on sheet (named_flag a.op) a.g a.ram.now ports (flag_effect (given_of sheet a.g c.load.result ports) r) (89)
    (sym (flag_at_flags sheet a.op a.g.core))
    (ap (λ (word : ℕ). effect_of sheet (named_flag a.op) a.g word ports) (sym c.load.ensures) ∙ c.flag_group-r.ensures sheet ports) refl
    (c.in_ok-p.ensures sheet same) a.at a.cycles c.requires.0.cycles_are
    (ap (λ (x : Core). x) c.begun-c.ensures) c.store.ensures
