-- How an instruction ends, up to the step of the timer, by what its group touches. Assumes nothing: these are definitions.
use Rattle.std.specs.Prelude.{ℕ, zero, suc, ◌<◌, ◌≤◌, ◌≡◌, cond, List, [], length}
use Rattle.runs.specs.Machine.{Out}
use Rattle.runs.specs.Refusals.{cycle_limit}
use Rattle.upd546.specs.declared.Core.{Core}
use Rattle.upd546.specs.declared.State.{State}
use Rattle.upd546.specs.declared.Sheet.{Sheet}
use Rattle.upd546.specs.TheMachine.{stack_depth, word_at, with_word}
use Rattle.upd546.specs.Parts.{state_of}
use Rattle.upd546.specs.Instructions.{Effect, Instruction, instruction}
use Rattle.upd546.specs.OneMachineCycle.{needs, leaving, on_stop}
use Rattle.tables.specs.Tables.{instruction_table, row_table, Rows}
use Rattle.laws.specs.Burst.{owing, started}
use Rattle.laws.specs.Valid.{Scalars, ValidPorts, ValidRam}
use Rattle.laws.specs.Writes.{All, ValidWrite}
use Rattle.instructions.specs.declared.Inputs.{Inputs}
use Rattle.instructions.specs.Groups.{given_of}
use Rattle.effect.specs.Answer.{Told, start_of, held_back, answer_on}

-- what a group asks of the instruction i that is begun at the core c
pub record Begins (table : List ℕ) (cycles : ℕ) (i : Instruction) (c : Core) : Type 0 where
  pub sizes : table ≡ instruction_table
  pub cycles_are : cycles ≡ i.cycles
  pub some_cycles : 1 ≤ cycles
  pub two_cycles : cycles ≤ 2
  pub core : Scalars c

-- what the instruction leaves, with a RAM word and the latches
abbrev pub effect_of : Sheet → Instruction → Inputs → ℕ → List ℕ → Effect
effect_of sheet i g word ports = i.effect (given_of sheet g word ports)

-- with the RAM word that it works on
abbrev pub effect_on : Sheet → Instruction → Inputs → List ℕ → List ℕ → Effect
effect_on sheet i g ram ports = effect_of sheet i g (word_at sheet ram (i.address g.core)) ports

-- its writes are valid, with some RAM word on the chip of some sheet
pub record Outputs (i : Instruction) (g : Inputs) (ports : List ℕ) : Type 0 where
  pub sheet : Sheet
  pub word : ℕ
  pub valid : All ValidWrite (effect_of sheet i g word ports).writes

-- why what it skips can't be passed over, or 0
abbrev pub skip_stop : Sheet → Effect → ℕ
skip_stop sheet e = cond e.skip (needs sheet e.core.flow.pc) 0

-- an instruction that writes no port: held back by what it skips, or begun
abbrev pub on_skip : ℕ → List ℕ → (at : ℕ) → Instruction → Core → Effect → Told
on_skip zero rom at i c e = record { core = owing rom i e; at = at; stop = 0 }
on_skip (suc k) rom at i c e = held_back c at (suc k)

abbrev pub ended : Sheet → List ℕ → (at : ℕ) → Instruction → Core → Effect → Told
ended sheet rom at i c e = on_skip (skip_stop sheet e) rom at i c e

-- and its RAM, if it works on a word of it
abbrev pub kept_on : ℕ → Sheet → List ℕ → (address word : ℕ) → List ℕ
kept_on zero sheet ram address word = with_word sheet ram address word
kept_on (suc k) sheet ram address word = ram

-- a group that touches neither the RAM nor a port
pub record EndsAs (sheet : Sheet) (rom : List ℕ) (at : ℕ) (i : Instruction) (g : Inputs) (word : ℕ) (ports : List ℕ) (d : Told) : Type 0 where
  pub is : d ≡ ended sheet rom at i g.core (effect_of sheet i g word ports)
  pub word_is : (effect_of sheet i g word ports).word ≡ word
  pub no_writes : (effect_of sheet i g word ports).writes ≡ []

-- a group that works on a RAM word
pub record EndsOn (sheet : Sheet) (rom : List ℕ) (at : ℕ) (i : Instruction) (g : Inputs) (ram ports : List ℕ) (d : Told) (ram' : List ℕ) : Type 0 where
  pub is : d ≡ ended sheet rom at i g.core (effect_on sheet i g ram ports)
  pub ram_is : ram' ≡ kept_on (skip_stop sheet (effect_on sheet i g ram ports)) sheet ram (i.address g.core) (effect_on sheet i g ram ports).word
  pub no_writes : (effect_on sheet i g ram ports).writes ≡ []

-- the outcome of an instruction that can be fetched
abbrev pub outcome_of : Sheet → List ℕ → Instruction → Inputs → State → Out State
outcome_of sheet rom i g s =
    let e = effect_on sheet i g s.ram s.ports in
    on_stop (skip_stop sheet e) (started rom i (given_of sheet g (word_at sheet s.ram (i.address g.core)) s.ports) e s)

-- the same of one that leaves the RAM alone, with its effect
abbrev pub port_outcome : Sheet → List ℕ → Instruction → Effect → State → Out State
port_outcome sheet rom i e s = on_stop (skip_stop sheet e) (leaving e (owing rom i e) s.ram s)

-- a group that reads and writes ports in cycle n
pub record EndsWith (sheet : Sheet) (rom : List ℕ) (at : ℕ) (i : Instruction) (g : Inputs) (word n : ℕ) (ram ports log : List ℕ) (d : Told) (ports' log' : List ℕ) : Type 0 where
  pub is : start_of d ram ports' log' ≡ answer_on at (port_outcome sheet rom i (effect_of sheet i g word ports) (state_of g.core ram ports n)) (state_of g.core ram ports n) log
  pub word_is : (effect_of sheet i g word ports).word ≡ word

-- what a group asks that writes ports in cycle n, with the log empty from `at` on
pub record Writes (table : List ℕ) (cycles : ℕ) (i : Instruction) (g : Inputs) (ports log : List ℕ) (at n : ℕ) : Type 0 where
  pub begins : Begins table cycles i g.core
  pub outputs : Outputs i g ports
  pub latches : ValidPorts ports
  pub place : at ≤ length log
  pub below : n < cycle_limit

-- what is asked of the instruction of g's code, and what it comes to
pub record Carries (table rows : List ℕ) (levels cycles : ℕ) (g : Inputs) (ram ports log : List ℕ) (at n : ℕ) : Type 0 where
  pub rows_are : Rows rows
  pub some_level : 1 ≤ levels
  pub three_levels : levels ≤ stack_depth
  pub writes : Writes table cycles (instruction g.code) g ports log at n
  pub words : ValidRam ram

-- ROM, rows and levels are those of the sheet
pub record Fits (sheet : Sheet) (rom rows : List ℕ) (levels : ℕ) : Type 0 where
  pub rom_is : sheet.rom ≡ length rom
  pub rows_is : rows ≡ row_table sheet
  pub levels_is : sheet.levels ≡ levels

abbrev pub ComesTo : Sheet → (rom : List ℕ) (g : Inputs) (ram ports log : List ℕ) (at n : ℕ) → Told → (ram' ports' log' : List ℕ) → Type 0
ComesTo sheet rom g ram ports log at n r ram' ports' log' =
    let s = state_of g.core ram ports n in
    start_of r ram' ports' log' ≡ answer_on at (outcome_of sheet rom (instruction g.code) g s) s log
