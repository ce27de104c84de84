-- What is fetched and passed over, in the terms of the machine cycle's definitions. Assumes nothing: these are definitions.
use Rattle.std.specs.Prelude.{ℕ, ◌≡◌, Bool, cond, List, [], ◌∷◌, Result, Ok, Err, IfOk, eqb, ltb}
use Rattle.runs.specs.declared.Stop.{Stop}
use Rattle.runs.specs.Numbers.{stop_number}
use Rattle.runs.specs.Refusals.{first_of, unless}
use Rattle.upd546.specs.declared.Sheet.{Sheet}
use Rattle.upd546.specs.TheMachine.{byte_at, follows, past}
use Rattle.upd546.specs.Instructions.{Instruction, instruction}
use Rattle.upd546.specs.OneMachineCycle.{needs}
use Rattle.fetch.specs.declared.Fetched.{Fetched}
use Rattle.fetch.specs.declared.Passed.{Passed}

abbrev pub instruction_at : List ℕ → ℕ → Instruction
instruction_at rom pc = instruction (byte_at rom pc)

-- why the instruction at PC can't be begun, as far as its own bytes tell
unfoldable pub fetch_stop : Sheet → List ℕ → ℕ → ℕ
fetch_stop sheet rom pc =
    first_of
    (needs sheet pc
    ∷ unless (ltb 0 (instruction_at rom pc).cycles) 23
    ∷ cond (eqb (instruction_at rom pc).bytes 2) (needs sheet (follows pc)) 0
    ∷ [])

-- what is known of an instruction that can be begun
pub record Begins (rom : List ℕ) (pc : ℕ) (f : Fetched) : Type 0 where
  pub code : f.code ≡ byte_at rom pc
  pub second : f.second ≡ cond (eqb (instruction_at rom pc).bytes 2) (byte_at rom (follows pc)) 0
  pub after : f.after ≡ past (instruction_at rom pc).bytes pc
  pub cycles : f.cycles ≡ (instruction_at rom pc).cycles

-- the number of the stop that is answered; 0 where none is
abbrev pub stop_in : {A : Type 0} → Result A Stop → ℕ
stop_in (Ok a) = 0
stop_in (Err s) = stop_number s

pub record FetchedAs (sheet : Sheet) (rom : List ℕ) (pc : ℕ) (r : Result Fetched Stop) : Type 0 where
  pub stop : stop_in r ≡ fetch_stop sheet rom pc
  pub begins : IfOk r (Begins rom pc)

-- likewise of a skip
pub record PassedAs (sheet : Sheet) (rom : List ℕ) (skip : Bool) (to : ℕ) (r : Result Passed Stop) : Type 0 where
  pub stop : stop_in r ≡ cond skip (needs sheet to) 0
  pub over : IfOk r (λ (p : Passed). p.over ≡ cond skip (instruction_at rom to).bytes 0)
  pub pc : IfOk r (λ (p : Passed). p.pc ≡ past p.over to)
