-- Why an instruction can't be begun, case by case, and what is fetched. Assumes nothing.
use mathlib.Core.Path.{◌≡◌, ◌∙◌, refl, sym, ap}
use mathlib.Core.Bool.{true, false}
use mathlib.Core.List.{List}
use Prim.Native.Nat.{ℕ, ◌<◌, ◌≤◌}
use Rattle.std.specs.Prelude.{length, Ok, Err}
use Rattle.runs.specs.declared.Stop.TheVariants.{RomEnd, NoInstruction}
use borrow.Author.Tests.{lt-ltb, le-ltb}
use Rattle.runs.specs.Refusals.{first_of}
use Rattle.upd546.specs.declared.Sheet.{Sheet}
use Rattle.upd546.specs.TheMachine.{byte_at, follows, past}
use Rattle.upd546.specs.Instructions.{instruction}
use Rattle.upd546.specs.OneMachineCycle.{needs}
use Rattle.tables.specs.declared.Size.{Size}
use Rattle.tables.specs.Tables.{size_of}
use Rattle.laws.proofs.Instructions.{keeps}
use Rattle.fetch.specs.declared.Fetched.{Fetched}
use Rattle.fetch.specs.declared.Passed.{Passed}
use Rattle.fetch.specs.Fetching.{instruction_at, fetch_stop, FetchedAs, PassedAs}

-- a byte that is there, and one that isn't
module _ (sheet : Sheet) (rom : List ℕ) (same : sheet.rom ≡ length rom) (a : ℕ) where
  needs_none : a < length rom → needs sheet a ≡ 0
  needs_none h = rw (same, lt-ltb a (length rom) h)

  needs_22 : length rom ≤ a → needs sheet a ≡ 22
  needs_22 h = rw (same, le-ltb a (length rom) h)

-- what the table says of the code at an address
pub size_at : (rom : List ℕ) (pc : ℕ) {code : ℕ} {s : Size} → code ≡ byte_at rom pc → s ≡ size_of code
    → (s.bytes ≡ (instruction_at rom pc).bytes) × (s.cycles ≡ (instruction_at rom pc).cycles)
unfolding size_of
size_at rom pc e q = (ap (λ (x : Size). x.bytes) q ∙ ap (λ (k : ℕ). (instruction k).bytes) e, ap (λ (x : Size). x.cycles) q ∙ ap (λ (k : ℕ). (instruction k).cycles) e)

-- an instruction has one byte or two
pub bytes_at : (rom : List ℕ) (pc : ℕ) → (1 ≤ (instruction_at rom pc).bytes) × ((instruction_at rom pc).bytes ≤ 2)
bytes_at rom pc = ((keeps (byte_at rom pc)).one_byte, (keeps (byte_at rom pc)).two_bytes)

-- FETCHING

module _ (sheet : Sheet) (rom : List ℕ) (same : sheet.rom ≡ length rom) (pc : ℕ) where
  pub stops_past : length rom ≤ pc → FetchedAs sheet rom pc (Err RomEnd)
  unfolding fetch_stop first_of
  stops_past h = record { stop = sym (rw (needs_22 sheet rom same pc h)); begins = tt }

  module _ (h : pc < length rom) where
    pub stops_none : (instruction_at rom pc).cycles ≡ 0 → FetchedAs sheet rom pc (Err NoInstruction)
    unfolding fetch_stop first_of
    stops_none z = record { stop = sym (rw (needs_none sheet rom same pc h, z)); begins = tt }

    module _ (p : 0 < (instruction_at rom pc).cycles) where
      -- an instruction of one byte
      pub begins_one : {f : Fetched} → (instruction_at rom pc).bytes ≡ 1 → f.code ≡ byte_at rom pc → f.second ≡ 0 → f.after ≡ follows pc
          → f.cycles ≡ (instruction_at rom pc).cycles → FetchedAs sheet rom pc (Ok f)
      unfolding fetch_stop first_of past
      begins_one b c s a k =
          record {
            stop = sym (rw (needs_none sheet rom same pc h, lt-ltb 0 (instruction_at rom pc).cycles p, b));
            begins = record { code = c; second = rw b s; after = rw b a; cycles = k };
          }

      -- one whose second byte isn't there
      pub stops_second : (instruction_at rom pc).bytes ≡ 2 → length rom ≤ follows pc → FetchedAs sheet rom pc (Err RomEnd)
      unfolding fetch_stop first_of
      stops_second b g =
          record {
            stop = sym (rw (needs_none sheet rom same pc h, lt-ltb 0 (instruction_at rom pc).cycles p, b, needs_22 sheet rom same (follows pc) g));
            begins = tt;
          }

      -- an instruction of two bytes
      pub begins_two : {f : Fetched} → (instruction_at rom pc).bytes ≡ 2 → follows pc < length rom → f.code ≡ byte_at rom pc → f.second ≡ byte_at rom (follows pc)
          → f.after ≡ follows (follows pc) → f.cycles ≡ (instruction_at rom pc).cycles → FetchedAs sheet rom pc (Ok f)
      unfolding fetch_stop first_of past
      begins_two b g c s a k =
          record {
            stop = sym (rw (needs_none sheet rom same pc h, lt-ltb 0 (instruction_at rom pc).cycles p, b, needs_none sheet rom same (follows pc) g));
            begins = record { code = c; second = rw b s; after = rw b a; cycles = k };
          }

-- PASSING OVER

module _ (sheet : Sheet) (rom : List ℕ) (same : sheet.rom ≡ length rom) (to : ℕ) where
  pub passes_none : {p : Passed} → p.pc ≡ to → p.over ≡ 0 → PassedAs sheet rom false to (Ok p)
  unfolding past
  passes_none q o = record { stop = refl; over = o; pc = rw o q }

  pub passes_past : length rom ≤ to → PassedAs sheet rom true to (Err RomEnd)
  passes_past h = record { stop = sym (needs_22 sheet rom same to h); over = tt; pc = tt }

  pub passes_one : {p : Passed} → to < length rom → p.over ≡ (instruction_at rom to).bytes → p.pc ≡ past p.over to → PassedAs sheet rom true to (Ok p)
  passes_one h o q = record { stop = sym (needs_none sheet rom same to h); over = o; pc = q }
