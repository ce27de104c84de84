-- How an instruction ends: held back by what it skips, or begun; and which answer that is. Assumes nothing.
use mathlib.Core.Path.{◌≡◌, ◌∙◌, refl, sym, ap}
use mathlib.Core.Bool.{Bool, true, false, cond}
use mathlib.Core.List.{List, []}
use Prim.Native.Nat.{ℕ, zero, suc, ◌+◌, ◌-◌, ◌*◌, ◌<◌, ◌≤◌}
use native.Mathlib.Nat.{add-zero}
use native.Mathlib.Omega.{arith}
use lib.ListN.{length, get_or, set}
use borrow.Rule.Slice.PartMut.{mid_of, put_mid}
use borrow.Author.Tests.{le-leb, lt-leb}
use Rattle.std.specs.Prelude.{Ok, Err}
use Rattle.runs.specs.declared.Stop.{Stop}
use Rattle.runs.specs.declared.Stop.TheVariants.{LogFull, RomEnd, NoInstruction}
use Rattle.runs.specs.Numbers.{stop_number}
use Rattle.runs.specs.Machine.{Out}
use Rattle.upd546.specs.declared.Core.{Core}
use Rattle.upd546.specs.declared.State.{State}
use Rattle.upd546.specs.declared.Sheet.{Sheet}
use Rattle.upd546.specs.TheMachine.{byte_at, past, place_in, with_word}
use Rattle.upd546.specs.Parts.{state_of, set_owed, set_pc}
use Rattle.upd546.specs.Ports.{log_bytes}
use Rattle.upd546.specs.Instructions.{Effect, Instruction, instruction}
use Rattle.upd546.specs.OneMachineCycle.{passed_over, leaving, on_stop}
use Rattle.laws.specs.Burst.{owing}
use Rattle.laws.proofs.Tails.{put_front}
use Rattle.laws.proofs.Cycle.{records-length}
use Rattle.laws.proofs.Instructions.{keeps}
use Rattle.portlog.specs.Appending.{Written}
use Rattle.fetch.specs.declared.Passed.{Passed}
use Rattle.fetch.specs.Fetching.{PassedAs}
use Rattle.effect.specs.Answer.{Answer, start_of, held_back, answer_on}
use Rattle.instructions.specs.declared.Inputs.{Inputs}
use Rattle.effect.specs.Endings.{skip_stop, on_skip, ended, kept_on, effect_of, effect_on, port_outcome, EndsAs, EndsOn, EndsWith}

-- a sheet of the ROM's length
abbrev pub sized : List ℕ → Sheet
sized rom = record { rom = length rom; rows = 0; levels = 1 }

-- no stop has the number 0
pub some_number : (s : Stop) → stop_number s ≡ 0 → ⊥
some_number LogFull e = absurd (omega (arith, e))
some_number RomEnd e = absurd (omega (arith, e))
some_number NoInstruction e = absurd (omega (arith, e))

pub over_small : (sheet : Sheet) (rom : List ℕ) (skip : Bool) (to : ℕ) (p : Passed) → PassedAs sheet rom skip to (Ok p) → p.over ≤ 2
over_small sheet rom skip to p q =
    let over : p.over ≡ cond skip (instruction (byte_at rom to)).bytes 0 = q.over in
    rw over (go skip)
  where
    go : (t : Bool) → cond t (instruction (byte_at rom to)).bytes 0 ≤ 2
    go true = (keeps (byte_at rom to)).two_bytes
    go false = omega arith

-- x is the instruction's effect, and e what its group says of it
module _ {sheet : Sheet} {rom : List ℕ} {x : Effect} (e : Effect) (is : x ≡ e) where
  module _ {s : Stop} (q : PassedAs sheet rom e.skip e.core.flow.pc (Err s)) where
    stop_is : stop_number s ≡ skip_stop sheet x
    stop_is = q.stop ∙ ap (skip_stop sheet) (sym is)

    pub stops_at : (i : Instruction) (c : Core) (at : ℕ) → held_back c at (stop_number s) ≡ ended sheet rom at i c x
    stops_at i c at = go (stop_number s) (some_number s) ∙ ap (λ (k : ℕ). on_skip k rom at i c x) stop_is
      where
        go : (k : ℕ) → (k ≡ 0 → ⊥) → held_back c at k ≡ on_skip k rom at i c x
        go zero n = absurd (n refl)
        go (suc k) n = refl

  module _ {p : Passed} (q : PassedAs sheet rom e.skip e.core.flow.pc (Ok p)) where
    pub skips_well : skip_stop sheet x ≡ 0
    skips_well = ap (skip_stop sheet) is ∙ sym q.stop

    over_is : p.over ≡ passed_over rom e
    unfolding passed_over
    over_is = q.over

    pc_is : p.pc ≡ past p.over e.core.flow.pc
    pc_is = q.pc

    pub begins_at : (i : Instruction) (c : Core) (at cycles : ℕ) → cycles ≡ i.cycles → {core : Core}
        → core ≡ set_owed (cycles - 1 + p.over) (set_pc p.pc e.core)
        → record { core = core; at = at; stop = 0 } ≡ ended sheet rom at i c x
    begins_at i c at cycles r {core} k =
        let m : core ≡ owing rom i x = k ∙ rw (pc_is, over_is, r, is) in
        ap (λ (y : Core). record { core = y; at = at; stop = 0 }) m ∙ ap (λ (n : ℕ). on_skip n rom at i c x) (sym skips_well)

-- A GROUP THAT TOUCHES NEITHER THE RAM NOR A PORT
module _ {sheet : Sheet} {rom : List ℕ} {i : Instruction} {g : Inputs} {word : ℕ} {ports : List ℕ} (e : Effect) (is : effect_of sheet i g word ports ≡ e) (w : e.word ≡ word) (n : e.writes ≡ [])
    (at : ℕ) where
  pub held_as : {s : Stop} → PassedAs sheet rom e.skip e.core.flow.pc (Err s) → EndsAs sheet rom at i g word ports (held_back g.core at (stop_number s))
  held_as q = record {
    is = stops_at e is q i g.core at;
    word_is = ap (λ (x : Effect). x.word) is ∙ w;
    no_writes = ap (λ (x : Effect). x.writes) is ∙ n;
  }

  pub begun_as : {p : Passed} → PassedAs sheet rom e.skip e.core.flow.pc (Ok p) → (cycles : ℕ) → cycles ≡ i.cycles → {core : Core} → core ≡ set_owed (cycles - 1 + p.over) (set_pc p.pc e.core)
      → EndsAs sheet rom at i g word ports (record { core = core; at = at; stop = 0 })
  begun_as q cycles r k = record {
    is = begins_at e is q i g.core at cycles r k;
    word_is = ap (λ (x : Effect). x.word) is ∙ w;
    no_writes = ap (λ (x : Effect). x.writes) is ∙ n;
  }

-- A GROUP THAT WORKS ON A RAM WORD, found at its place
module _ (sheet : Sheet) (i : Instruction) (g : Inputs) (ram ports : List ℕ) (e : Effect) (place : ℕ) (there : place ≡ place_in sheet (i.address g.core))
    (is : effect_of sheet i g (get_or ram place 0) ports ≡ e) (n : e.writes ≡ []) where
  on_word : effect_on sheet i g ram ports ≡ e
  on_word = ap (λ (k : ℕ). effect_of sheet i g (get_or ram k 0) ports) (sym there) ∙ is

  -- begun, whatever it skips
  kept_on_lem : skip_stop sheet (effect_on sheet i g ram ports) ≡ 0 → {ram' : List ℕ} → ram' ≡ set ram place e.word
      → ram' ≡ kept_on (skip_stop sheet (effect_on sheet i g ram ports)) sheet ram (i.address g.core) (effect_on sheet i g ram ports).word
  kept_on_lem z r =
      r ∙ ap (λ (k : ℕ). set ram k e.word) there
      ∙ ap (λ (x : Effect). with_word sheet ram (i.address g.core) x.word) (sym on_word)
      ∙ ap (λ (k : ℕ). kept_on k sheet ram (i.address g.core) (effect_on sheet i g ram ports).word) (sym z)

  module _ {rom : List ℕ} where
    pub held_on : {s : Stop} → PassedAs sheet rom e.skip e.core.flow.pc (Err s) → (at : ℕ) → EndsOn sheet rom at i g ram ports (held_back g.core at (stop_number s)) ram
    held_on {s} q at = record {
      is = stops_at e on_word q i g.core at;
      ram_is = go (stop_number s) (some_number s) ∙ ap (λ (k : ℕ). kept_on k sheet ram (i.address g.core) (effect_on sheet i g ram ports).word) (stop_is e on_word q);
      no_writes = ap (λ (x : Effect). x.writes) on_word ∙ n;
    }
      where
        go : (k : ℕ) → (k ≡ 0 → ⊥) → ram ≡ kept_on k sheet ram (i.address g.core) (effect_on sheet i g ram ports).word
        go zero z = absurd (z refl)
        go (suc k) z = refl

    pub begun_on : {p : Passed} → PassedAs sheet rom e.skip e.core.flow.pc (Ok p) → (at cycles : ℕ) → cycles ≡ i.cycles → {core : Core} → core ≡ set_owed (cycles - 1 + p.over) (set_pc p.pc e.core)
        → {ram' : List ℕ} → ram' ≡ set ram place e.word → EndsOn sheet rom at i g ram ports (record { core = core; at = at; stop = 0 }) ram'
    begun_on q at cycles r k v = record {
      is = begins_at e on_word q i g.core at cycles r k;
      ram_is = kept_on_lem (skips_well e on_word q) v;
      no_writes = ap (λ (x : Effect). x.writes) on_word ∙ n;
    }

  -- one that never skips
  pub begun_on_word : e.skip ≡ false → (rom : List ℕ) (at cycles : ℕ) → cycles ≡ i.cycles → {core : Core} → core ≡ set_owed (cycles - 1) e.core
      → {ram' : List ℕ} → ram' ≡ set ram place e.word → EndsOn sheet rom at i g ram ports (record { core = core; at = at; stop = 0 }) ram'
  unfolding passed_over past
  begun_on_word f rom at cycles r {core} k v =
      let x = effect_on sheet i g ram ports in
      let none : x.skip ≡ false = ap (λ (y : Effect). y.skip) on_word ∙ f in
      let stops : skip_stop sheet x ≡ 0 = rw none in
      let over : passed_over rom x ≡ 0 = rw none in
      let m : core ≡ owing rom i x = k ∙ owes_plainly over in
      record {
        is = ap (λ (y : Core). record { core = y; at = at; stop = 0 }) m ∙ ap (λ (j : ℕ). on_skip j rom at i g.core x) (sym stops);
        ram_is = kept_on_lem stops v;
        no_writes = ap (λ (y : Effect). y.writes) on_word ∙ n;
      }
    where
      owes_plainly : passed_over rom (effect_on sheet i g ram ports) ≡ 0 → set_owed (cycles - 1) e.core ≡ owing rom i (effect_on sheet i g ram ports)
      owes_plainly z = rw (z, on_word, r, add-zero (i.cycles - 1))

-- A GROUP THAT READS AND WRITES PORTS
module _ (sheet : Sheet) (rom : List ℕ) (i : Instruction) (g : Inputs) (word : ℕ) (ports : List ℕ) (e : Effect) (is : effect_of sheet i g word ports ≡ e) (w : e.word ≡ word)
    (at n : ℕ) (ram log : List ℕ) where
  abbrev here : State
  here = state_of g.core ram ports n

  abbrev answer : Answer
  answer = answer_on at (port_outcome sheet rom i (effect_of sheet i g word ports) here) here log

  abbrev goes : Out State
  goes = leaving e (owing rom i e) ram here

  answer_is : {k : ℕ} → k ≡ skip_stop sheet e → answer ≡ answer_on at (on_stop k goes) here log
  answer_is s = ap (λ (x : Effect). answer_on at (port_outcome sheet rom i x here) here log) is ∙ ap (λ (k : ℕ). answer_on at (on_stop k goes) here log) (sym s)

  pub held_with : {s : Stop} → PassedAs sheet rom e.skip e.core.flow.pc (Err s)
      → EndsWith sheet rom at i g word n ram ports log (held_back g.core at (stop_number s)) ports log
  unfolding answer_on
  held_with {s} q = record {
    is = go (stop_number s) (some_number s) ∙ sym (answer_is q.stop);
    word_is = ap (λ (x : Effect). x.word) is ∙ w;
  }
    where
      go : (k : ℕ) → (k ≡ 0 → ⊥) → start_of (held_back g.core at k) ram ports log ≡ answer_on at (on_stop k goes) here log
      go zero z = absurd (z refl)
      go (suc k) z = refl

  module _ {p : Passed} (q : PassedAs sheet rom e.skip e.core.flow.pc (Ok p)) where
    goes_is : answer ≡ answer_on at goes here log
    goes_is = answer_is q.stop

    pub full_with : length log - at < 8 * length e.writes → EndsWith sheet rom at i g word n ram ports log (held_back g.core at 3) ports log
    unfolding answer_on
    full_with r =
        let t = lt-leb (length (log_bytes n e.writes)) (length log - at) (rw (records-length n e.writes) r) in
        record {
          is = sym (goes_is ∙ rw t);
          word_is = ap (λ (x : Effect). x.word) is ∙ w;
        }

    pub begun_with : 8 * length e.writes ≤ length log - at → (cycles : ℕ) → cycles ≡ i.cycles → {core : Core} {bytes : ℕ} {ports' part : List ℕ}
        → core ≡ set_owed (cycles - 1 + p.over) (set_pc p.pc e.core) → Written (mid_of at (length log - at) log) ports n e.writes part ports' bytes
        → EndsWith sheet rom at i g word n ram ports log (record { core = core; at = at + bytes; stop = 0 }) ports' (put_mid at (length log - at) log part)
    unfolding answer_on
    begun_with r cycles v {core} k o =
        let t = le-leb (length (log_bytes n e.writes)) (length log - at) (rw (records-length n e.writes) r) in
        let m : core ≡ owing rom i e = k ∙ rw (pc_is e is q, over_is e is q, v) in
        let l = put_front at log (log_bytes n e.writes) o.appended in
        let b = ap (λ (j : ℕ). at + j) o.count in
        let y = o.latches in
        record {
          is = (λ j. record { stop = 0; core = m j; ram = ram; ports = y j; log = l j; at = b j }) ∙ sym (goes_is ∙ rw t);
          word_is = ap (λ (x : Effect). x.word) is ∙ w;
        }
