-- Every schedule and every ROM of a seed is accepted, and a schedule begins every longer one. Assumes nothing.
use mathlib.Core.Path.{◌≡◌, ◌∙◌, refl, sym, ap}
use mathlib.Core.Bool.{Bool, true, false, ◌&&◌}
use mathlib.Core.List.{List, [], ◌∷◌, ◌++◌, append-nil, append_assoc}
use mathlib.Core.Logic.{⊎_elim}
use Prim.Native.Nat.{ℕ, zero, suc, ◌+◌, ◌*◌, ◌/◌, ◌%◌, ◌^◌, ◌<◌, ◌≤◌}
use native.Mathlib.Nat.{eq-or-lt_of_le, mod-lt}
use native.Mathlib.Numerals.{add-one}
use native.Mathlib.Omega.{arith}
use lib.Dec.{eqb, leb, ltb}
use lib.ListN.{length, get_or, take, drop}
use lib.Seq.{get_or-drop, drop_at, take_at, drop-append-le}
use borrow.Author.Tests.{lt-ltb, le-leb, eq-eqb}
use Rattle.runs.specs.Refusals.{first_of, unless, cycle_limit}
use Rattle.runs.specs.TwoRunners.{run_number}
use Rattle.runs.specs.Laws.{Bytes}
use Rattle.runs.specs.Lists.{Kind, run, refusal}
use Rattle.runs.proofs.Calls.{by_number}
use Rattle.runs.proofs.Refusals.{last_one}
use Rattle.upd546.specs.declared.State.{State}
use Rattle.upd546.specs.Bytes.{bit_at, number_of, bytes_of}
use Rattle.upd546.specs.TheMachine.{rom_length}
use Rattle.upd546.specs.TheSheet.{legal, sheet_number, upd546_sheet}
use Rattle.upd546.specs.Sequences.{all_of}
use Rattle.upd546.specs.TheLineSchedule.{record_length, max_records, record_count, record_byte, record_cycle, bytes_number, order_number, record_number, records_number, schedule_number}
use Rattle.upd546.specs.StateImage.{state_sound, state_number}
use Rattle.upd546.specs.TwoRunners.{panel_number, chip, upd546}
use Rattle.laws.proofs.Images.{cycle_back}
use Rattle.schedule.proofs.Records.{by_order, by_records, none_refused, one_more}
use Rattle.generator.specs.Loads.{drawn, drawn_bytes, rom_of, cycle_from, record_from, stands_at, last_drawn, record_of, schedule_of}
use Rattle.generator.specs.EveryLoad.{EverySchedule, EveryRom, EveryLoad, EveryBeginning}
use Rattle.generator.proofs.Loads.{length-drawn, length-schedule, drawn_byte, gap_within, cycle_most}

-- THE RECORDS OF A SCHEDULE

-- record i stands at its place, with something behind it
at_place : (seed m i : ℕ) → i < m → (rest : List ℕ) × (drop (record_length * i) (schedule_of seed m) ≡ record_of seed i ++ rest)
unfolding schedule_of
at_place seed zero i h = absurd (omega arith)
at_place seed (suc m) i h = ⊎_elim (λ e. last (omega arith)) (λ l. before (at_place seed m i (omega arith))) (eq-or-lt_of_le h)
  where
    last : i ≡ m → (rest : List ℕ) × (drop (record_length * i) (schedule_of seed m ++ record_of seed m) ≡ record_of seed i ++ rest)
    last e = ([], rw e (drop_at (schedule_of seed m) (record_of seed m) (record_length * m) (length-schedule seed m) ∙ sym (append-nil (record_of seed m))))

    before : (rest : List ℕ) × (drop (record_length * i) (schedule_of seed m) ≡ record_of seed i ++ rest)
        → (rest : List ℕ) × (drop (record_length * i) (schedule_of seed m ++ record_of seed m) ≡ record_of seed i ++ rest)
    before p =
        let within : record_length * i ≤ length (schedule_of seed m) = omega (arith, length-schedule seed m) in
        (p.0 ++ record_of seed m, drop-append-le (record_length * i) (schedule_of seed m) (record_of seed m) within ∙ ap (λ (l : List ℕ). l ++ record_of seed m) p.1 ∙ append_assoc (record_of seed i) p.0 (record_of seed m))

module _ (seed m i : ℕ) (h : i < m) (few : m ≤ max_records) where
  byte_at : (k : ℕ) → record_byte (schedule_of seed m) i k ≡ get_or (record_of seed i ++ (at_place seed m i h).0) k 0
  byte_at k = sym (get_or-drop (record_length * i) (schedule_of seed m) k 0) ∙ ap (λ (l : List ℕ). get_or l k 0) (at_place seed m i h).1

  level : record_byte (schedule_of seed m) i 8 ≤ 1
  unfolding record_from
  level = omega (arith, byte_at 8)

  reset_low : record_byte (schedule_of seed m) i 9 ≡ 0
  unfolding record_from
  reset_low = byte_at 9

  levels : (leb (record_byte (schedule_of seed m) i 8) 1 && leb (record_byte (schedule_of seed m) i 9) 1) ≡ true
  levels = rw (le-leb (record_byte (schedule_of seed m) i 8) 1 level, reset_low)

  cycle_at : record_cycle (schedule_of seed m) i ≡ last_drawn seed (suc i)
  unfolding record_cycle record_from last_drawn
  cycle_at =
      ap (λ (l : List ℕ). number_of (take 6 l)) (at_place seed m i h).1
      ∙ cycle_back _ (omega (arith, cycle_most seed i, (gap_within (last_drawn seed i) (stands_at seed i)).1))

rises : (seed i : ℕ) → last_drawn seed i < last_drawn seed (suc i)
unfolding last_drawn
rises seed i = (gap_within (last_drawn seed i) (stands_at seed i)).0

-- "by record 13 .., 14": neither
in_order : (seed m i : ℕ) → i < m → m ≤ max_records → order_number (schedule_of seed m) i ≡ 0
unfolding order_number
in_order seed m zero h few = refl
in_order seed m (suc i) h few =
    let sched = schedule_of seed m in
    let earlier : record_cycle sched i ≡ last_drawn seed (suc i) = cycle_at seed m i (omega arith) few in
    let later : record_cycle sched (suc i) ≡ last_drawn seed (suc (suc i)) = cycle_at seed m (suc i) h few in
    rw (lt-ltb (record_cycle sched i) (record_cycle sched (suc i)) (rw (earlier, later) (rises seed (suc i))))

none_refuses : (seed m k : ℕ) → k ≤ m → m ≤ max_records → records_number (schedule_of seed m) k ≡ 0
none_refuses seed m zero h few = none_refused (schedule_of seed m)
none_refuses seed m (suc k) h few =
    let sched = schedule_of seed m in
    let more : records_number sched (k + 1) ≡ record_number sched k = one_more sched k (none_refuses seed m k (omega arith) few) in
    rw add-one at more ∙ by_order sched k (levels seed m k h few) ∙ in_order seed m k h few

pub schedule_accepted : (seed m : ℕ) → m ≤ max_records → schedule_number (schedule_of seed m) ≡ 0
schedule_accepted seed m few =
    let sched = schedule_of seed m in
    let size = length-schedule seed m in
    let count : record_count sched ≡ m = omega (arith, size) in
    by_records sched (omega (arith, size)) (omega (arith, size)) ∙ ap (records_number sched) count ∙ none_refuses seed m m (omega arith) few

-- WHAT A RUN REFUSES

-- none of the numbers is k
abbrev Others : ℕ → List ℕ → Type 0
Others k [] = Unit {0}
Others k (x ∷ xs) = (x ≡ k → ⊥) × Others k xs

first_other : (k : ℕ) (xs : List ℕ) → 0 < k → Others k xs → first_of xs ≡ k → ⊥
unfolding first_of
first_other k [] p h e = omega arith
first_other k (zero ∷ xs) p h e = first_other k xs p h.1 e
first_other k (suc x ∷ xs) p h e = h.0 e

unless_other : (b : Bool) (j k : ℕ) → 0 < k → (j ≡ k → ⊥) → unless b j ≡ k → ⊥
unless_other true j k p h e = omega arith
unless_other false j k p h e = h e

-- the old figures are a legal sheet
accepted-sheet : sheet_number upd546_sheet ≡ 0
unfolding sheet_number legal all_of
accepted-sheet = refl

-- a run's number is that of ROM and schedule, 34 or 2
by_the_panel : (rom sched : List ℕ) (s : State) (n k : ℕ) → 0 < k → (34 ≡ k → ⊥) → (2 ≡ k → ⊥)
    → (panel_number upd546_sheet rom sched ≡ k → ⊥) → run_number upd546 rom sched s n ≡ k → ⊥
unfolding run_number state_number
by_the_panel rom sched s n k p a b h =
    let legal_one : sheet_number upd546_sheet ≡ k → ⊥ = λ e. omega (arith, accepted-sheet, e) in
    let sound : unless (state_sound upd546_sheet s) 34 ≡ k → ⊥ = unless_other (state_sound upd546_sheet s) 34 k p a in
    let within : unless (leb (s.cycle.0 + n) cycle_limit) 2 ≡ k → ⊥ = unless_other (leb (s.cycle.0 + n) cycle_limit) 2 k p b in
    first_other k _ p (legal_one, (h, (sound, (within, tt))))

never : (sched : List ℕ) → schedule_number sched ≡ 0 → (k : ℕ) → 11 ≤ k → k ≤ 14 → (rom : List ℕ) (s : State) (n : ℕ) → run_number upd546 rom sched s n ≡ k → ⊥
unfolding panel_number
never sched e k least most rom s n =
    by_the_panel rom sched s n k (omega arith) (λ q. omega arith) (λ q. omega arith)
    (first_other k _ (omega arith) (unless_other (eqb (length rom) rom_length) 21 k (omega arith) (λ q. omega arith), ((λ q. omega arith), tt)))

-- with a ROM, a state and a limit that don't refuse it
taken : (sched : List ℕ) → schedule_number sched ≡ 0 → (kind : Kind) (rom : List ℕ) (s : State) (log : List ℕ) (n : ℕ)
    → length rom ≡ rom_length → state_number upd546_sheet s ≡ 0 → s.cycle.0 + n ≤ cycle_limit
    → refusal chip (run kind rom sched s log n upd546_sheet) ≡ 0
unfolding run_number panel_number first_of
taken sched e kind rom s log n size v limit =
    by_number chip (run kind rom sched s log n upd546_sheet)
    ∙ rw (accepted-sheet, eq-eqb (length rom) rom_length size, e, v, le-leb (s.cycle.0 + n) cycle_limit limit)

pub every_schedule : EverySchedule
every_schedule seed m few =
    let sched = schedule_of seed m in
    let e = schedule_accepted seed m few in
    record {
      by_the_check = e;
      never_12 = never sched e 12 (omega arith) (omega arith);
      never_11 = never sched e 11 (omega arith) (omega arith);
      never_13 = never sched e 13 (omega arith) (omega arith);
      never_14 = never sched e 14 (omega arith) (omega arith);
      accepted = taken sched e;
    }

-- no number of a schedule is 21
bytes_other : (sched : List ℕ) (i : ℕ) → bytes_number sched i ≡ 21 → ⊥
unfolding bytes_number
bytes_other sched i = unless_other (leb (record_byte sched i 8) 1 && leb (record_byte sched i 9) 1) 13 21 (omega arith) (λ q. omega arith)

order_other : (sched : List ℕ) (i : ℕ) → order_number sched i ≡ 21 → ⊥
unfolding order_number
order_other sched zero e = omega arith
order_other sched (suc i) e = unless_other (ltb (record_cycle sched i) (record_cycle sched (suc i))) 14 21 (omega arith) (λ q. omega arith) e

records-other : (sched : List ℕ) (k : ℕ) → records_number sched k ≡ 21 → ⊥
unfolding records_number
records-other sched zero e = omega arith
records-other sched (suc k) e =
    first_other 21 _ (omega arith) (records-other sched k, (first_other 21 _ (omega arith) (bytes_other sched k, (order_other sched k, tt)), tt)) e

schedule_other : (sched : List ℕ) → schedule_number sched ≡ 21 → ⊥
unfolding schedule_number
schedule_other sched =
    first_other 21 _ (omega arith) (
      unless_other (leb (length sched) (record_length * max_records)) 12 21 (omega arith) (λ q. omega arith),
      (unless_other (eqb (length sched % record_length) 0) 11 21 (omega arith) (λ q. omega arith), (records-other sched (record_count sched), tt)),
    )

-- a ROM has its length
whole : (seed : ℕ) (sched : List ℕ) → panel_number upd546_sheet (rom_of seed) sched ≡ schedule_number sched
unfolding panel_number first_of
whole seed sched = rw (eq-eqb (length (rom_of seed)) rom_length (length-drawn seed rom_length)) (last_one (schedule_number sched))

pub every_rom : EveryRom
every_rom seed sched s n =
    by_the_panel (rom_of seed) sched s n 21 (omega arith) (λ q. omega arith) (λ q. omega arith) (λ q. schedule_other sched (sym (whole seed sched) ∙ q))

-- BYTES

one_byte : (x : ℕ) (l : List ℕ) → x < 256 → Bytes l → Bytes (x ∷ l)
one_byte x l p h zero = p
one_byte x l p h (suc i) = h i

no_byte : Bytes []
no_byte i = omega arith

bytes_append : (a b : List ℕ) → Bytes a → Bytes b → Bytes (a ++ b)
bytes_append [] b p q = q
bytes_append (x ∷ a) b p q = one_byte x (a ++ b) (p 0) (bytes_append a b (λ k. p (suc k)) q)

number_bytes : (k v : ℕ) → Bytes (bytes_of k v)
number_bytes zero v = no_byte
number_bytes (suc k) v = one_byte _ (bytes_of k v) (mod-lt (v / 256 ^ k) (omega arith)) (number_bytes k v)

rom_bytes : (seed n : ℕ) → Bytes (drawn_bytes seed n)
unfolding drawn_bytes
rom_bytes seed zero = no_byte
rom_bytes seed (suc n) = bytes_append (drawn_bytes seed n) (drawn seed n ∷ []) (rom_bytes seed n) (one_byte (drawn seed n) [] (drawn_byte seed n) no_byte)

record_bytes : (last s : ℕ) → Bytes (record_from last s)
unfolding record_from
record_bytes last s =
    let int = bit_at (drawn s 3) 0 in
    let last_two = one_byte int (0 ∷ []) (omega arith) (one_byte 0 [] (omega arith) no_byte) in
    let behind = one_byte (drawn s 1) (drawn s 2 ∷ int ∷ 0 ∷ []) (drawn_byte s 1) (one_byte (drawn s 2) (int ∷ 0 ∷ []) (drawn_byte s 2) last_two) in
    bytes_append (bytes_of 6 (cycle_from last s)) (drawn s 1 ∷ drawn s 2 ∷ int ∷ 0 ∷ []) (number_bytes 6 (cycle_from last s)) behind

schedule_bytes : (seed m : ℕ) → Bytes (schedule_of seed m)
unfolding schedule_of
schedule_bytes seed zero = no_byte
schedule_bytes seed (suc m) = bytes_append (schedule_of seed m) (record_of seed m) (schedule_bytes seed m) (record_bytes (last_drawn seed m) (stands_at seed m))

pub every_load : EveryLoad
every_load seed seed' m few =
    record {
      legal = accepted-sheet;
      rom_bytes = rom_bytes seed rom_length;
      sched_bytes = schedule_bytes seed' m;
      not_refused_is = whole seed (schedule_of seed' m) ∙ schedule_accepted seed' m few;
    }

pub every_beginning : EveryBeginning
unfolding schedule_of
every_beginning seed m = take_at (schedule_of seed m) (record_of seed m) (record_length * m) (length-schedule seed m)
