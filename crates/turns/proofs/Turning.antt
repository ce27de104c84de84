-- Where the loop of a run stands, and where a jump and a turn take it. Assumes nothing.
use mathlib.Core.Path.{◌≡◌, ◌∙◌, refl, sym, ap, ap₂, subst}
use mathlib.Core.Bool.{Bool, true, false, cond, not, ◌||◌}
use mathlib.Core.List.{List, [], ◌++◌, append-nil}
use mathlib.Core.Option.{Option, none, some}
use Prim.Native.Nat.{ℕ, zero, suc, ◌+◌, ◌-◌, ◌*◌, ◌<◌, ◌≤◌, min}
use native.Mathlib.Omega.{arith}
use lib.Dec.{eqb, leb, ltb}
use lib.ListN.{length, take, drop, replicate, length-append, length-drop}
use borrow.Author.Tests.{eqb-true, eqb-false, leb-true, leb-false, ltb-true, lt-ltb, le-ltb}
use Rattle.runs.specs.TwoRunners.{still, end_with, stride_of, run_number, within, told, plain, skipping}
use Rattle.runs.specs.Refusals.{cycle_limit}
use Rattle.runs.specs.TwoRunners.{Stepped}
use Rattle.runs.specs.Laws.{Bytes, Panel}
use Rattle.runs.specs.OneByOne.{OneByOne, none as no_cycle, also}
use Rattle.runs.proofs.Loop.{sofar, onwards, span_of, Halfway, loop_starts, loop_ends, loop_stops, loop_goes, loop_goes_singly}
use Rattle.upd546.specs.declared.Core.{Core}
use Rattle.upd546.specs.declared.Lines.{Lines}
use Rattle.upd546.specs.declared.State.{State}
use Rattle.upd546.specs.declared.Sheet.{Sheet}
use Rattle.upd546.specs.TheLineSchedule.{lines_at, schedule_number, no_record}
use Rattle.upd546.specs.TheMachine.{latches, reset_count}
use Rattle.upd546.specs.Ports.{log_record_length}
use Rattle.upd546.specs.OneMachineCycle.{taken as taken_of, counted, cleared}
use Rattle.upd546.specs.TwoRunners.{may_jump, on_jump, jump_length, wait_length, chip}
use Rattle.laws.specs.Ordinary.{ordinary}
use Rattle.laws.specs.Jump.{core_after_jump, state_after_jump}
use Rattle.laws.specs.Valid.{Valid}
use Rattle.laws.proofs.Sound.{accepted-valid}
use Rattle.laws.proofs.Sheets.{legal_sheet}
use Rattle.laws.proofs.Lines.{panel_schedule}
use Rattle.laws.proofs.Cycle.{cycle_keeps}
use Rattle.laws.proofs.Stops.{begins_one}
use Rattle.laws.proofs.Tails.{put_next}
use Rattle.laws.specs.Reset.{ResetDue, Unreset}
use Rattle.laws.proofs.Jump.{wait_within, wait_of_one, jump_length-cut, jump_is_wait, jump_runs, jump_ticks, jump_in_room, jump_keeps}
use Rattle.laws.proofs.Counted.{low_one_by_one, counted_no_jump, counted-one, counted-stops, reset_bytes, reset_stops, held_resets}
use Rattle.tables.specs.Tables.{instruction_table, row_table, position_table, register_table}
use Rattle.schedule.specs.declared.Cursor.{Cursor}
use Rattle.schedule.specs.Cursor.{Stands}
use Rattle.schedule.proofs.Standing.{next_record, next_some, stays, no_record_is, some_record}
use Rattle.jump.specs.Boundary.{Boundary, JumpsBy, Jumpable, jump_by}
use Rattle.upd546.specs.Parts.{with_count, state_of}
use Rattle.reset.specs.Line.{records, appended, Seen, reset_to, reset_full, ordinary_next, looked_at}
use Rattle.reset.proofs.Seeing.{records-none, records-one}
use Rattle.burst.specs.declared.Stretch.{Stretch}
use Rattle.burst.specs.Turn.{Turn, Turned, number_of}
use Rattle.turns.specs.Either.{run_by}
use Rattle.turns.proofs.Taken.{Taken, run_taken}

-- the whole run, of the runner that `skips` chooses
abbrev whole : Sheet → Bool → List ℕ → List ℕ → List ℕ → ℕ → State → Stepped State
whole sheet skips rom sched log₀ n s = onwards (chip sheet) rom sched skips n (length log₀) n s

-- what the code has, between two turns
pub record Place : Type 0 where
  pub core : Core
  pub ram : List ℕ
  pub ports : List ℕ
  pub log : List ℕ
  pub at : ℕ
  pub number : ℕ
  pub begun : ℕ
  pub spared : ℕ

-- the state that a turn and a jump see, with a count of 0, and the machine's
abbrev pub bare : Place → State
bare p = state_of p.core p.ram p.ports p.number

abbrev pub state_at : Place → (count : ℕ) → State
state_at p c = with_count c (bare p)

-- Where the loop stands with this count, in a run of n cycles from s on. `w` is what has been written.
pub record At (sheet : Sheet) (skips : Bool) (rom sched log₀ : List ℕ) (n : ℕ) (s : State) (p : Place) (c : ℕ) : Type 0 where
  pub w : List ℕ
  pub not_refused_is : run_number (chip sheet) rom sched s n ≡ 0
  pub rom_bytes : Bytes rom
  pub sched_bytes : Bytes sched
  pub valid : Valid (state_at p c)
  pub from : s.cycle.0 ≤ p.number
  pub not_past : p.number ≤ s.cycle.0 + n
  pub few : p.begun ≤ p.number - s.cycle.0
  pub less : p.spared ≤ p.number - s.cycle.0
  pub place : p.at ≡ length w
  pub room : length w ≤ length log₀
  pub log_is : p.log ≡ w ++ drop (length w) log₀
  pub half : Halfway (chip sheet) rom sched skips (whole sheet skips rom sched log₀ n s) (length log₀) (state_at p c) w
      (p.number - s.cycle.0) p.begun
      (p.number - s.cycle.0 - p.spared) (s.cycle.0 + n - p.number)

-- RES is low, and nothing is counted
abbrev pub Quiet : Lines → (before : ℕ) → Type 0
Quiet l before = (l.res ≡ 0) × (before ≡ 0)

-- THE CYCLES TO THE LIMIT, from cycle `from` on, where the count is `before`: none is a reset cycle, the lines are l, and the first
-- leaves the count `after`. Where there are more, nothing is counted, and a run that ended at the limit would jump as one that ends at
-- `end`.
pub record Window (sheet : Sheet) (rom sched : List ℕ) (l : Lines) (from end limit before after : ℕ) : Type 0 where
  pub lines : (i : ℕ) → from ≤ i → i < limit → lines_at sched i ≡ l
  pub no_record_is : (i : ℕ) → from ≤ i → i < limit → no_record sched (i + 1) (i + (limit - i)) ≡ true
  pub next : counted l.res before ≡ after
  pub no_reset_is : from < limit → after ≡ reset_count → ⊥
  pub single : (Quiet l before → ⊥) → limit ≤ from + 1
  pub cut : Quiet l before → (t : State) → from ≤ t.cycle.0 → t.cycle.0 < limit
      → jump_length sheet rom sched t (end - t.cycle.0) ≡ jump_length sheet rom sched t (limit - t.cycle.0)
  pub ahead : from ≤ limit
  pub in_run : limit ≤ end
  pub in_limit : end ≤ cycle_limit

-- and the loop stands within them
pub record Ahead (sheet : Sheet) (rom sched : List ℕ) (l : Lines) (from end limit before after number : ℕ) : Type 0 where
  pub window : Window sheet rom sched l from end limit before after
  pub since : from ≤ number
  pub more : number < limit

-- the count at a boundary within them
abbrev pub count_in : (before after limit number : ℕ) → ℕ
count_in before after limit number = cond (ltb number limit) before after

quiet_or : (l : Lines) (before : ℕ) {P : Type 0} → (Quiet l before → P) → ((Quiet l before → ⊥) → P) → P
quiet_or l before {P} f g = go (eqb l.res 0) refl (eqb before 0) refl
  where
    go : (x : Bool) → eqb l.res 0 ≡ x → (y : Bool) → eqb before 0 ≡ y → P
    go true e true h = f (eqb-true _ _ e, eqb-true _ _ h)
    go true e false h = g (λ q. eqb-false before 0 h q.1)
    go false e y h = g (λ q. eqb-false l.res 0 e q.0)

module _ {sheet : Sheet} {rom sched : List ℕ} {l : Lines} {from end limit before after : ℕ}
    (v : Window sheet rom sched l from end limit before after) where
  -- where two cycles are left, nothing is counted
  more_quiet : (number : ℕ) → from ≤ number → number + 1 < limit → Quiet l before
  more_quiet number p q = quiet_or l before (λ z. z) (λ z. absurd (omega (arith, v.single z)))

  quiet_after : Quiet l before → after ≡ before
  quiet_after q = sym v.next ∙ ap (λ (r : ℕ). counted r before) q.0 ∙ sym q.1

  pub count_first : (number : ℕ) → number < limit → count_in before after limit number ≡ before
  count_first number h = rw (lt-ltb number limit h)

  -- the count after more cycles
  count_later : (number : ℕ) → from < number → count_in before after limit number ≡ after
  count_later number h = go (ltb number limit) refl
    where
      go : (x : Bool) → ltb number limit ≡ x → cond x before after ≡ after
      go true e = let z = ltb-true number limit e in sym (quiet_after (more_quiet (number - 1) (omega arith) (omega arith)))
      go false e = refl

-- up to the next record, or to the end of the run
module _ (sheet : Sheet) (rom sched : List ℕ) (accepted : schedule_number sched ≡ 0) (cursor : Cursor) (from end : ℕ) (more : from < end)
    (small : end ≤ cycle_limit)
    (k : Stands sched from cursor) where
  record_ahead : from < cursor.next
  record_ahead =
      let u : cursor.next ≤ from → ⊥ = λ q.
      let i = next_some sched cursor.index (omega (arith, k.next)) in
      omega (arith, k.counted.ahead i, next_record sched cursor.index i, k.next) in
      omega arith

  pub limit_ahead : {limit : ℕ} → limit ≡ min end cursor.next → from < limit
  limit_ahead e = omega (arith, e, record_ahead)

  there : {limit : ℕ} → limit ≤ cursor.next → (i : ℕ) → from ≤ i → i < limit → Stands sched i cursor
  there e i p q = stays sched accepted from i cursor k p (omega (arith, e))

  -- nothing is counted
  pub up_to_record : {limit before : ℕ} → limit ≡ min end cursor.next → Quiet cursor.lines before
      → Window sheet rom sched cursor.lines from end limit before before
  up_to_record {limit} {before} e z =
      let most : limit ≤ cursor.next = omega (arith, e) in
      record {
        lines = λ i p q. sym (there most i p q).lines;
        no_record_is = λ i p q. no_record_is sched accepted i (i + (limit - i)) cursor (there most i p q) (omega (arith, e));
        next = ap (λ (r : ℕ). counted r before) z.0 ∙ sym z.1;
        no_reset_is = λ p q. omega (arith, q, z.1);
        single = λ n. absurd (n z);
        cut = λ y t p q.
            let c = t.cycle.0 in
            let least : min (end - c) (cursor.next - c) ≡ limit - c = omega (arith, e) in
            jump_length-cut sheet rom sched t (end - c) (cursor.next - c)
            (λ j h. no_record_is sched accepted c (c + j) cursor (there most c p q) (omega (arith, e, h, q)))
            (λ j h m. some_record sched accepted c (c + j) cursor (there most c p q) (omega (arith, h)) (omega (arith, m)))
            ∙ ap (jump_length sheet rom sched t) least;
        ahead = omega (arith, limit_ahead e);
        in_run = omega (arith, e);
        in_limit = small;
      }

  -- one cycle that is counted, and no reset cycle
  pub one_counted : {before : ℕ} → (Quiet cursor.lines before → ⊥) → (counted cursor.lines.res before ≡ reset_count → ⊥)
      → Window sheet rom sched cursor.lines from end (from + 1) before (counted cursor.lines.res before)
  one_counted n r =
      let most : from + 1 ≤ cursor.next = omega (arith, record_ahead) in
      record {
        lines = λ i p q. sym (there most i p q).lines;
        no_record_is = λ i p q. no_record_is sched accepted i (i + (from + 1 - i)) cursor (there most i p q) (omega (arith, record_ahead));
        next = refl;
        no_reset_is = λ p. r;
        single = λ z. omega arith;
        cut = λ z. absurd (n z);
        ahead = omega arith;
        in_run = omega arith;
        in_limit = small;
      }

  -- none, where reset cycles were done up to the limit
  pub none_left : {limit before : ℕ} → limit ≤ end
      → Window sheet rom sched cursor.lines limit end limit before (counted cursor.lines.res before)
  none_left m = record {
    lines = λ i p q. absurd (omega arith);
    no_record_is = λ i p q. absurd (omega arith);
    next = refl;
    no_reset_is = λ p. absurd (omega (arith, p));
    single = λ z. omega arith;
    cut = λ z t p q. absurd (omega arith);
    ahead = omega arith;
    in_run = m;
    in_limit = small;
  }

-- the cursor stands at the last cycle before the limit as it is, so that one move takes it on
pub stands_last : (sched : List ℕ) (accepted : schedule_number sched ≡ 0) (cursor : Cursor) (from limit n : ℕ) → limit ≤ cursor.next → from < n → n ≤ limit
    → Stands sched from cursor → Stands sched (n - 1) cursor
stands_last sched accepted cursor from limit n e p q k = stays sched accepted from (n - 1) cursor k (omega arith) (omega arith)

pub stands_on : {sched : List ℕ} {cursor : Cursor} {n : ℕ} → 1 ≤ n → Stands sched (n - 1 + 1) cursor → Stands sched n cursor
stands_on {sched} {cursor} {n} h k = let e : n - 1 + 1 ≡ n = omega arith in subst (λ (i : ℕ). Stands sched i cursor) e k

-- CYCLES ONE BY ONE keep what a cycle keeps
record Kept (s t : State) (d b m : ℕ) : Type 0 where
  valid : Valid t
  rises : t.cycle.0 ≡ s.cycle.0 + d
  few : b ≤ d
  within_run : d ≤ m

singly_keeps : (sheet : Sheet) (rom sched : List ℕ) (skips : Bool) (room m : ℕ) (s : State) → Panel (chip sheet) rom sched → Valid s
    → s.cycle.0 + m ≤ cycle_limit
    → (t : State) (w : List ℕ) (d b : ℕ) → OneByOne (chip sheet) rom sched skips room m s t w d b → Kept s t d b m
singly_keeps sheet rom sched skips room m s p v h _ _ _ _ no_cycle =
    record { valid = v; rises = omega arith; few = omega arith; within_run = omega arith }
singly_keeps sheet rom sched skips room m s p v h _ _ _ _ (also {t} {u} {y} {d} {a} x e o q f l z) =
    let k = singly_keeps sheet rom sched skips room m s p v h t y d a o in
    let few = (legal_sheet sheet p.legal).level_most in
    let read = panel_schedule sheet rom sched p.not_refused_is in
    let c = cycle_keeps sheet few rom sched t u x e p.rom_bytes p.sched_bytes read k.valid (omega (arith, k.rises)) q in
    let one = begins_one sheet rom sched t u x e q in
    record { valid = c.valid; rises = omega (arith, c.rises, k.rises); few = omega (arith, k.few, one); within_run = omega arith }

-- and are cycles of a longer run, where it jumps as the shorter one does
longer : (sheet : Sheet) (rom sched : List ℕ) (skips : Bool) (room m m' : ℕ) (s : State) → Panel (chip sheet) rom sched → Valid s
    → s.cycle.0 + m ≤ cycle_limit → m ≤ m'
    → ((t : State) (d : ℕ) → t.cycle.0 ≡ s.cycle.0 + d → d < m → jump_length sheet rom sched t (m - d) ≡ 0
    → jump_length sheet rom sched t (m' - d) ≡ 0)
    → (t : State) (w : List ℕ) (d b : ℕ) → OneByOne (chip sheet) rom sched skips room m s t w d b
    → OneByOne (chip sheet) rom sched skips room m' s t w d b
longer sheet rom sched skips room m m' s p v h g c _ _ _ _ no_cycle = no_cycle
longer sheet rom sched skips room m m' s p v h g c _ _ _ _ (also {t} {u} {y} {d} {a} x e o q f l z) =
    let k = singly_keeps sheet rom sched skips room m s p v h t y d a o in
    also x e (longer sheet rom sched skips room m m' s p v h g c t y d a o) q f (omega (arith, l, g)) (λ i. c t d k.rises l (z i))

-- what either runner answers, of the whole run
run_by_lem : (sheet : Sheet) (skips : Bool) (rom sched log : List ℕ) (n : ℕ) (s : State)
    → run_by skips sheet rom sched s log n
    ≡ told (chip sheet) (run_number (chip sheet) rom sched s n) (whole sheet skips rom sched log n s) s log
unfolding plain skipping
run_by_lem sheet false rom sched log n s = refl
run_by_lem sheet true rom sched log n s = refl

differ : false ≡ true → ⊥
differ e = let z : ◌≡◌ {A = ℕ} 0 1 = cc in omega arith

-- steps after a jump of j cycles, and after d cycles one by one
steps_after : (done spared j : ℕ) → spared ≤ done → 1 ≤ j → done - spared + 1 ≡ done + j - (spared + (j - 1))
steps_after done spared j h m = omega arith

steps_more : (done spared d : ℕ) → spared ≤ done → done - spared + d ≡ done + d - spared
steps_more done spared d h = omega arith

less_after : (done spared j : ℕ) → spared ≤ done → spared + (j - 1) ≤ done + j
less_after done spared j h = omega arith

-- and the cycles left
left_after : (end number j : ℕ) → number < end → suc (end - number - 1) - j ≡ end - (number + j)
left_after end number j h = omega arith

past_not : (number d end next : ℕ) → next ≡ number + d → d ≤ end - number → number ≤ end → next ≤ end
past_not number d end next e f g = omega arith

room_after : (w x t a l m : ℕ) → w + x ≡ t → x ≤ l - a → a ≡ w → l ≡ m → w ≤ m → t ≤ m
room_after w x t a l m e f g h i = omega arith

left_more : (end number d : ℕ) → end - number - d ≡ end - (number + d)
left_more end number d = omega arith

-- THE START
pub starts : (sheet : Sheet) (skips : Bool) (rom sched log : List ℕ) (n : ℕ) (s : State) → run_number (chip sheet) rom sched s n ≡ 0
    → Bytes rom → Bytes sched
    → At sheet skips rom sched log n s
    (record { core = s.core; ram = s.ram; ports = s.ports; log = log; at = 0; number = s.cycle.0; begun = 0; spared = 0 }) s.count
starts sheet skips rom sched log n s e br bs =
    let none_done : s.cycle.0 - s.cycle.0 ≡ 0 = omega arith in
    let no_step : s.cycle.0 - s.cycle.0 - 0 ≡ 0 = omega arith in
    let all_left : s.cycle.0 + n - s.cycle.0 ≡ n = omega arith in
    record {
      w = [];
      not_refused_is = e;
      rom_bytes = br;
      sched_bytes = bs;
      valid = accepted-valid sheet s (run_taken sheet rom sched s n e).state;
      from = omega arith;
      not_past = omega arith;
      few = omega arith;
      less = omega arith;
      place = refl;
      room = omega arith;
      log_is = refl;
      half = half_at (s.cycle.0 - s.cycle.0) (s.cycle.0 - s.cycle.0 - 0) (s.cycle.0 + n - s.cycle.0) none_done no_step all_left;
    }
  where
    half_at : (c k m : ℕ) → c ≡ 0 → k ≡ 0 → m ≡ n
        → Halfway (chip sheet) rom sched skips (whole sheet skips rom sched log n s) (length log) s [] c 0 k m
    half_at c k m x y z = rw (x, y, z) (loop_starts (chip sheet) rom sched skips (length log) n s)

module _ {sheet : Sheet} {skips : Bool} {rom sched log₀ : List ℕ} {n : ℕ} {s : State} {p : Place} {c : ℕ}
    (h : At sheet skips rom sched log₀ n s p c) where
  taken : Taken sheet rom sched s n
  taken = run_taken sheet rom sched s n h.not_refused_is

  panel : Panel (chip sheet) rom sched
  panel = record { legal = taken.legal; rom_bytes = h.rom_bytes; sched_bytes = h.sched_bytes; not_refused_is = taken.panel }

  -- the run ends within the cycle limit
  pub limit_kept : s.cycle.0 + n ≤ cycle_limit
  limit_kept = taken.limit

  pub schedule_taken : schedule_number sched ≡ 0
  schedule_taken = taken.schedule

  -- the ROM has the sheet's length
  pub rom_taken : sheet.rom ≡ length rom
  rom_taken = taken.rom_length_is

  pub log_length : length p.log ≡ length log₀
  log_length = ap length h.log_is ∙ length-append h.w (drop (length h.w) log₀) ∙ omega (arith, length-drop (length h.w) log₀, h.room)

  -- the cycles done, and the steps
  abbrev done : ℕ
  done = p.number - s.cycle.0

  -- what is answered, where the run came to so much
  tells : (o : Option ℕ)
      → whole sheet skips rom sched log₀ n s ≡ record { ran = sofar (state_at p c) h.w done p.begun o; steps = done - p.spared }
      → record { end = end_with o; state = state_at p c; cycles = done; clocks = 4 * done; begun = p.begun; written = p.at; steps = done - p.spared; log = p.log }
      ≡ run_by skips sheet rom sched s log₀ n
  tells o e = rw (run_by_lem sheet skips rom sched log₀ n s, h.not_refused_is, e, h.place, h.log_is)

  pub finishes : s.cycle.0 + n ≤ p.number
      → record { end = end_with none; state = state_at p c; cycles = done; clocks = 4 * done; begun = p.begun; written = p.at; steps = done - p.spared; log = p.log }
      ≡ run_by skips sheet rom sched s log₀ n
  finishes g =
      let z : s.cycle.0 + n - p.number ≡ 0 = omega (arith, h.not_past) in
      tells none (loop_ends (chip sheet) rom sched skips _ (length log₀) (state_at p c) h.w done p.begun (done - p.spared)
      (rw z at h.half))

  -- CYCLES ONE BY ONE lead on
  abbrev left : ℕ
  left = s.cycle.0 + n - p.number

  module _ (q : Place) {c' : ℕ} {x : List ℕ} {d b : ℕ}
      (steps : OneByOne (chip sheet) rom sched skips (length p.log - p.at) left (state_at p c) (state_at q c') x d b) where
    fits : length x ≤ length p.log - p.at
    fits = room_kept steps
      where
        room_kept : {t : State} {w : List ℕ} {d b : ℕ}
            → OneByOne (chip sheet) rom sched skips (length p.log - p.at) left (state_at p c) t w d b
            → length w ≤ length p.log - p.at
        room_kept no_cycle = omega arith
        room_kept (also x e o q f l z) = f

    kept : Kept (state_at p c) (state_at q c') d b left
    kept =
        singly_keeps sheet rom sched skips (length p.log - p.at) left (state_at p c) panel h.valid
        (omega (arith, limit_kept, h.not_past)) (state_at q c') x d b steps

    pub goes_by : q.begun ≡ p.begun + b → q.spared ≡ p.spared → q.at ≡ p.at + length x → q.log ≡ take p.at p.log ++ x ++ drop (p.at + length x) p.log
        → At sheet skips rom sched log₀ n s q c'
    goes_by begun_is spared-is at_is log_is =
        let long : length h.w + length x ≡ length (h.w ++ x) = sym (length-append h.w x) in
        let at_log : p.log ≡ h.w ++ drop p.at log₀ = h.log_is ∙ ap (λ (i : ℕ). h.w ++ drop i log₀) (sym h.place) in
        let end_is : p.at + length x ≡ length (h.w ++ x) = omega (arith, h.place, long) in
        let cycle_is : q.number ≡ p.number + d = kept.rises in
        let from : s.cycle.0 ≤ q.number = omega (arith, h.from, cycle_is) in
        let not_past = past_not p.number d (s.cycle.0 + n) q.number cycle_is kept.within_run h.not_past in
        let e : done + d ≡ q.number - s.cycle.0 = omega (arith, cycle_is, h.from) in
        let few : q.begun ≤ q.number - s.cycle.0 = subst (λ (i : ℕ). q.begun ≤ i) e (omega (arith, h.few, kept.few, begun_is)) in
        let less : q.spared ≤ q.number - s.cycle.0 = subst (λ (i : ℕ). q.spared ≤ i) e (omega (arith, h.less, spared-is)) in
        let y = steps_more done p.spared d h.less ∙ ap₂ (λ (i j : ℕ). i - j) e (sym spared-is) in
        let m = left_more (s.cycle.0 + n) p.number d ∙ ap (λ (i : ℕ). s.cycle.0 + n - i) (sym cycle_is) in
        let room_same : length p.log - p.at ≡ length log₀ - length h.w = omega (arith, log_length, h.place) in
        let half = loop_goes_singly (chip sheet) rom sched skips _ (length log₀) (state_at p c) h.w done p.begun
        (done - p.spared) left h.half (rw room_same at steps) in
        record {
          w = h.w ++ x;
          not_refused_is = h.not_refused_is;
          rom_bytes = h.rom_bytes;
          sched_bytes = h.sched_bytes;
          valid = kept.valid;
          from = from;
          not_past = not_past;
          few = few;
          less = less;
          place = at_is ∙ end_is;
          room = room_after _ _ _ _ _ _ long fits h.place log_length h.room;
          log_is = put_next log₀ p.log h.w x p.at (sym h.place) at_log log_is ∙ ap (λ (i : ℕ). h.w ++ x ++ drop i log₀) end_is;
          half = rw (e, y, m, sym begun_is) at half;
        }

  bare_valid : Valid (bare p)
  bare_valid = record { core = h.valid.core; ports = h.valid.ports; ram = h.valid.ram; count = omega arith; cycle = h.valid.cycle }

  -- what a jump's length is asked for
  pub boundary : (positions : List ℕ) → positions ≡ position_table → Boundary rom positions p.core.timer
  boundary positions e = record {
    rom_length_is = omega (arith, rom_taken, (legal_sheet sheet taken.legal).rom_most);
    table = e;
    register = h.valid.core.scalars.register;
  }

  -- a cycle that isn't begun, where the runner doesn't jump
  one_more : p.number < s.cycle.0 + n → left ≡ suc (left - 1)
  one_more m = omega arith

  stops_with_lem : p.number < s.cycle.0 + n → (skips ≡ true → jump_length sheet rom sched (state_at p c) left ≡ 0) → (k : ℕ)
      → within (chip sheet) rom sched (length p.log - p.at) 1 (state_at p c) ≡ still (state_at p c) (some k)
      → whole sheet skips rom sched log₀ n s
      ≡ record { ran = sofar (state_at p c) h.w done p.begun (some k); steps = done - p.spared }
  stops_with_lem m z k e =
      let room_same : length p.log - p.at ≡ length log₀ - length h.w = omega (arith, log_length, h.place) in
      loop_stops (chip sheet) rom sched skips _ (length log₀) (state_at p c) h.w done p.begun (done - p.spared) (left - 1)
      (rw (one_more m) at h.half) k
      (ap₂ (λ (room j : ℕ). within (chip sheet) rom sched room j (state_at p c)) (sym room_same) (span skips z) ∙ e)
    where
      span : (b : Bool) → (b ≡ true → jump_length sheet rom sched (state_at p c) left ≡ 0)
          → span_of (chip sheet) rom sched b (state_at p c) (suc (left - 1)) ≡ 1
      span false y = refl
      span true y = ap stride_of (rw (one_more m) at (y refl))

  -- the answer of a run that stops here
  answer_stopped : p.number < s.cycle.0 + n → (skips ≡ true → jump_length sheet rom sched (state_at p c) left ≡ 0) → (k : ℕ)
      → within (chip sheet) rom sched (length p.log - p.at) 1 (state_at p c) ≡ still (state_at p c) (some k)
      → {state : State} {ports log : List ℕ} {ram : List ℕ} → state ≡ with_count c (state_of p.core ram ports p.number) → ram ≡ p.ram → ports ≡ p.ports → log ≡ p.log
      → record { end = end_with (some k); state = state; cycles = done; clocks = 4 * done; begun = p.begun; written = p.at; steps = done - p.spared; log = log }
      ≡ run_by skips sheet rom sched s log₀ n
  answer_stopped m z k e q x y u =
      let same = q ∙ ap₂ (λ (x y : List ℕ). with_count c (state_of p.core x y p.number)) x y in
      rw (same, u) (tells (some k) (stops_with_lem m z k e))

  -- THE NEXT STEPS, before the limit of a window
  module _ {l : Lines} {from limit after : ℕ} (a : Ahead sheet rom sched l from (s.cycle.0 + n) limit c after p.number) where
    abbrev v : Window sheet rom sched l from (s.cycle.0 + n) limit c after
    v = a.window

    since : from ≤ p.number
    since = a.since

    more : p.number < limit
    more = a.more

    in_run : p.number < s.cycle.0 + n
    in_run = omega (arith, more, v.in_run)

    lines_here : lines_at sched p.number ≡ l
    lines_here = v.lines p.number since more

    bare_wait : wait_length sheet rom sched (state_at p c) (limit - p.number) ≡ wait_length sheet rom sched (bare p) (limit - p.number)
    unfolding wait_length may_jump
    bare_wait = go (may_jump sheet rom sched (bare p))
      where
        go : (b : Bool) → on_jump b sched (state_at p c) (limit - p.number) ≡ on_jump b sched (bare p) (limit - p.number)
        go true = refl
        go false = refl

    counts : (Quiet l c → ⊥) → Unreset sched (state_at p c) → ⊥
    counts y u = y (ap (λ (x : Lines). x.res) (sym lines_here) ∙ u.low, u.none)

    -- the runner jumps as if the limit were the end, and as the bare state would
    jump_there : Quiet l c → jump_length sheet rom sched (state_at p c) left ≡ wait_length sheet rom sched (bare p) (limit - p.number)
    jump_there q =
        v.cut q (state_at p c) since more
        ∙ jump_is_wait sheet rom sched (state_at p c) (limit - p.number)
        (record { low = ap (λ (x : Lines). x.res) lines_here ∙ q.0; none = q.1 })
        ∙ bare_wait

    -- A JUMP of j cycles
    module _ {j : ℕ} (ahead : j ≡ jump_by skips sheet rom sched (bare p) (limit - p.number)) (some_ahead : j ≡ 0 → ⊥) where
      wait_is : (b : Bool) → j ≡ jump_by b sheet rom sched (bare p) (limit - p.number)
          → wait_length sheet rom sched (bare p) (limit - p.number) ≡ j
      wait_is false e = absurd (some_ahead e)
      wait_is true e = sym e

      fits_limit : j ≤ limit - p.number
      fits_limit = subst (λ (i : ℕ). i ≤ limit - p.number) (wait_is skips ahead) (wait_within sheet rom sched (bare p) (limit - p.number))

      -- so nothing is counted
      quiet : Quiet l c
      quiet = quiet_or l c (λ q. q) (λ q. absurd (some_ahead (sym (wait_is skips ahead) ∙ last q)))
        where
          last : (Quiet l c → ⊥) → wait_length sheet rom sched (bare p) (limit - p.number) ≡ 0
          last q =
              let e : limit - p.number ≡ 1 = omega (arith, v.single q, since, more) in
              ap (wait_length sheet rom sched (bare p)) e ∙ wait_of_one sheet rom sched (bare p)

      jump_is : jump_length sheet rom sched (state_at p c) left ≡ j
      jump_is = jump_there quiet ∙ wait_is skips ahead

      stride_same : (i : ℕ) → (i ≡ 0 → ⊥) → stride_of i ≡ i
      stride_same zero m = absurd (m refl)
      stride_same (suc i) m = refl

      jump_span : (b : Bool) → j ≡ jump_by b sheet rom sched (bare p) (limit - p.number)
          → j ≡ span_of (chip sheet) rom sched b (state_at p c) (suc (left - 1))
      jump_span false e = absurd (some_ahead e)
      jump_span true e = sym (stride_same j some_ahead) ∙ ap stride_of (sym (rw (one_more in_run) at jump_is))

      pub jumpable : (positions registers : List ℕ) → positions ≡ position_table → registers ≡ register_table → Jumpable positions registers p.core j
      jumpable positions registers e f = record {
        position_table_is = e;
        register_table_is = f;
        runs = jump_runs sheet rom sched (state_at p c) left j jump_is some_ahead;
        register = h.valid.core.scalars.register;
        ticks = jump_ticks sheet rom sched (state_at p c) left j jump_is some_ahead;
      }

      -- it doesn't lead past the limit, so the counts fit
      pub jump_small : (p.number + j ≤ limit) × (limit ≤ cycle_limit) × (p.begun ≤ p.number) × (p.spared ≤ p.number) × (1 ≤ j)
      jump_small =
          (omega (arith, fits_limit, more), omega (arith, v.in_run, v.in_limit), omega (arith, h.few), omega (arith, h.less), omega (arith, some_ahead))

      pub jumps_on : {core : Core} → core ≡ core_after_jump j p.core
          → At sheet skips rom sched log₀ n s (record {
            core = core;
            ram = p.ram;
            ports = p.ports;
            log = p.log;
            at = p.at;
            number = p.number + j;
            begun = p.begun + j;
            spared = p.spared + (j - 1);
          }) after
      jumps_on q =
          let z = jump_small in
          let e : done + j ≡ p.number + j - s.cycle.0 = omega (arith, h.from) in
          let k = steps_after done p.spared j h.less z.4 ∙ ap (λ (i : ℕ). i - (p.spared + (j - 1))) e in
          let m = left_after (s.cycle.0 + n) p.number j in_run in
          let half = loop_goes (chip sheet) rom sched skips _ (length log₀) (state_at p c) h.w done p.begun (done - p.spared)
          (left - 1) (rw (one_more in_run) at h.half) (state_after_jump j (state_at p c)) [] j j
          (jump_span skips ahead) z.4
          (jump_in_room sheet rom sched (state_at p c) left j jump_is some_ahead h.valid (length log₀ - length h.w)) in
          rw (quiet_after v quiet, q)
          (record {
            w = h.w;
            not_refused_is = h.not_refused_is;
            rom_bytes = h.rom_bytes;
            sched_bytes = h.sched_bytes;
            valid = jump_keeps sheet rom sched (state_at p c) left j panel h.valid (omega (arith, z.0, z.1)) jump_is some_ahead;
            from = omega (arith, h.from);
            not_past = omega (arith, z.0, v.in_run);
            few = subst (λ (i : ℕ). p.begun + j ≤ i) e (omega (arith, h.few));
            less = subst (λ (i : ℕ). p.spared + (j - 1) ≤ i) e (less_after done p.spared j h.less);
            place = h.place;
            room = h.room;
            log_is = h.log_is;
            half = rw (append-nil, e, k, m) at half;
          })

    -- A TURN
    module _ (no_jump : 0 ≡ jump_by skips sheet rom sched (bare p) (limit - p.number)) where
      none_ahead : (b : Bool) → 0 ≡ jump_by b sheet rom sched (bare p) (limit - p.number) → b ≡ true
          → wait_length sheet rom sched (bare p) (limit - p.number) ≡ 0
      none_ahead false e q = absurd (differ q)
      none_ahead true e q = sym e

      pub turn_asks : (table rows positions : List ℕ) → table ≡ instruction_table → rows ≡ row_table sheet → positions ≡ position_table
          → Turn sheet skips rom sched table rows positions l limit (bare p) p.log p.at p.begun
      turn_asks table rows positions e g f = record {
        lent = record {
          panel = record { legal = taken.legal; rom_bytes = h.rom_bytes; sched_bytes = h.sched_bytes; not_refused_is = taken.panel };
          instructions = e;
          row_table_is = g;
          position_table_is = f;
        };
        parts = refl;
        lines = λ i a b. v.lines i (omega (arith, since, a)) b;
        ahead = more;
        in_limit = omega (arith, v.in_run, v.in_limit);
        valid = bare_valid;
        no_jump = none_ahead skips no_jump;
        place = omega (arith, h.place, h.room, log_length);
        few = omega (arith, h.few);
      }

      none_due : ResetDue sched (state_at p c) → ⊥
      none_due d = v.no_reset_is (omega (arith, since, more)) (sym v.next ∙ ap (λ (x : Lines). counted x.res c) (sym lines_here) ∙ d)

      jump_none : skips ≡ true → jump_length sheet rom sched (state_at p c) left ≡ 0
      jump_none e =
          quiet_or l c (λ q. jump_there q ∙ none_ahead skips no_jump e) (λ q. counted_no_jump sheet rom sched (state_at p c) left (counts q))

      module _ {r : Stretch} {ram ports log' : List ℕ}
          (k : Turned sheet skips rom sched limit (bare p) p.log p.at p.begun r ram ports log') where
        -- that is begun not at all
        module _ (g : number_of r.stop ≡ 0 → ⊥) where
          -- the answer of a run that stops here
          pub stops : {j : ℕ} → number_of r.stop ≡ j → {state : State} → state ≡ with_count c (state_of p.core ram ports p.number)
              → record { end = end_with (some j); state = state; cycles = done; clocks = 4 * done; begun = p.begun; written = p.at; steps = done - p.spared; log = log' }
              ≡ run_by skips sheet rom sched s log₀ n
          stops e {state} q =
              let o = k.held g in
              subst
              (λ (i : ℕ). record { end = end_with (some i); state = state; cycles = done; clocks = 4 * done; begun = p.begun; written = p.at; steps = done - p.spared; log = log' }
              ≡ run_by skips sheet rom sched s log₀ n)
              e
              (answer_stopped in_run jump_none (number_of r.stop)
              (counted-stops sheet rom sched (bare p) c none_due (length p.log - p.at) (number_of r.stop) o.stops) q o.ram_is o.ports_is
              o.log_is)

          -- the log is as long as it was
          pub stop_length : length log' ≡ length log₀
          stop_length = ap length (k.held g).log_is ∙ log_length

        module _ (g : number_of r.stop ≡ 0) where
          abbrev here : Place
          here = record { core = r.core; ram = ram; ports = ports; log = log'; at = r.at; number = r.cycle; begun = r.begun; spared = p.spared }

          abbrev To : ℕ → ℕ → Type 0
          To i j =
              OneByOne (chip sheet) rom sched skips (length p.log - p.at) left (state_at p i) (state_at here j) (k.went g).w
              (k.went g).d (k.went g).b

          -- nothing is counted
          steps_low : Quiet l c → To c after
          steps_low q =
              let o = k.went g in
              let y = low_one_by_one sheet rom sched skips (length p.log - p.at) (limit - p.number) (bare p) refl low (bare here)
              o.w o.d o.b o.steps in
              let z = longer sheet rom sched skips (length p.log - p.at) (limit - p.number) left (bare p) panel bare_valid
              (omega (arith, more, v.in_run, v.in_limit))
              (omega (arith, v.in_run)) cut_at (bare here) o.w o.d o.b y.one_by_one in
              recount q.1 (quiet_after v q ∙ q.1) z
            where
              recount : {i j : ℕ} → i ≡ 0 → j ≡ 0 → To 0 0 → To i j
              recount e f z = rw (e, f) z

              low : (i : ℕ) → i < limit - p.number → (lines_at sched (p.number + i)).res ≡ 0
              low i e = ap (λ (x : Lines). x.res) (v.lines (p.number + i) (omega (arith, since)) (omega (arith, e, more))) ∙ q.0

              cut_at : (t : State) (d : ℕ) → t.cycle.0 ≡ p.number + d → d < limit - p.number
                  → jump_length sheet rom sched t (limit - p.number - d) ≡ 0
                  → jump_length sheet rom sched t (left - d) ≡ 0
              cut_at t d e y z =
                  let a : left - d ≡ s.cycle.0 + n - t.cycle.0 = omega (arith, e) in
                  let b : limit - t.cycle.0 ≡ limit - p.number - d = omega (arith, e) in
                  ap (jump_length sheet rom sched t) a ∙ v.cut q t (omega (arith, e, since)) (omega (arith, e, y))
                  ∙ ap (jump_length sheet rom sched t) b ∙ z

          -- one cycle is
          steps_counted : (Quiet l c → ⊥) → To c after
          steps_counted q =
              let o = k.went g in
              let one : limit - p.number ≡ 1 = omega (arith, v.single q, since, more) in
              let z = counted-one sheet rom sched (bare p) c none_due skips (length p.log - p.at) left (counts q)
              (omega (arith, in_run)) (bare here) o.w o.d o.b o.some_cycles
              (subst (λ (i : ℕ). OneByOne (ordinary sheet) rom sched skips (length p.log - p.at) i (bare p) (bare here) o.w o.d
              o.b) one o.steps) in
              subst (To c) (ap (λ (x : Lines). counted x.res c) lines_here ∙ v.next) z.1

          -- it leads on, and not past the limit
          pub turn_small : (p.number < r.cycle) × (r.cycle ≤ limit)
          turn_small =
              let o = k.went g in
              (omega (arith, o.cycle_is, o.some_cycles), omega (arith, o.cycle_is, at_most o.steps, more))
            where
              at_most : {t : State} {w : List ℕ} {d b m : ℕ}
                  → OneByOne (ordinary sheet) rom sched skips (length p.log - p.at) m (bare p) t w d b → d ≤ m
              at_most no_cycle = omega arith
              at_most (also x e o q f l z) = omega arith

          pub goes_on : At sheet skips rom sched log₀ n s here after
          goes_on = let o = k.went g in goes_by here (quiet_or l c steps_low steps_counted) o.begun_is refl o.at_is o.log_is

  -- RESET CYCLES up to a limit
  module _ {l : Lines} {limit : ℕ} (due : counted l.res c ≡ reset_count) (more : p.number < limit) (in_run : limit ≤ s.cycle.0 + n)
      (lines : (i : ℕ) → p.number ≤ i → i < limit → lines_at sched i ≡ l) where
    high : l.res ≡ 0 → ⊥
    high z = let e : 0 ≡ reset_count = ap (λ (r : ℕ). counted r c) (sym z) ∙ due in omega (arith, e)

    reset_due : ResetDue sched (state_at p c)
    reset_due = ap (λ (x : Lines). counted x.res c) (lines p.number (omega arith) more) ∙ due

    abbrev reset_to_lem : Place
    reset_to_lem = record {
      core = cleared (taken_of l p.core);
      ram = p.ram;
      ports = replicate latches 0;
      log = appended p.log p.at (records p.number c);
      at = p.at + length (records p.number c);
      number = limit;
      begun = p.begun;
      spared = p.spared;
    }

    pub resets_on : length (records p.number c) ≤ length p.log - p.at → At sheet skips rom sched log₀ n s reset_to_lem reset_count
    resets_on f =
        let j = limit - p.number - 1 in
        let e : p.number + suc j ≡ limit = omega arith in
        let steps = held_resets sheet rom sched l (state_at p c) reset_due high skips (length p.log - p.at) left j f (omega arith)
        (λ i q. lines (p.number + i) (omega arith) (omega (arith, q))) in
        goes_by reset_to_lem
        (subst (λ (i : ℕ). OneByOne (chip sheet) rom sched skips (length p.log - p.at) left (state_at p c)
        (with_count reset_count (state_of reset_to_lem.core p.ram (replicate latches 0) i)) (reset_bytes (state_at p c)) (suc j) 0) e steps)
        (omega arith) refl refl refl

    pub reset_stopped : length p.log - p.at < length (records p.number c) → {state : State} {ram ports log : List ℕ}
        → state ≡ with_count c (state_of p.core ram ports p.number) → ram ≡ p.ram → ports ≡ p.ports → log ≡ p.log
        → record { end = end_with (some 3); state = state; cycles = done; clocks = 4 * done; begun = p.begun; written = p.at; steps = done - p.spared; log = log }
        ≡ run_by skips sheet rom sched s log₀ n
    reset_stopped f =
        let other : c ≡ reset_count → ⊥ = λ z. omega (arith, f, ap length (records-none p.number c z)) in
        let room : length p.log - p.at < log_record_length = omega (arith, f, ap length (records-one p.number c other)) in
        answer_stopped (omega (arith, more, in_run))
        (λ z. counted_no_jump sheet rom sched (state_at p c) left
        (λ u. high (ap (λ (x : Lines). x.res) (sym (lines p.number (omega arith) more)) ∙ u.low))) 3
        (reset_stops sheet rom sched (state_at p c) reset_due (length p.log - p.at) other room)

-- THE LOOPS' INVARIANTS

-- by records: the loop stands at p with this count, and the cursor at its cycle
pub record ByRecords (sheet : Sheet) (skips : Bool) (rom sched log₀ : List ℕ) (n : ℕ) (s : State) (cursor : Cursor) (p : Place)
    (c : ℕ) : Type 0 where
  pub at : At sheet skips rom sched log₀ n s p c
  pub stands : Stands sched p.number cursor

-- once the reset line was looked at: the loop by records stood at cycle `from`, and stands at p
pub record Entered (sheet : Sheet) (skips : Bool) (rom sched log₀ : List ℕ) (n : ℕ) (s : State) (cursor : Cursor) (from : ℕ) (p : Place)
    (limit before after : ℕ) : Type 0 where
  pub window : Window sheet rom sched cursor.lines p.number (s.cycle.0 + n) limit before after
  pub at : At sheet skips rom sched log₀ n s p (count_in before after limit p.number)
  pub further : from < limit
  pub most : limit ≤ cursor.next

-- the same values by other names, where two ways meet
pub entered_as : {sheet : Sheet} {skips : Bool} {rom sched log₀ : List ℕ} {n : ℕ} {s : State} {cursor : Cursor} {from : ℕ} {ram : List ℕ}
    {begun spared before : ℕ} {core : Core} {ports log : List ℕ} {at number limit after : ℕ}
    → Entered sheet skips rom sched log₀ n s cursor from
    (record { core = core; ram = ram; ports = ports; log = log; at = at; number = number; begun = begun; spared = spared })
    limit before after
    → {log' : List ℕ} → log' ≡ log → {core' : Core} → core' ≡ core → {ports' : List ℕ} → ports' ≡ ports → {at' : ℕ} → at' ≡ at → {number' : ℕ} → number' ≡ number
    → {after' : ℕ} → after' ≡ after → {limit' : ℕ} → limit' ≡ limit
    → Entered sheet skips rom sched log₀ n s cursor from
    (record { core = core'; ram = ram; ports = ports'; log = log'; at = at'; number = number'; begun = begun; spared = spared })
    limit' before after'
entered_as z a b c d e f g = rw (a, b, c, d, e, f, g) z

-- the test of RES and the count, as the code makes it
pub is_quiet : (res c : ℕ) → (not (eqb res 0) || not (eqb c 0)) ≡ false → (res ≡ 0) × (c ≡ 0)
is_quiet res c = go (eqb res 0) refl (eqb c 0) refl
  where
    go : (x : Bool) → eqb res 0 ≡ x → (y : Bool) → eqb c 0 ≡ y → (not x || not y) ≡ false → (res ≡ 0) × (c ≡ 0)
    go true e true f z = (eqb-true _ _ e, eqb-true _ _ f)
    go true e false f z = absurd (differ (sym z))
    go false e y f z = absurd (differ (sym z))

pub not_quiet : (res c : ℕ) → (not (eqb res 0) || not (eqb c 0)) ≡ true → (res ≡ 0) × (c ≡ 0) → ⊥
not_quiet res c e q = differ (sym (rw (q.0, q.1) refl) ∙ e)

pub look_place : {sheet : Sheet} {skips : Bool} {rom sched log₀ : List ℕ} {n : ℕ} {s : State} {cursor : Cursor} {p : Place} {c : ℕ}
    → ByRecords sheet skips rom sched log₀ n s cursor p c → p.at ≤ length p.log
look_place i = omega (arith, i.at.place, i.at.room, log_length i.at)

module _ {sheet : Sheet} {skips : Bool} {rom sched log₀ : List ℕ} {n : ℕ} {s : State} {cursor : Cursor} {p : Place} {c limit : ℕ}
    (i : ByRecords sheet skips rom sched log₀ n s cursor p c)
    (more : p.number < s.cycle.0 + n) (e : limit ≡ min (s.cycle.0 + n) cursor.next) where
  pub look_ahead : p.number < limit
  look_ahead =
      limit_ahead sheet rom sched (schedule_taken i.at) cursor p.number (s.cycle.0 + n) more (limit_kept i.at) i.stands e

  -- RES is low, and nothing is counted
  pub enters : Quiet cursor.lines c → Entered sheet skips rom sched log₀ n s cursor p.number p limit c c
  enters z = record {
    window = up_to_record sheet rom sched (schedule_taken i.at) cursor p.number (s.cycle.0 + n) more (limit_kept i.at)
        i.stands e z;
    at = subst (At sheet skips rom sched log₀ n s p) (same (ltb p.number limit)) i.at;
    further = look_ahead;
    most = omega (arith, e);
  }
    where
      same : (b : Bool) → c ≡ cond b c c
      same true = refl
      same false = refl

  module _ (z : Quiet cursor.lines c → ⊥) {v : Seen}
      (g : v ≡ looked_at p.core p.ports p.log p.at cursor.lines p.number limit c) where
    abbrev k : ℕ
    k = counted cursor.lines.res c

    lines_to : (j : ℕ) → p.number ≤ j → j < limit → lines_at sched j ≡ cursor.lines
    lines_to j a b = sym (stays sched (schedule_taken i.at) p.number j cursor i.stands a (omega (arith, e))).lines

    -- where the line leaves the loop, as the definition says
    abbrev Leaves : Seen → Type 0
    Leaves o = Entered sheet skips rom sched log₀ n s cursor p.number
        (record { core = o.core; ram = p.ram; ports = o.ports; log = o.log; at = o.at; number = o.number; begun = p.begun; spared = p.spared }) o.limit c o.count

    -- the count is below 4
    counted_next : (k ≡ reset_count → ⊥) → Leaves (ordinary_next p.core p.ports p.log p.at cursor.lines p.number limit c k)
    counted_next f = record {
      window = one_counted sheet rom sched (schedule_taken i.at) cursor p.number (s.cycle.0 + n) more (limit_kept i.at)
          i.stands z f;
      at = subst (At sheet skips rom sched log₀ n s p)
          (sym (ap (λ (b : Bool). cond b c k) (lt-ltb p.number (p.number + 1) (omega arith)))) i.at;
      further = omega arith;
      most = omega (arith, look_ahead, e);
    }

    resets_to_limit : k ≡ reset_count → length (records p.number c) ≤ length p.log - p.at → Leaves (reset_to p.core p.ports p.log p.at cursor.lines p.number limit c)
    resets_to_limit f h = record {
      window = subst (Window sheet rom sched cursor.lines limit (s.cycle.0 + n) limit c) f
          (none_left sheet rom sched (schedule_taken i.at) cursor p.number (s.cycle.0 + n) more (limit_kept i.at) i.stands
          (omega (arith, e)));
      at = subst (At sheet skips rom sched log₀ n s (reset_to_lem i.at f look_ahead (omega (arith, e)) lines_to))
          (sym (ap (λ (b : Bool). cond b c reset_count) (le-ltb limit limit (omega arith)))) (resets_on i.at f look_ahead (omega (arith, e)) lines_to h);
      further = look_ahead;
      most = omega (arith, e);
    }

    pub looks : v.full ≡ false → Leaves v
    unfolding looked_at
    looks f = subst Leaves (sym g) (go (eqb k reset_count) refl (leb (length (records p.number c)) (length p.log - p.at)) refl (sym f ∙ ap (λ (o : Seen). o.full) g))
      where
        go : (x : Bool) → eqb k reset_count ≡ x → (y : Bool) → leb (length (records p.number c)) (length p.log - p.at) ≡ y
            → false ≡ (cond x (cond y (reset_to p.core p.ports p.log p.at cursor.lines p.number limit c) (reset_full p.core p.ports p.log p.at cursor.lines p.number limit c)) (ordinary_next p.core p.ports p.log p.at cursor.lines p.number limit c k)).full
            → Leaves (cond x (cond y (reset_to p.core p.ports p.log p.at cursor.lines p.number limit c) (reset_full p.core p.ports p.log p.at cursor.lines p.number limit c)) (ordinary_next p.core p.ports p.log p.at cursor.lines p.number limit c k))
        go false a y b h = counted_next (eqb-false k reset_count a)
        go true a true b h = resets_to_limit (eqb-true k reset_count a) (leb-true _ _ b)
        go true a false b h = absurd (differ h)

    -- the log lacks the bytes of the record
    record Full : Type 0 where
      due : k ≡ reset_count
      lacks : length p.log - p.at < length (records p.number c)
      ports_is : v.ports ≡ p.ports
      log_is : v.log ≡ p.log

    full : v.full ≡ true → Full
    unfolding looked_at
    full f = go (eqb k reset_count) refl (leb (length (records p.number c)) (length p.log - p.at)) refl g
      where
        go : (x : Bool) → eqb k reset_count ≡ x → (y : Bool) → leb (length (records p.number c)) (length p.log - p.at) ≡ y
            → v ≡ cond x (cond y (reset_to p.core p.ports p.log p.at cursor.lines p.number limit c)
            (reset_full p.core p.ports p.log p.at cursor.lines p.number limit c))
            (ordinary_next p.core p.ports p.log p.at cursor.lines p.number limit c k) → Full
        go false a y b h = absurd (differ (sym (ap (λ (o : Seen). o.full) h) ∙ f))
        go true a true b h = absurd (differ (sym (ap (λ (o : Seen). o.full) h) ∙ f))
        go true a false b h = record {
          due = eqb-true k reset_count a;
          lacks = leb-false _ _ b;
          ports_is = ap (λ (o : Seen). o.ports) h;
          log_is = ap (λ (o : Seen). o.log) h;
        }

    pub look_full : v.full ≡ true → {state : State} → state ≡ with_count c (state_of p.core p.ram v.ports p.number)
        → record {
          end = end_with (some 3);
          state = state;
          cycles = p.number - s.cycle.0;
          clocks = 4 * (p.number - s.cycle.0);
          begun = p.begun;
          written = p.at;
          steps = p.number - s.cycle.0 - p.spared;
          log = v.log;
        }
        ≡ run_by skips sheet rom sched s log₀ n
    look_full f q = let o = full f in reset_stopped i.at o.due look_ahead (omega (arith, e)) lines_to o.lacks q refl o.ports_is o.log_is

    pub full_length : v.full ≡ true → length v.log ≡ length log₀
    full_length f = ap length (full f).log_is ∙ log_length i.at

-- up to the limit: from q, where the loop by records stood, to p
pub record ToLimit (sheet : Sheet) (skips : Bool) (rom sched : List ℕ) (l : Lines) (n start limit before after : ℕ)
    (q p : Place) : Type 0 where
  pub window : Window sheet rom sched l q.number (start + n) limit before after
  pub at : {core : Core} {ram ports log₀ : List ℕ} {count : ℕ}
      → At sheet skips rom sched log₀ n (with_count count (state_of core ram ports start)) q (count_in before after limit q.number)
      → At sheet skips rom sched log₀ n (with_count count (state_of core ram ports start)) p (count_in before after limit p.number)
  pub later : q.number ≤ p.number
  pub within_limit : p.number ≤ limit

module _ {sheet : Sheet} {skips : Bool} {rom sched : List ℕ} {l : Lines} {n start limit before after : ℕ} {q p : Place}
    (i : ToLimit sheet skips rom sched l n start limit before after q p) (more : p.number < limit) where
  pub ahead : Ahead sheet rom sched l q.number (start + n) limit before after p.number
  ahead = record { window = i.window; since = i.later; more = more }

  -- the count is that before the first of the cycles
  pub first : {log₀ : List ℕ} {s : State} → At sheet skips rom sched log₀ n s p (count_in before after limit p.number)
      → At sheet skips rom sched log₀ n s p before
  first {log₀} {s} h = subst (At sheet skips rom sched log₀ n s p) (count_first i.window p.number more) h

  then : {log₀ : List ℕ} {s : State} {o : Place} → p.number < o.number → At sheet skips rom sched log₀ n s o after
      → At sheet skips rom sched log₀ n s o (count_in before after limit o.number)
  then {log₀} {s} {o} e h =
      subst (At sheet skips rom sched log₀ n s o) (sym (count_later i.window o.number (omega (arith, e, i.later)))) h

  -- the length of the jump
  pub length_is : {r : ℕ} → sheet.rom ≡ length rom
      → JumpsBy skips rom p.core.flow.pc p.core.owed p.core.interrupt p.core.timer l.int (limit - p.number) r
      → r ≡ jump_by skips sheet rom sched (bare p) (limit - p.number)
  length_is e k =
      k.length_is sheet e sched (bare p) (record { pc_is = refl; owed_is = refl; interrupt_is = refl; timer_is = refl })
      (record {
        level_is = ap (λ (x : Lines). x.int) (i.window.lines p.number i.later more);
        no_record_is = i.window.no_record_is p.number i.later more;
      })

  -- a jump, and a turn
  pub jumps_to : {j : ℕ} {core : Core} → j ≡ jump_by skips sheet rom sched (bare p) (limit - p.number) → (j ≡ 0 → ⊥)
      → core ≡ core_after_jump j p.core → p.number + j ≤ limit
      → ToLimit sheet skips rom sched l n start limit before after q (record {
        core = core;
        ram = p.ram;
        ports = p.ports;
        log = p.log;
        at = p.at;
        number = p.number + j;
        begun = p.begun + j;
        spared = p.spared + (j - 1);
      })
  jumps_to e z c m = record {
    window = i.window;
    at = λ h. then (omega (arith, z)) (jumps_on (first (i.at h)) ahead e z c);
    later = omega (arith, i.later);
    within_limit = m;
  }

  pub turns_to : {r : Stretch} {ram ports log : List ℕ} → 0 ≡ jump_by skips sheet rom sched (bare p) (limit - p.number)
      → Turned sheet skips rom sched limit (bare p) p.log p.at p.begun r ram ports log → number_of r.stop ≡ 0 → p.number < r.cycle
      → r.cycle ≤ limit
      → ToLimit sheet skips rom sched l n start limit before after q (record {
        core = r.core;
        ram = ram;
        ports = ports;
        log = log;
        at = r.at;
        number = r.cycle;
        begun = r.begun;
        spared = p.spared;
      })
  turns_to e k g y m = record {
    window = i.window;
    at = λ h. then y (goes_on (first (i.at h)) ahead e k g);
    later = omega (arith, i.later, y);
    within_limit = m;
  }

-- at the limit the count is that after them
pub last : {sheet : Sheet} {skips : Bool} {rom sched : List ℕ} {l : Lines} {n start limit before after : ℕ} {q p : Place}
    → ToLimit sheet skips rom sched l n start limit before after q p
    → p.number ≡ limit → {log₀ : List ℕ} {s : State} → At sheet skips rom sched log₀ n s p (count_in before after limit p.number)
    → At sheet skips rom sched log₀ n s p after
last {sheet} {skips} {rom} {sched} {l} {n} {start} {limit} {before} {after} {q} {p} i e {log₀} {s} h =
    subst (At sheet skips rom sched log₀ n s p) (ap (λ (b : Bool). cond b before after) (le-ltb p.number limit (omega arith))) h
