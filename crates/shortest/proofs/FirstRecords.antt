-- The first k records of a schedule: they are accepted where all are, and their lines are those of the whole up to the cycle of the
-- first record left out. Assumes nothing.
use mathlib.Core.Path.{◌≡◌, ◌∙◌, refl, sym, ap}
use mathlib.Core.Bool.{Bool, true, false}
use mathlib.Core.List.{List}
use mathlib.Core.Logic.{⊎_elim}
use Prim.Native.Nat.{ℕ, zero, suc, ◌+◌, ◌*◌, ◌%◌, ◌<◌, ◌≤◌}
use native.Mathlib.Nat.{eq-or-lt_of_le}
use native.Mathlib.Omega.{arith}
use lib.Dec.{eqb, leb}
use lib.ListN.{length, take, drop, length-drop, take-append-drop}
use lib.Seq.{length-take-le, take_all, drop-append-le, take-append-le, get_or-take}
use borrow.Author.Tests.{eqb-true, eq-eqb, leb-true, le-leb, lt-leb}
use Rattle.runs.specs.Refusals.{first_of}
use Rattle.runs.proofs.Refusals.{first_at, passes}
use Rattle.upd546.specs.Bytes.{number_of, part}
use Rattle.upd546.specs.TheLineSchedule.{record_length, max_records, record_count, record_byte, record_cycle, record_lines, lines_among, lines_at, bytes_number, order_number, records_number, schedule_number}
use Rattle.shortest.specs.Search.{first_records}

-- an accepted schedule is whole records, not too many, none of them refused
pub record Accepted (sched : List ℕ) : Type 0 where
  pub most : length sched ≤ record_length * max_records
  pub whole : length sched % record_length ≡ 0
  pub each : records_number sched (record_count sched) ≡ 0

pub accepted : (sched : List ℕ) → schedule_number sched ≡ 0 → Accepted sched
unfolding schedule_number
accepted sched e =
    let z = first_at _ e in
    record {
      most = leb-true _ _ (passes (leb (length sched) (record_length * max_records)) 12 refl (z 0));
      whole = eqb-true _ _ (passes (eqb (length sched % record_length) 0) 11 refl (z 1));
      each = z 2;
    }

-- all of its records are the schedule itself
pub all_records : (sched : List ℕ) → schedule_number sched ≡ 0 → first_records (record_count sched) sched ≡ sched
all_records sched e = let a = accepted sched e in take_all (record_length * record_count sched) sched (omega (arith, a.whole))

-- where none of m records is refused, none of the first of them is
records-front : (sched : List ℕ) (m j : ℕ) → records_number sched m ≡ 0 → j ≤ m → records_number sched j ≡ 0
unfolding records_number
records-front sched zero j e h = let z : j ≡ 0 = omega arith in rw z
records-front sched (suc m) j e h =
    ⊎_elim (λ q. ap (records_number sched) q ∙ e) (λ l. records-front sched m j (first_at _ e 0) (omega arith)) (eq-or-lt_of_le h)

-- lines past records that come later
pub lines_later : (sched : List ℕ) (c i j : ℕ) → i ≤ j → ((r : ℕ) → i ≤ r → r < j → c < record_cycle sched r) → lines_among sched c j ≡ lines_among sched c i
unfolding lines_among
lines_later sched c i zero h later = let z : i ≡ 0 = omega arith in rw z
lines_later sched c i (suc j) h later =
    ⊎_elim (λ q. ap (lines_among sched c) (sym q))
    (λ l. rw (lt-leb (record_cycle sched j) c (later j (omega arith) (omega arith)), lines_among) (lines_later sched c i j (omega arith) (λ r p q. later r p (omega arith))))
    (eq-or-lt_of_le h)

module _ (sched : List ℕ) (k : ℕ) (h : record_length * k ≤ length sched) where
  kept_length : length (first_records k sched) ≡ record_length * k
  kept_length = length-take-le (record_length * k) sched h

  part_kept : (at m : ℕ) → at + m ≤ record_length * k → part (first_records k sched) at m ≡ part sched at m
  part_kept at m l =
      let kept = first_records k sched in
      let rest = drop (record_length * k) sched in
      sym
      (sym (ap (λ (z : List ℕ). part z at m) (take-append-drop (record_length * k) sched))
      ∙ ap (take m) (drop-append-le at kept rest (omega (arith, kept_length)))
      ∙ take-append-le m (drop at kept) rest (omega (arith, length-drop at kept, kept_length)))

  byte_kept : (i b : ℕ) → i < k → b < 10 → record_byte (first_records k sched) i b ≡ record_byte sched i b
  byte_kept i b p q = get_or-take (record_length * k) sched (record_length * i + b) 0 (omega arith)

  pub cycle_kept : (i : ℕ) → i < k → record_cycle (first_records k sched) i ≡ record_cycle sched i
  unfolding record_cycle
  cycle_kept i p = ap number_of (part_kept (record_length * i) 6 (omega arith))

  lines_kept : (i : ℕ) → i < k → record_lines (first_records k sched) i ≡ record_lines sched i
  unfolding record_lines
  lines_kept i p =
      rw (byte_kept i 6 p (omega arith), byte_kept i 7 p (omega arith), byte_kept i 8 p (omega arith), byte_kept i 9 p (omega arith))

  bytes_number-kept : (i : ℕ) → i < k → bytes_number (first_records k sched) i ≡ bytes_number sched i
  unfolding bytes_number
  bytes_number-kept i p = rw (byte_kept i 8 p (omega arith), byte_kept i 9 p (omega arith))

  order_number-kept : (i : ℕ) → i < k → order_number (first_records k sched) i ≡ order_number sched i
  unfolding order_number
  order_number-kept zero p = refl
  order_number-kept (suc i) p = rw (cycle_kept i (omega arith), cycle_kept (suc i) p)

  records_number-kept : (j : ℕ) → j ≤ k → records_number (first_records k sched) j ≡ records_number sched j
  unfolding records_number
  records_number-kept zero p = refl
  records_number-kept (suc j) p =
      rw (records_number-kept j (omega arith), bytes_number-kept j (omega arith), order_number-kept j (omega arith))

  pub count_kept : record_count (first_records k sched) ≡ k
  count_kept = omega (arith, kept_length)

  among_kept : (c j : ℕ) → j ≤ k → lines_among (first_records k sched) c j ≡ lines_among sched c j
  unfolding lines_among
  among_kept c zero p = refl
  among_kept c (suc j) p = go (leb (record_cycle sched j) c) refl (among_kept c j (omega arith))
    where
      same : (t : Bool) → leb (record_cycle sched j) c ≡ t → leb (record_cycle (first_records k sched) j) c ≡ t
      same t e = ap (λ (x : ℕ). leb x c) (cycle_kept j (omega arith)) ∙ e

      go : (t : Bool) → leb (record_cycle sched j) c ≡ t → lines_among (first_records k sched) c j ≡ lines_among sched c j
          → lines_among (first_records k sched) c (suc j) ≡ lines_among sched c (suc j)
      go true e ih = rw (same true e, e, lines_among) (lines_kept j (omega arith))
      go false e ih = rw (same false e, e, lines_among) ih

  -- the lines of the first k records
  pub lines_first : (c : ℕ) → lines_at (first_records k sched) c ≡ lines_among sched c k
  unfolding lines_at
  lines_first c = ap (lines_among (first_records k sched) c) count_kept ∙ among_kept c k (omega arith)

  -- and they are accepted
  pub first_accepted : schedule_number sched ≡ 0 → schedule_number (first_records k sched) ≡ 0
  unfolding schedule_number first_of
  first_accepted e =
      let a = accepted sched e in
      let most : length (first_records k sched) ≤ record_length * max_records = omega (arith, kept_length, a.most) in
      let whole : length (first_records k sched) % record_length ≡ 0 = omega (arith, kept_length) in
      let none : records_number (first_records k sched) (record_count (first_records k sched)) ≡ 0
      = ap (records_number (first_records k sched)) count_kept
      ∙ records_number-kept k (omega arith)
      ∙ records-front sched (record_count sched) k a.each (omega arith) in
      rw (le-leb (length (first_records k sched)) (record_length * max_records) most, eq-eqb (length (first_records k sched) % record_length) 0 whole, none)
