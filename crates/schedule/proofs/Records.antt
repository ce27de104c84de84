-- A schedule's number from its records' numbers, and the cycles of an accepted one. Assumes nothing.
use mathlib.Core.Path.{◌≡◌, ◌∙◌, refl, sym, ap}
use mathlib.Core.Bool.{Bool, true, false, ◌&&◌}
use mathlib.Core.List.{List}
use mathlib.Core.Logic.{⊎_elim}
use Prim.Native.Nat.{ℕ, zero, suc, ◌+◌, ◌*◌, ◌/◌, ◌%◌, ◌<◌, ◌≤◌}
use native.Mathlib.Nat.{eq-or-lt_of_le}
use native.Mathlib.Numerals.{add-one}
use native.Mathlib.Omega.{arith}
use lib.Dec.{ltb, leb}
use lib.ListN.{length, get_or}
use borrow.Author.Tests.{ltb-true, lt-ltb, le-ltb, le-leb, lt-leb, eq-eqb, ne_eqb}
use Rattle.runs.specs.Refusals.{first_of, unless}
use Rattle.runs.proofs.Refusals.{first_at, first_past, first_here, last_one, passes}
use Rattle.upd546.specs.Bytes.{number_at}
use Rattle.upd546.specs.TheLineSchedule.{record_length, max_records, record_count, record_byte, record_cycle, bytes_number, order_number, record_number, records_number, schedule_number}
use Rattle.big_endian.proofs.Numbers.{number_next}
use Rattle.schedule.specs.Checked.{last_cycle}

-- The first eight bytes of a record, as two numbers of four: the ports are its last two.
pub head_cycle : (sched : List ℕ) (at : ℕ) → at + 8 ≤ length sched → ((k : ℕ) → get_or sched k 0 < 256)
    → (4294967296 * number_at sched at 4 + number_at sched (at + 4) 4) / 65536 ≡ number_at sched at 6
head_cycle sched at h b =
    let five = number_next sched at 4 refl (omega arith) in
    let six = number_next sched at 5 refl (omega arith) in
    let one = number_next sched (at + 4) 0 refl (omega arith) in
    let two = number_next sched (at + 4) 1 refl (omega arith) in
    let three = number_next sched (at + 4) 2 refl (omega arith) in
    let four = number_next sched (at + 4) 3 refl (omega arith) in
    let fifth : get_or sched (at + 4 + 0) 0 ≡ get_or sched (at + 4) 0 = ap (λ (k : ℕ). get_or sched k 0) (omega arith) in
    let sixth : get_or sched (at + 4 + 1) 0 ≡ get_or sched (at + 5) 0 = ap (λ (k : ℕ). get_or sched k 0) (omega arith) in
    omega (arith, five, six, one, two, three, four, fifth, sixth, b (at + 4 + 2), b (at + 4 + 3))

-- one record: its levels, then its order
abbrev levels : List ℕ → ℕ → Bool
levels sched i = leb (record_byte sched i 8) 1 && leb (record_byte sched i 9) 1

pub levels_of : (int res : ℕ) → int < 256 → (leb ((256 * res + int) % 256) 1 && leb ((256 * res + int) / 256) 1) ≡ (leb int 1 && leb res 1)
levels_of int res h =
    let low : (256 * res + int) % 256 ≡ int = omega arith in
    let high : (256 * res + int) / 256 ≡ res = omega arith in
    rw (low, high)

pub bad_bytes : (sched : List ℕ) (i : ℕ) → levels sched i ≡ false → record_number sched i ≡ 13
unfolding bytes_number first_of
bad_bytes sched i e = rw e

pub by_order : (sched : List ℕ) (i : ℕ) → levels sched i ≡ true → record_number sched i ≡ order_number sched i
unfolding bytes_number first_of
by_order sched i e = rw e (last_one (order_number sched i))

-- the order, by the cycle of the record before record i; the first has none before it
pub order_first : (sched : List ℕ) (i : ℕ) → i ≡ 0 → order_number sched i ≡ 0
unfolding order_number
order_first sched i e = rw e

pub order_not : (sched : List ℕ) (i : ℕ) → (i ≡ 0 → ⊥) → record_cycle sched i ≤ last_cycle sched i → order_number sched i ≡ 14
unfolding order_number last_cycle
order_not sched zero n h = absurd (n refl)
order_not sched (suc i) n h = rw (le-ltb (record_cycle sched i) (record_cycle sched (suc i)) h)

pub order_refused : (sched : List ℕ) (i : ℕ) → (order_number sched i ≡ 0 → ⊥) → order_number sched i ≡ 14
unfolding order_number
order_refused sched zero n = absurd (n refl)
order_refused sched (suc i) n = go (ltb (record_cycle sched i) (record_cycle sched (suc i))) n
  where
    go : (b : Bool) → (unless b 14 ≡ 0 → ⊥) → unless b 14 ≡ 14
    go true m = absurd (m refl)
    go false m = refl

pub order_kept : (sched : List ℕ) (i : ℕ) → last_cycle sched i < record_cycle sched i → order_number sched i ≡ 0
unfolding order_number last_cycle
order_kept sched zero h = refl
order_kept sched (suc i) h = rw (lt-ltb (record_cycle sched i) (record_cycle sched (suc i)) h)

-- the cycle of the record before, at the first record and one record on
pub last_first : (sched : List ℕ) → last_cycle sched 0 ≡ 0
unfolding last_cycle
last_first sched = refl

pub last_next : (sched : List ℕ) (i : ℕ) → last_cycle sched (i + 1) ≡ record_cycle sched i
unfolding last_cycle
last_next sched i = rw (add-one i)

-- the tests of the length
pub too_long : (sched : List ℕ) → record_length * max_records < length sched → schedule_number sched ≡ 12
unfolding schedule_number first_of
too_long sched h = rw (lt-leb (length sched) (record_length * max_records) h)

pub no_multiple : (sched : List ℕ) → length sched ≤ record_length * max_records → (length sched % record_length ≡ 0 → ⊥) → schedule_number sched ≡ 11
unfolding schedule_number first_of
no_multiple sched h ne = rw (le-leb (length sched) (record_length * max_records) h, ne_eqb (length sched % record_length) 0 ne)

pub by_records : (sched : List ℕ) → length sched ≤ record_length * max_records → length sched % record_length ≡ 0 → schedule_number sched ≡ records_number sched (record_count sched)
unfolding schedule_number first_of
by_records sched h e = rw (le-leb (length sched) (record_length * max_records) h, eq-eqb (length sched % record_length) 0 e) (last_one (records_number sched (record_count sched)))

pub none_refused : (sched : List ℕ) → records_number sched 0 ≡ 0
unfolding records_number
none_refused sched = refl

-- one record more, where those before it are accepted
pub one_more : (sched : List ℕ) (i : ℕ) → records_number sched i ≡ 0 → records_number sched (i + 1) ≡ record_number sched i
unfolding records_number
one_more sched i e = rw (add-one i) (first_past (records_number sched i) _ e ∙ last_one (record_number sched i))

-- a number that refuses the first i records refuses all of more
refused-on : (sched : List ℕ) (i k : ℕ) → i ≤ k → 0 < records_number sched i → records_number sched k ≡ records_number sched i
unfolding records_number
refused-on sched i zero h p = let e : 0 ≡ i = omega arith in ap (records_number sched) e
refused-on sched i (suc k) h p = ⊎_elim (λ e. ap (records_number sched) (sym e)) (λ l. go (refused-on sched i k (omega arith) p)) (eq-or-lt_of_le h)
  where
    go : records_number sched k ≡ records_number sched i → records_number sched (suc k) ≡ records_number sched i
    go e = first_here (records_number sched k) _ (rw e p) ∙ e

pub refused-at : (sched : List ℕ) (i : ℕ) → length sched ≤ record_length * max_records → length sched % record_length ≡ 0 → i < record_count sched → records_number sched i ≡ 0
    → (record_number sched i ≡ 0 → ⊥) → schedule_number sched ≡ record_number sched i
refused-at sched i h e l z ne =
    let p : 0 < records_number sched (i + 1) = omega (arith, one_more sched i z) in
    by_records sched h e ∙ refused-on sched (i + 1) (record_count sched) (omega arith) p ∙ one_more sched i z

-- The cycles of an accepted schedule rise strictly.
in_order : (sched : List ℕ) (k i : ℕ) → records_number sched k ≡ 0 → i < k → order_number sched i ≡ 0
unfolding records_number
in_order sched zero i e h = absurd (omega arith)
in_order sched (suc k) i e h =
    let z = first_at _ e in
    ⊎_elim (λ q. let p : i ≡ k = omega arith in rw p (first_at _ (z 1) 1)) (λ l. in_order sched k i (z 0) (omega arith)) (eq-or-lt_of_le h)

above_last : (sched : List ℕ) (i : ℕ) → order_number sched (suc i) ≡ 0 → record_cycle sched i < record_cycle sched (suc i)
unfolding order_number
above_last sched i e = ltb-true _ _ (passes (ltb (record_cycle sched i) (record_cycle sched (suc i))) 14 refl e)

pub rises : (sched : List ℕ) → schedule_number sched ≡ 0 → (i k : ℕ) → i < k → k < record_count sched → record_cycle sched i < record_cycle sched k
unfolding schedule_number
rises sched e i zero h l = absurd (omega arith)
rises sched e i (suc k) h l =
    let s = above_last sched k (in_order sched (record_count sched) (suc k) (first_at _ e 2) l) in
    ⊎_elim (λ q. let p : i ≡ k = omega arith in rw p s) (λ m. omega (arith, rises sched e i k (omega arith) (omega arith))) (eq-or-lt_of_le h)
