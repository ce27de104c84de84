-- The bars are the waits of the report. Assumes nothing.
use mathlib.Core.Path.{◌≡◌, ◌∙◌, refl, sym, ap}
use mathlib.Core.List.{List, [], ◌∷◌, ◌++◌, append_assoc}
use Prim.Native.Nat.{ℕ, zero, suc, ◌+◌, ◌/◌, ◌%◌, ◌<◌, max}
use native.Mathlib.Omega.{arith}
use lib.ListN.{length, get_or, length-append}
use borrow.Author.Tests.{le-leb, lt-leb}
use Rattle.log_form.specs.Form.{bit_at}
use Rattle.waiting.specs.declared.Landing.{Landing}
use Rattle.waiting.specs.declared.Carried.{Carried}
use Rattle.waiting.specs.declared.LogRecord.{LogRecord}
use Rattle.waiting.specs.declared.Reading.{Reading}
use Rattle.waiting.specs.WaitingTimes.{no_waits, landing_after, landings_after, lamps_after, carried_after, carried_after_all, record_here, records_in, start_of_day, waiting_times}
use Rattle.waiting.specs.EveryLog.{landing_of}
use Rattle.waiting.proofs.EveryLog.{carried_of}
use Rattle.waiting.proofs.Progress.{torn}
use Rattle.waits_text.specs.Parts.{no_parts, part_read, parts_read, WholeParts}
use Rattle.waits_text.proofs.Parts.{stays_refused, reads_on, not_whole, parts_read_as_one}
use Rattle.bars.specs.declared.Bar.{Bar}
use Rattle.bars.specs.Bars.{closed_bar, open_bar, drawn, together, longest, OneRecordEach, BarsAre, BarsAreTheWaits, CutInTwo}

-- ONE RECORD

-- what bars add to a landing
record Added (was : Landing) (bars : List Bar) (is : Landing) : Type 0 where
  pub closed : was.closed + length bars ≡ is.closed
  pub cycles : was.cycles.0 + together bars ≡ is.cycles.0
  pub longest : max was.longest.0 (longest bars) ≡ is.longest.0
  pub mark : was.mark < 2 → is.mark < 2

none_added : (l : Landing) → Added l (closed_bar l l) l
unfolding closed_bar
none_added l =
    rw (le-leb l.closed l.closed (omega arith))
    (record { closed = omega arith; cycles = omega arith; longest = omega arith; mark = λ h. h })

one_added : (was is n : ℕ) (l : Landing) → Added l (closed_bar l (landing_after was is n l)) (landing_after was is n l)
unfolding closed_bar
one_added zero zero n l = none_added l
one_added zero (suc k) n l =
    rw (le-leb l.closed l.closed (omega arith))
    (record { closed = omega arith; cycles = omega arith; longest = omega arith; mark = λ h. omega arith })
one_added (suc j) zero n l =
    rw (lt-leb (l.closed + 1) l.closed (omega arith))
    (record { closed = omega arith; cycles = omega arith; longest = omega arith; mark = λ h. omega arith })
one_added (suc j) (suc k) n l = none_added l

added_at : (was is n j i : ℕ) (ls : List Landing)
    → Added (get_or ls i no_waits) (closed_bar (get_or ls i no_waits) (get_or (landings_after was is n j ls) i no_waits)) (get_or (landings_after was is n j ls) i no_waits)
added_at was is n j i [] = none_added no_waits
added_at was is n j zero (l ∷ ls) = one_added (bit_at was j) (bit_at is j) n l
added_at was is n j (suc i) (l ∷ ls) = added_at was is n (suc j) i ls

by_record : (i : ℕ) (c : Carried) (r : LogRecord) → Added (landing_of c i) (closed_bar (landing_of c i) (landing_of (carried_after c r) i)) (landing_of (carried_after c r) i)
unfolding carried_after
by_record i c r = added_at c.lamps (lamps_after c.lamps r) r.cycle.0 0 i c.landings

-- A PART THAT IS ONE RECORD

-- a part that is taken stands behind parts that were
taken_before : (before : Reading) (p : List ℕ) → length p % 8 ≡ 0 → (part_read before p).number ≡ 0 → before.number ≡ 0
taken_before before p w e = go before.number refl
  where
    go : (k : ℕ) → before.number ≡ k → before.number ≡ 0
    go zero h = h
    go (suc k) h =
        let refused : before.number ≡ 0 → ⊥ = λ z. omega (arith, h, z) in
        ap (λ (r : Reading). r.number) (stays_refused before p w refused) ∙ e

-- and carries on what is carried after its record
part_carried : (before : Reading) (p : List ℕ) → length p ≡ 8 → (part_read before p).number ≡ 0
    → (part_read before p).carried ≡ carried_after before.carried (record_here p)
part_carried before p l e =
    let w : length p % 8 ≡ 0 = omega (arith, l) in
    let read = reads_on before p w (taken_before before p w e) in
    let number : (waiting_times p before.carried).number ≡ 0 = ap (λ (r : Reading). r.number) read ∙ e in
    let one : length p / 8 ≡ 1 = omega (arith, l) in
    sym (ap (λ (r : Reading). r.carried) read) ∙ carried_of p before.carried number
    ∙ ap (λ (k : ℕ). carried_after_all before.carried (records_in k p)) one

by_part : (i : ℕ) (before : Reading) (p : List ℕ) → length p ≡ 8 → (part_read before p).number ≡ 0
    → Added (landing_of before.carried i) (closed_bar (landing_of before.carried i) (landing_of (part_read before p).carried i)) (landing_of (part_read before p).carried i)
by_part i before p l e = rw (part_carried before p l e) (by_record i before.carried (record_here p))

-- ALL PARTS

together-append : (a b : List Bar) → together (a ++ b) ≡ together a + together b
together-append [] b = omega arith
together-append (x ∷ a) b = omega (arith, together-append a b)

longest-append : (a b : List Bar) → longest (a ++ b) ≡ max (longest a) (longest b)
longest-append [] b = omega arith
longest-append (x ∷ a) b = omega (arith, longest-append a b)

added_both : {k l m : Landing} {a b : List Bar} → Added k a l → Added l b m → Added k (a ++ b) m
added_both {k} {l} {m} {a} {b} p q =
    record {
      closed = omega (arith, p.closed, q.closed, length-append a b);
      cycles = omega (arith, p.cycles, q.cycles, together-append a b);
      longest = omega (arith, p.longest, q.longest, longest-append a b);
      mark = λ h. q.mark (p.mark h);
    }

whole_parts : (ps : List (List ℕ)) → OneRecordEach ps → WholeParts ps
whole_parts [] h = tt
whole_parts (p ∷ ps) h = (omega (arith, h.0), whole_parts ps h.1)

taken_first : (before : Reading) (ps : List (List ℕ)) → WholeParts ps → (parts_read before ps).number ≡ 0 → before.number ≡ 0
taken_first before [] w e = e
taken_first before (p ∷ ps) w e = taken_before before p w.0 (taken_first (part_read before p) ps w.1 e)

by_parts : (i : ℕ) (before : Reading) (ps : List (List ℕ)) → OneRecordEach ps → (parts_read before ps).number ≡ 0
    → Added (landing_of before.carried i) (drawn i before ps) (landing_of (parts_read before ps).carried i)
by_parts i before [] h e = record { closed = omega arith; cycles = omega arith; longest = omega arith; mark = λ m. m }
by_parts i before (p ∷ ps) h e =
    let first = taken_first (part_read before p) ps (whole_parts ps h.1) e in
    added_both (by_part i before p h.0 first) (by_parts i (part_read before p) ps h.1 e)

-- THE END, which is shorter than a record: where the log is accepted there is none

end_whole : (before : Reading) (end : List ℕ) → (part_read before end).number ≡ 0 → length end % 8 ≡ 0
end_whole before end e = go (length end % 8) refl
  where
    go : (k : ℕ) → length end % 8 ≡ k → length end % 8 ≡ 0
    go zero h = h
    go (suc k) h =
        let cut : length end % 8 ≡ 0 → ⊥ = λ z. omega (arith, h, z) in
        let same = sym (not_whole before end cut) ∙ sym (torn end before.carried cut) in
        absurd (omega (arith, ap (λ (r : Reading). r.number) same, e))

end_carried : (before : Reading) (end : List ℕ) → length end < 8 → (part_read before end).number ≡ 0
    → (before.number ≡ 0) × ((part_read before end).carried ≡ before.carried)
end_carried before end l e =
    let w = end_whole before end e in
    let number = taken_before before end w e in
    let read = reads_on before end w number in
    let accepted : (waiting_times end before.carried).number ≡ 0 = ap (λ (r : Reading). r.number) read ∙ e in
    let none : length end / 8 ≡ 0 = omega (arith, l) in
    let kept = sym (ap (λ (r : Reading). r.carried) read) ∙ carried_of end before.carried accepted in
    (number, kept ∙ ap (λ (k : ℕ). carried_after_all before.carried (records_in k end)) none)

open_count : (last : ℕ) (l : Landing) → l.mark < 2 → length (open_bar last l) ≡ l.mark
unfolding open_bar
open_count last l h = go l.mark h refl
  where
    go : (m : ℕ) → m < 2 → l.mark ≡ m → length (open_bar last l) ≡ l.mark
    go zero h e = rw e
    go (suc zero) h e = rw e
    go (suc (suc k)) h e = absurd (omega (arith, h))

are : (bars : List Bar) (last : ℕ) (l : Landing) → Added no_waits bars l → BarsAre bars last l
are bars last l a =
    record {
      closed = omega (arith, a.closed);
      waits = omega (arith, a.closed, length-append bars (open_bar last l), open_count last l (a.mark (omega arith)));
      cycles = omega (arith, a.cycles);
      longest = omega (arith, a.longest);
    }

none_at_first : (i : ℕ) → landing_of start_of_day i ≡ no_waits
none_at_first zero = refl
none_at_first (suc zero) = refl
none_at_first (suc (suc zero)) = refl
none_at_first (suc (suc (suc zero))) = refl
none_at_first (suc (suc (suc (suc k)))) = refl

-- THE BARS OF AN ACCEPTED LOG ARE ITS WAITS
pub bars_are_the_waits : BarsAreTheWaits
bars_are_the_waits ps end i h l b n e =
    let same = parts_read_as_one ps end (whole_parts ps h) b n in
    let ended = end_carried (parts_read no_parts ps) end l (ap (λ (r : Reading). r.number) same ∙ e) in
    let carried = sym (ap (λ (r : Reading). r.carried) same) ∙ ended.1 in
    let added = rw (none_at_first i) at (by_parts i no_parts ps h ended.0) in
    rw carried (are (drawn i no_parts ps) (parts_read no_parts ps).carried.last.0 (landing_of (parts_read no_parts ps).carried i) added)

-- A LOG CUT IN TWO
pub cut_in_two : CutInTwo
cut_in_two i before [] qs = refl
cut_in_two i before (p ∷ ps) qs =
    let first = closed_bar (landing_of before.carried i) (landing_of (part_read before p).carried i) in
    let rest = cut_in_two i (part_read before p) ps qs in
    rw rest (sym (append_assoc first (drawn i (part_read before p) ps) (drawn i (parts_read (part_read before p) ps) qs)))
