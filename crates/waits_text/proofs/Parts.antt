-- A log read in parts gives the reading of the whole log. Assumes nothing.
use mathlib.Core.Path.{◌≡◌, ◌∙◌, refl, sym, ap}
use mathlib.Core.Bool.{true}
use mathlib.Core.List.{List, [], ◌∷◌, ◌++◌, append_assoc}
use Prim.Native.Nat.{ℕ, zero, suc, ◌+◌, ◌/◌, ◌%◌, ◌<◌, ◌≤◌, ◌^◌}
use native.Mathlib.Omega.{arith}
use lib.Dec.{lit<}
use lib.ListN.{length, take, drop, length-append}
use lib.Seq.{get_or-drop}
use borrow.Author.Tests.{eq-eqb, ne_eqb}
use Rattle.runs.specs.Laws.{Bytes}
use Rattle.upd546.specs.Bytes.{number_of}
use Rattle.waiting.specs.declared.Carried.{Carried}
use Rattle.waiting.specs.declared.Reading.{Reading}
use Rattle.waiting.specs.WaitingTimes.{start_of_day, carried_after, record_here, records_in, records_of, carried_after_all, figure_most, carried_number, waiting_times}
use Rattle.waiting.proofs.Records.{count_records}
use Rattle.waiting.proofs.Growth.{small_figures, nothing-grown, nothing-sound}
use Rattle.waiting.proofs.Progress.{torn, none_read, all_read}
use Rattle.waiting.proofs.EveryLog.{taken, carried_of, grown_all, only_figures_draw_41, read_on_as_joined, refused-stays}
use Rattle.waits_text.specs.Parts.{no_parts, on_whole, part_read, parts_read, joined_parts, WholeParts, PartsReadAsOne}

-- THE CASES OF A PART

module _ (before : Reading) (part : List ℕ) where
  pub stays_refused : length part % 8 ≡ 0 → (before.number ≡ 0 → ⊥) → before ≡ part_read before part
  unfolding part_read
  stays_refused w h = rw (eq-eqb (length part % 8) 0 w) (go before.number h)
    where
      go : (k : ℕ) → (k ≡ 0 → ⊥) → before ≡ on_whole true k before part
      go zero h = absurd (h refl)
      go (suc k) h = refl

  pub reads_on : length part % 8 ≡ 0 → before.number ≡ 0 → waiting_times part before.carried ≡ part_read before part
  unfolding part_read
  reads_on w h = rw (eq-eqb (length part % 8) 0 w, h)

  pub not_whole : (length part % 8 ≡ 0 → ⊥) → waiting_times part before.carried ≡ part_read before part
  unfolding part_read
  not_whole h = sym (torn part before.carried h) ∙ rw (ne_eqb (length part % 8) 0 h)

-- A CARRIED REPORT IS ACCEPTED

-- a cycle of six bytes
six_bytes : (l : List ℕ) → Bytes l → number_of (take 6 l) < 2 ^ 48
six_bytes [] b = omega arith
six_bytes (x0 ∷ []) b = omega (arith, b 0)
six_bytes (x0 ∷ x1 ∷ []) b = omega (arith, b 0, b 1)
six_bytes (x0 ∷ x1 ∷ x2 ∷ []) b = omega (arith, b 0, b 1, b 2)
six_bytes (x0 ∷ x1 ∷ x2 ∷ x3 ∷ []) b = omega (arith, b 0, b 1, b 2, b 3)
six_bytes (x0 ∷ x1 ∷ x2 ∷ x3 ∷ x4 ∷ []) b = omega (arith, b 0, b 1, b 2, b 3, b 4)
six_bytes (x0 ∷ x1 ∷ x2 ∷ x3 ∷ x4 ∷ x5 ∷ l) b = omega (arith, b 0, b 1, b 2, b 3, b 4, b 5)

drop-bytes : (k : ℕ) (l : List ℕ) → Bytes l → Bytes (drop k l)
drop-bytes k l b i = rw (get_or-drop k l i 0) (b (k + i))

last_small : (k : ℕ) (log : List ℕ) (c : Carried) → Bytes log → c.last.0 < 2 ^ 48 → (carried_after_all c (records_in k log)).last.0 < 2 ^ 48
unfolding carried_after
last_small zero log c b h = h
last_small (suc k) log c b h = last_small k (drop 8 log) (carried_after c (record_here log)) (drop-bytes 8 log b) (six_bytes log b)

-- fewer than 2^60 records from the start of a day carry on what is accepted
carries-on : (log : List ℕ) → Bytes log → length log < 2 ^ 63 → (waiting_times log start_of_day).number ≡ 0
    → carried_number [] (waiting_times log start_of_day).carried ≡ 0
carries-on log b l e =
    let t = taken log start_of_day e in
    let same = carried_of log start_of_day e in
    let d = carried_after_all start_of_day (records_of log) in
    let grown = grown_all 0 0 start_of_day (records_of log) nothing-grown t.records in
    let few : 0 + length (records_of log) ≤ figure_most = omega (arith, count_records (length log / 8) log) in
    let last : d.last.0 ≤ figure_most = omega (arith, last_small (length log / 8) log start_of_day b (omega arith)) in
    only_figures_draw_41 log start_of_day e (rw same (small_figures (0 + length (records_of log)) d grown few last))

-- ALL PARTS

-- from the start of a day, a part behind a log of whole records
one_part : (before : Reading) (log part : List ℕ) → length log % 8 ≡ 0 → Bytes log → length log < 2 ^ 63 → before ≡ waiting_times log start_of_day
    → part_read before part ≡ waiting_times (log ++ part) start_of_day
one_part before log part w b l s = go (length part % 8) refl
  where
    read : (k : ℕ) → (waiting_times log start_of_day).number ≡ k → length part % 8 ≡ 0 → part_read before part ≡ waiting_times (log ++ part) start_of_day
    read zero e h =
        sym (reads_on before part h (ap (λ (r : Reading). r.number) s ∙ e)) ∙ ap (λ (r : Reading). waiting_times part r.carried) s
        ∙ read_on_as_joined log part start_of_day e (carries-on log b l e)
    read (suc k) e h =
        let refused : (waiting_times log start_of_day).number ≡ 0 → ⊥ = λ z. omega (arith, e, z) in
        let told : before.number ≡ 0 → ⊥ = λ z. refused (ap (λ (r : Reading). r.number) (sym s) ∙ z) in
        sym (stays_refused before part h told) ∙ s ∙ refused-stays log part start_of_day nothing-sound w h refused

    go : (k : ℕ) → length part % 8 ≡ k → part_read before part ≡ waiting_times (log ++ part) start_of_day
    go zero e = read (waiting_times log start_of_day).number refl e
    go (suc k) e =
        let cut : length part % 8 ≡ 0 → ⊥ = λ z. omega (arith, e, z) in
        let longer : length (log ++ part) % 8 ≡ 0 → ⊥ = λ z. omega (arith, e, z, w, length-append log part) in
        sym (not_whole before part cut) ∙ sym (torn part before.carried cut) ∙ torn (log ++ part) start_of_day longer

bytes_front : (l m : List ℕ) → Bytes (l ++ m) → Bytes l
bytes_front [] m b i = lit< tt
bytes_front (x ∷ l) m b zero = b 0
bytes_front (x ∷ l) m b (suc i) = bytes_front l m (λ j. b (suc j)) i

parts_from : (ps : List (List ℕ)) (end log : List ℕ) (before : Reading) → WholeParts ps → length log % 8 ≡ 0
    → Bytes (log ++ joined_parts ps end) → length (log ++ joined_parts ps end) < 2 ^ 63 → before ≡ waiting_times log start_of_day
    → part_read (parts_read before ps) end ≡ waiting_times (log ++ joined_parts ps end) start_of_day
parts_from [] end log before w h b l s = one_part before log end h (bytes_front log end b) (omega (arith, length-append log end)) s
parts_from (p ∷ ps) end log before w h b l s =
    let rest = joined_parts ps end in
    let group : log ++ p ++ rest ≡ log ++ (p ++ rest) = append_assoc log p rest in
    let bytes : Bytes (log ++ p ++ rest) = rw group b in
    let front = bytes_front (log ++ p) rest bytes in
    let short : length (log ++ p ++ rest) < 2 ^ 63 = rw group l in
    let next = one_part before log p h (bytes_front log (p ++ rest) b) (omega (arith, length-append log (p ++ rest))) s in
    parts_from ps end (log ++ p) (part_read before p) w.1 (omega (arith, length-append log p, w.0, h)) bytes short next
    ∙ ap (λ (x : List ℕ). waiting_times x start_of_day) group

pub parts_read_as_one : PartsReadAsOne
parts_read_as_one ps end w b l = parts_from ps end [] no_parts w refl b l start
  where
    start : no_parts ≡ waiting_times [] start_of_day
    start = all_read [] start_of_day 0 start_of_day (none_read [] start_of_day refl nothing-sound) (omega arith)
