-- Entries that are noted, and entries that have their turns, one after another. Assumes nothing.
use mathlib.Core.Path.{◌≡◌, ◌∙◌, sym, ap, ap₂}
use mathlib.Core.List.{List, ◌++◌, append_assoc, append-nil}
use Prim.Native.Nat.{ℕ, ◌+◌, ◌-◌, ◌*◌, ◌<◌, ◌≤◌}
use native.Mathlib.Omega.{arith}
use lib.ListN.{length, take, drop, length-append}
use lib.Seq.{drop-drop, drop_at, take_at, take_all, length-take-le}
use Rattle.runs.specs.Machine.{Machine}
use Rattle.upd546.specs.declared.Sheet.{Sheet}
use Rattle.upd546.specs.Bytes.{part}
use Rattle.panels.specs.declared.Course.{Course}
use Rattle.panels.specs.Courses.{note_of, note_all, after_of}
use Rattle.bank_calls.specs.Entries.{entry_length, entries_of, entry_needs, needs_in, entry_after}
use Rattle.bank_calls.specs.InTurn.{Served, turn_answer, turn_logs, in_turn}
use Rattle.bank_calls.proofs.Span.{span, span_none, span_all, span_cons}

-- NOTED

pub note_next : (bank : List ℕ) (i to : ℕ) (c : Course) → i < to
    → note_all (note_of c (entry_needs (part bank (entry_length * i) entry_length))) (needs_in (span bank (i + 1) to)) ≡ note_all c (needs_in (span bank i to))
unfolding needs_in
note_next bank i to c h = sym (ap (λ (es : List (List ℕ)). note_all c (needs_in es)) (span_cons bank i to h))

pub note_end : (bank : List ℕ) (i to : ℕ) (c : Course) → to ≤ i → note_all c (needs_in (span bank i to)) ≡ c
unfolding needs_in
note_end bank i to c h = ap (λ (es : List (List ℕ)). note_all c (needs_in es)) (span_none bank i to h)

-- SERVED

-- an entry in its place
put_entry_front : (bank e : List ℕ) (at : ℕ) → at ≤ length bank → length e ≡ entry_length → {b : List ℕ} → b ≡ take at bank ++ (e ++ drop entry_length (drop at bank))
    → (take (at + entry_length) b ≡ take at bank ++ e) × (drop (at + entry_length) b ≡ drop (at + entry_length) bank)
put_entry_front bank e at h l p =
    let long : length (take at bank ++ e) ≡ at + entry_length = omega (arith, length-append (take at bank) e, length-take-le at bank h, l) in
    let rest : List ℕ = drop entry_length (drop at bank) in
    let joined = p ∙ sym (append_assoc (take at bank) e rest) in (
      ap (take (at + entry_length)) joined ∙ take_at (take at bank ++ e) rest (at + entry_length) long,
      ap (drop (at + entry_length)) joined ∙ drop_at (take at bank ++ e) rest (at + entry_length) long ∙ drop-drop entry_length at bank,
    )

module _ {S : Type 0} (M : Sheet → Machine S) (sheet : Sheet) (roms schedules : List ℕ) where
  -- what the entries before i are, and the others will be
  abbrev pub left : (bank logs : List ℕ) → Course → (i to : ℕ) → Served
  left bank logs c i to =
      let rest = in_turn M sheet roms schedules logs c (span bank i to) in
      record { bank = take (entry_length * i) bank ++ rest.bank; logs = rest.logs }

  pub left_first : (bank logs : List ℕ) (c : Course) (to : ℕ) → left bank logs c 0 to ≡ in_turn M sheet roms schedules logs c (entries_of to bank)
  left_first bank logs c to = ap (λ (es : List (List ℕ)). in_turn M sheet roms schedules logs c es) (span_all bank to)

  pub left_last : (bank logs : List ℕ) (c : Course) (i to : ℕ) → to ≤ i → length bank ≤ entry_length * i → record { bank = bank; logs = logs } ≡ left bank logs c i to
  left_last bank logs c i to h l =
      sym
      (ap (λ (es : List (List ℕ)). record { bank = take (entry_length * i) bank ++ (in_turn M sheet roms schedules logs c es).bank; logs = (in_turn M sheet roms schedules logs c es).logs }) (span_none bank i to h)
      ∙ ap {B = Served} (λ (z : List ℕ). record { bank = z; logs = logs }) (append-nil (take (entry_length * i) bank) ∙ take_all (entry_length * i) bank l))

  -- the entry i has had its turn
  pub left_next : (bank logs : List ℕ) (c : Course) (i to : ℕ) → i < to → entry_length * i + entry_length ≤ length bank → (e : List ℕ)
      → e ≡ entry_after (part bank (entry_length * i) entry_length) (turn_answer M sheet roms schedules logs (part bank (entry_length * i) entry_length) c)
      → length e ≡ entry_length → {b : List ℕ} → b ≡ take (entry_length * i) bank ++ (e ++ drop entry_length (drop (entry_length * i) bank))
      → left b (turn_logs M sheet roms schedules logs (part bank (entry_length * i) entry_length) c) (after_of c (entry_needs (part bank (entry_length * i) entry_length))) (i + 1) to
      ≡ left bank logs c i to
  left_next bank logs c i to h fits e same l {b} p =
      let at : ℕ = entry_length * i in
      let own : List ℕ = part bank at entry_length in
      let logs' : List ℕ = turn_logs M sheet roms schedules logs own c in
      let c' : Course = after_of c (entry_needs own) in
      let parts = put_entry_front bank e at (omega (arith, fits)) l p in
      let next : at + entry_length ≡ entry_length * (i + 1) = omega arith in
      let front : take (entry_length * (i + 1)) b ≡ take at bank ++ e = ap (λ (k : ℕ). take k b) (sym next) ∙ parts.0 in
      let back : drop (entry_length * (i + 1)) b ≡ drop (entry_length * (i + 1)) bank
      = ap (λ (k : ℕ). drop k b) (sym next) ∙ parts.1 ∙ ap (λ (k : ℕ). drop k bank) next in
      let others : span b (i + 1) to ≡ span bank (i + 1) to = ap (λ (z : List ℕ). entries_of (to - (i + 1)) z) back in
      let rest : Served = in_turn M sheet roms schedules logs' c' (span bank (i + 1) to) in
      ap₂ {C = Served} (λ (z : List ℕ) (es : List (List ℕ)). record { bank = z ++ (in_turn M sheet roms schedules logs' c' es).bank; logs = (in_turn M sheet roms schedules logs' c' es).logs }) front others
      ∙ ap {B = Served} (λ (z : List ℕ). record { bank = z; logs = rest.logs })
      (append_assoc (take at bank) e rest.bank ∙ ap (λ (z : List ℕ). take at bank ++ (z ++ rest.bank)) same)
      ∙ sym (ap (λ (es : List (List ℕ)). record { bank = take at bank ++ (in_turn M sheet roms schedules logs c es).bank; logs = (in_turn M sheet roms schedules logs c es).logs }) (span_cons bank i to h))
