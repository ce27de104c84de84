-- What a turn leaves in an entry. Assumes nothing.
use mathlib.Core.Path.{◌≡◌, ◌∙◌, sym, ap}
use mathlib.Core.List.{List, [], ◌∷◌, ◌++◌}
use Prim.Native.Nat.{ℕ, ◌+◌}
use native.Mathlib.Omega.{arith}
use lib.ListN.{length, get_or, set, take, drop, length-append, drop_of_length-le}
use lib.Seq.{length-take-le, drop-cons, take-append-add, set_at}
use Rattle.runs.specs.Machine.{Machine}
use Rattle.upd546.specs.declared.Sheet.{Sheet}
use Rattle.calls.specs.Call.{BoardAnswer, report_length, board_answer}
use Rattle.bank_calls.specs.Entries.{image_bytes, needs_bytes, report_at, number_place, entry_length, own_call, own_answer, entry_after}

-- a report is put into an entry, and a number behind it
pub told_put : (entry report : List ℕ) (k : ℕ) → length entry ≡ entry_length → length report ≡ report_length → {b : List ℕ}
    → b ≡ take report_at entry ++ report ++ drop (report_at + length report) entry → set b number_place k ≡ take report_at entry ++ report ++ k ∷ []
told_put entry report k h l {b} e =
    let front : length (take report_at entry ++ report) ≡ number_place
    = omega (arith, length-append (take report_at entry) report, length-take-le report_at entry (omega (arith, h)), l) in
    let last : drop (report_at + length report) entry ≡ get_or entry number_place 0 ∷ []
    = ap (λ (n : ℕ). drop (report_at + n) entry) l
    ∙ drop-cons entry number_place 0 (omega (arith, h))
    ∙ ap (λ (z : List ℕ). get_or entry number_place 0 ∷ z) (drop_of_length-le entry {i = entry_length} (omega (arith, h))) in
    ap (λ (z : List ℕ). set z number_place k) (e ∙ ap (λ (z : List ℕ). take report_at entry ++ report ++ z) last)
    ∙ set_at (take report_at entry ++ report) (get_or entry number_place 0) [] k number_place front

-- an image is put before what an entry has behind it, and then what the call tells
pub turned : (entry : List ℕ) (a : BoardAnswer) → length a.image ≡ image_bytes → {b : List ℕ}
    → b ≡ take report_at (a.image ++ drop image_bytes entry) ++ a.report ++ a.number ∷ [] → b ≡ entry_after entry a
unfolding entry_after
turned entry a l e =
    e
    ∙ ap (λ (z : List ℕ). z ++ a.report ++ a.number ∷ [])
    (ap (λ (n : ℕ). take (n + needs_bytes) (a.image ++ drop image_bytes entry)) (sym l) ∙ take-append-add a.image (drop image_bytes entry) needs_bytes)

module _ {S : Type 0} (M : Sheet → Machine S) (sheet : Sheet) (entry rom sched log : List ℕ) (n : ℕ) where
  -- the board's call has answered
  pub turn_done : (a : BoardAnswer) → a ≡ board_answer M (own_call M sheet entry rom sched log n) → length a.image ≡ image_bytes → {b : List ℕ}
      → b ≡ take report_at (a.image ++ drop image_bytes entry) ++ a.report ++ a.number ∷ []
      → (b ≡ entry_after entry (own_answer M sheet entry rom sched log n)) × (a.log ≡ (own_answer M sheet entry rom sched log n).log)
  unfolding own_answer
  turn_done a same l e = (turned entry a l e ∙ ap (entry_after entry) same, ap (λ (z : BoardAnswer). z.log) same)
