-- How the text of a report is put together. Assumes nothing.
use mathlib.Core.Path.{◌≡◌, ◌∙◌, refl, sym, ap}
use mathlib.Core.List.{List, [], ◌∷◌, ◌++◌, append_assoc, append-nil}
use Prim.Native.Nat.{ℕ, zero, suc, ◌+◌, ◌<◌, ◌≤◌}
use native.Mathlib.Omega.{arith}
use native.Mathlib.Numerals.{add-one}
use lib.ListN.{length, get_or, take}
use Rattle.std.proofs.lemmas.List.{take_all}
use Rattle.upd546.specs.Reports.{decimal, space, newline, refused_text}
use Rattle.text.specs.declared.Text.{Text}
use Rattle.text.specs.Writing.{Pushed}
use Rattle.text.proofs.Writing.{at_front, counted}
use Rattle.waiting.specs.declared.Landing.{Landing}
use Rattle.waiting.specs.declared.Carried.{Carried}
use Rattle.waiting.specs.declared.Reading.{Reading}
use Rattle.waiting.specs.WaitingTimes.{no_waits}
use Rattle.waits_text.specs.Texts.{waits_heading, landing_text, landings_text, waits_report, on_refusal, waits_text, Reported}

-- five numbers, with a byte behind each
pub line_same : (i : ℕ) (l : Landing)
    → decimal i ++ space ++ (decimal l.closed ++ space) ++ (decimal l.cycles.0 ++ space) ++ (decimal l.longest.0 ++ space) ++ (decimal l.mark ++ newline)
    ≡ landing_text i l
line_same i l = regroup (decimal i) (decimal l.closed) (decimal l.cycles.0) (decimal l.longest.0) (decimal l.mark) space newline
  where
    regroup : (a b c d e s n : List ℕ) → a ++ s ++ (b ++ s) ++ (c ++ s) ++ (d ++ s) ++ (e ++ n) ≡ a ++ s ++ b ++ s ++ c ++ s ++ d ++ s ++ e ++ n
    regroup a b c d e s n = simp append_assoc

-- one line more, with number m
lines_more : (i k m : ℕ) (ls : List Landing) → k < length ls → i + k ≡ m
    → landings_text i (take k ls) ++ landing_text m (get_or ls k no_waits) ≡ landings_text i (take (suc k) ls)
lines_more i k m [] h e = absurd (omega arith)
lines_more i zero m (l ∷ ls) h e =
    let same : m ≡ i = omega (arith, e) in
    rw same (sym (append-nil (landing_text i l)))
lines_more i (suc k) m (l ∷ ls) h e =
    append_assoc (landing_text i l) (landings_text (suc i) (take k ls)) (landing_text m (get_or ls k no_waits))
    ∙ ap (λ (t : List ℕ). landing_text i l ++ t) (lines_more (suc i) k m ls (omega arith) (omega (arith, e)))

pub report_more : (k : ℕ) (ls : List Landing) → k < length ls
    → waits_heading ++ newline ++ landings_text 0 (take k ls) ++ landing_text k (get_or ls k no_waits)
    ≡ waits_heading ++ newline ++ landings_text 0 (take (k + 1) ls)
report_more k ls h =
    append_assoc (waits_heading ++ newline) (landings_text 0 (take k ls)) (landing_text k (get_or ls k no_waits))
    ∙ ap (λ (t : List ℕ). waits_heading ++ newline ++ t) (rw (add-one k) (lines_more 0 k k ls h (omega arith)))

-- all lines
pub report_whole : (k : ℕ) (c : Carried) → length c.landings ≤ k → waits_heading ++ newline ++ landings_text 0 (take k c.landings) ≡ waits_report c
unfolding waits_report
report_whole k c h = rw (take_all k c.landings h)

-- the text of a reading
pub refused-reading : (r : Reading) → (r.number ≡ 0 → ⊥) → refused_text r.number ≡ waits_text r
unfolding waits_text
refused-reading r h = go r.number h
  where
    go : (k : ℕ) → (k ≡ 0 → ⊥) → refused_text k ≡ on_refusal k r.carried
    go zero h = absurd (h refl)
    go (suc k) h = refl

pub accepted-reading : (r : Reading) → r.number ≡ 0 → waits_report r.carried ≡ waits_text r
unfolding waits_text
accepted-reading r h = rw h

pub reported : {r : Reading} {t u : Text} {b : List ℕ} {n : ℕ} → t.buffer.now ≡ b → t.size ≡ 0 → Pushed t (waits_text r) u → n ≡ u.size
    → Reported r b u.buffer.now n
reported e z p l =
    let a = at_front e z p l in
    record { counts = counted a; size = omega (arith, a.ends); text = a.stands }
