-- How a line is put together of its columns, and what M is. Assumes nothing.
use mathlib.Core.Path.{◌≡◌, ◌∙◌, refl, sym, ap}
use mathlib.Core.List.{List, [], ◌∷◌, ◌++◌, append-nil}
use mathlib.Core.Bool.{Bool, true, false, cond, ◌&&◌}
use Prim.Native.Nat.{ℕ, ◌+◌, ◌*◌, ◌%◌, ◌<◌, ◌≤◌}
use native.Mathlib.Omega.{arith}
use lib.Dec.{eqb, ltb}
use lib.ListN.{length, get_or}
use borrow.Author.Tests.{lt-ltb, le-ltb, eq-eqb, ne_eqb}
use Rattle.upd546.specs.declared.Lines.{Lines}
use Rattle.upd546.specs.declared.State.{State}
use Rattle.upd546.specs.declared.Timer.{Timer}
use Rattle.upd546.specs.TheMachine.{place_in}
use Rattle.upd546.specs.TheSheet.{upd546_sheet}
use Rattle.upd546.specs.Timer.{ticks_left}
use Rattle.upd546.specs.Reports.{newline}
use Rattle.tables.specs.Tables.{row_table}
use Rattle.tables.proofs.Rows.{row_entry, row_column}
use Rattle.walk_text.specs.declared.Kind.{Kind}
use Rattle.walk_text.specs.declared.Kind.TheVariants.{Reset, Accepts, Owed, Skipped, Begins}
use Rattle.walk_text.specs.declared.Walked.{Walked}
use Rattle.walk_text.specs.Fields.{digit_of, cycle_column, ticks_column, timer_column, address_column, mark_column, register_columns, interrupt_columns, owed_column}
use Rattle.walk_text.specs.CycleLine.{doing_of, place_by, words_by, head_text, marks_text, out_text, outs_text, change_text, changes_text, line_text}

-- the place of the word at DP
pub place_same : (h l : ℕ) {rows : List ℕ} {k : ℕ} → rows ≡ row_table upd546_sheet → k ≡ get_or rows (h % 8) 0
    → k + l % 16 ≡ place_in upd546_sheet (16 * (h % 8) + l % 16)
place_same h l e f =
    ap (λ (z : ℕ). z + l % 16) (f ∙ ap (λ (z : List ℕ). get_or z (h % 8) 0) e ∙ row_entry upd546_sheet (h % 8) (omega arith))
    ∙ sym (row_column upd546_sheet (h % 8) (l % 16) (omega arith))

-- COLUMNS HAVE THEIR WIDTHS

pub registers_length : (s : State) → length (register_columns s) ≡ 11
unfolding register_columns
registers_length s = refl

pub interrupt_length : (s : State) → length (interrupt_columns s) ≡ 10
unfolding interrupt_columns
interrupt_length s = refl

pub owed_length : (s : State) → length (owed_column s) ≡ 7
unfolding owed_column
owed_length s = refl

pub mark_length : (mark : ℕ) → length (mark_column mark) ≡ 5
unfolding mark_column
mark_length mark = go (eqb mark 0) (eqb mark 1) (eqb mark 2) (eqb mark 3)
  where
    go : (a b c d : Bool) → length {A = ℕ} (cond a (111 ∷ 116 ∷ 104 ∷ 101 ∷ 114 ∷ []) (cond b (76 ∷ 68 ∷ 73 ∷ 32 ∷ 32 ∷ []) (cond c (69 ∷ 73 ∷ 32 ∷ 32 ∷ 32 ∷ []) (cond d (83 ∷ 84 ∷ 77 ∷ 32 ∷ 32 ∷ []) (76 ∷ 73 ∷ 32 ∷ 32 ∷ 32 ∷ []))))) ≡ 5
    go true b c d = refl
    go false true c d = refl
    go false false true d = refl
    go false false false true = refl
    go false false false false = refl

pub timer_length : (t : Timer) → length (timer_column t) ≡ 4
unfolding timer_column
timer_length t = go (ltb 0 t.register && ltb t.register 64) (eqb t.tm 0)
  where
    go : (a b : Bool) → length {A = ℕ} (cond a (ticks_column (ticks_left t)) (cond b (32 ∷ 32 ∷ 32 ∷ 45 ∷ []) (32 ∷ 32 ∷ 84 ∷ 77 ∷ []))) ≡ 4
    go true b = refl
    go false true = refl
    go false false = refl

pub cycle_length : (n : ℕ) → length (cycle_column n) ≡ 10
unfolding cycle_column
cycle_length n = refl

pub place_length : (kind : Kind) (pc : ℕ) → length (place_by kind pc) ≡ 5
unfolding address_column
place_length Reset pc = refl
place_length Accepts pc = refl
place_length Owed pc = refl
place_length Skipped pc = refl
place_length Begins pc = refl

-- THE PIECES OF A LINE

pub marks_same : (s : State) {c d e : List ℕ} → c ≡ mark_column s.core.mark → d ≡ owed_column s → e ≡ timer_column s.core.timer
    → c ++ d ++ e ≡ marks_text s
marks_same s r t u = rw (r, t, u)

pub head_same : (rom : List ℕ) (w : Walked) {a b c : List ℕ} {kind : Kind} → a ≡ cycle_column w.before.cycle.0
    → kind ≡ doing_of w → b ≡ place_by kind w.before.core.flow.pc → c ≡ words_by kind rom w.before.core.flow.pc
    → a ++ b ++ c ≡ head_text rom w
head_same rom w p q r t = rw (p, r, t, q)

-- a record of a reset, and a port's
pub out_none : (log : List ℕ) (i : ℕ) → get_or log (8 * i + 6) 0 ≡ 0 → [] ≡ out_text log i
unfolding out_text
out_none log i e = rw (eq-eqb (get_or log (8 * i + 6) 0) 0 e)

pub out_some : (log : List ℕ) (i : ℕ) {letter digit : ℕ} → (get_or log (8 * i + 6) 0 ≡ 0 → ⊥) → letter ≡ 65 + get_or log (8 * i + 6) 0 % 16
    → digit ≡ digit_of (get_or log (8 * i + 7) 0) → 32 ∷ 111 ∷ 117 ∷ 116 ∷ 32 ∷ letter ∷ 61 ∷ digit ∷ [] ≡ out_text log i
unfolding out_text
out_some log i n l e = rw (ne_eqb (get_or log (8 * i + 6) 0) 0 n, l, e)

-- none, one or two records
pub outs_none : (log : List ℕ) (written : ℕ) → written < 8 → [] ≡ outs_text log written
unfolding outs_text
outs_none log written h = rw (lt-ltb written 8 h)

pub outs_one : (log : List ℕ) (written : ℕ) → 8 ≤ written → written < 16 → out_text log 0 ≡ outs_text log written
unfolding outs_text
outs_one log written h k = rw (le-ltb written 8 h, lt-ltb written 16 k) (sym (append-nil (out_text log 0)))

pub outs_two : (log : List ℕ) (written : ℕ) → 8 ≤ written → 16 ≤ written → out_text log 0 ++ out_text log 1 ≡ outs_text log written
unfolding outs_text
outs_two log written h k = rw (le-ltb written 8 h, le-ltb written 16 k)

-- a line that stayed, and one that changed
pub change_none : (name : List ℕ) (last new : ℕ) → last ≡ new → [] ≡ change_text name last new
unfolding change_text
change_none name last new e = rw (eq-eqb last new e)

pub change_some : (name : List ℕ) (last new : ℕ) {digit : ℕ} → (last ≡ new → ⊥) → digit ≡ digit_of new
    → (32 ∷ 108 ∷ 105 ∷ 110 ∷ 101 ∷ 32 ∷ []) ++ name ++ (61 ∷ digit ∷ []) ≡ change_text name last new
unfolding change_text
change_some name last new n e = rw (ne_eqb last new n, e)

pub changes_same : (last new : Lines)
    → change_text (65 ∷ []) last.a new.a
    ++ change_text (66 ∷ []) last.b new.b
    ++ change_text (67 ∷ []) last.c new.c
    ++ change_text (68 ∷ []) last.d new.d
    ++ change_text (73 ∷ 78 ∷ 84 ∷ []) last.int new.int
    ++ change_text (82 ∷ 69 ∷ 83 ∷ []) last.res new.res
    ≡ changes_text last new
unfolding changes_text
changes_same last new = refl

-- the whole line
pub line_same : (rom : List ℕ) (w : Walked) (log : List ℕ) (written : ℕ)
    → head_text rom w
    ++ (register_columns w.after ++ interrupt_columns w.after)
    ++ marks_text w.after
    ++ outs_text log written
    ++ changes_text w.last w.lines
    ++ newline
    ≡ line_text rom w log written
unfolding line_text
line_same rom w log written = refl
