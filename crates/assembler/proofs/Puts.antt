-- Bytes put to the ROM, by the tests of the code. Assumes nothing.
use mathlib.Core.Path.{◌≡◌, ◌∙◌, refl, sym, ap, ap₂, subst}
use mathlib.Core.Bool.{Bool, true, false, cond, not}
use mathlib.Core.List.{List, [], ◌∷◌}
use Prim.Native.Nat.{ℕ, zero, suc, ◌+◌, ◌<◌, ◌≤◌}
use native.Mathlib.Numerals.{add-one}
use native.Mathlib.Omega.{arith}
use lib.Dec.{T, eqb, ltb}
use lib.ListN.{length, get_or, take, drop, set, drop_of_length-le}
use lib.Seq.{drop-cons}
use Rattle.std.proofs.lemmas.List.{get_or-set_other}
use borrow.Author.Tests.{ltb-true, ltb-false, le-leb, lt-leb, eq-eqb, ne_eqb}
use Rattle.assembly.specs.Assembling.{Assembled, assembled_from, filled, State, Step, Coded, coded, first_of, gives, action_for, behind_text, labelled, done_by, step, given_twice, placed, put}
use Rattle.assembly.specs.Grammar.{Line}
use Rattle.assembly.specs.Places.{is_there}
use Rattle.mnemonics.specs.Mnemonics.{Kind}
use Rattle.assembler.proofs.Numbers.{first_some}

-- a state behind a statement
abbrev pub state_at : ℕ → ℕ → List ℕ → State
state_at at size cells = record { at = at; size = size; begun = true; cells = cells }

-- whether a cell has a byte
given_first : (cells : List ℕ) (at b : ℕ) (rest : List ℕ) → (get_or cells at 0 ≡ 256 → ⊥) → given_twice cells at (b ∷ rest) ≡ true
unfolding given_twice
given_first cells at b rest h = ap (λ (t : Bool). cond t (given_twice cells (suc at) rest) true) (ne_eqb (get_or cells at 0) 256 h)

given_rest : (cells : List ℕ) (at b : ℕ) (rest : List ℕ) → get_or cells at 0 ≡ 256 → given_twice cells at (b ∷ rest) ≡ given_twice cells (suc at) rest
unfolding given_twice
given_rest cells at b rest h = ap (λ (t : Bool). cond t (given_twice cells (suc at) rest) true) (eq-eqb (get_or cells at 0) 256 h)

given_none : (cells : List ℕ) (at : ℕ) → given_twice cells at [] ≡ false
unfolding given_twice
given_none cells at = refl

module _ (s : State) (bytes : List ℕ) where
  pub put_beyond : ltb s.size (s.at + length bytes) ≡ true → 11 ≡ (put s bytes).mistake
  unfolding put
  put_beyond h = sym (ap (λ (t : Bool). cond t (cond (given_twice s.cells s.at bytes) 12 0) 11) (lt-leb (s.at + length bytes) s.size (ltb-true s.size (s.at + length bytes) h)))

  pub put_within : {t : Bool} → ltb s.size (s.at + length bytes) ≡ false → given_twice s.cells s.at bytes ≡ t → cond t 12 0 ≡ (put s bytes).mistake
  unfolding put
  put_within {t} h g =
      ap (λ (b : Bool). cond b 12 0) (sym g)
      ∙ sym (ap (λ (b : Bool). cond b (cond (given_twice s.cells s.at bytes) 12 0) 11) (le-leb (s.at + length bytes) s.size (ltb-false s.size (s.at + length bytes) h)))

  pub put_leaves : record { at = s.at + length bytes; size = s.size; begun = true; cells = placed s.cells s.at bytes } ≡ (put s bytes).state
  unfolding put
  put_leaves = refl

-- what stands in front of an address doesn't say whether a byte is given there
given_behind : (cells : List ℕ) (at b j : ℕ) (bytes : List ℕ) → at < j → given_twice (set cells at b) j bytes ≡ given_twice cells j bytes
unfolding given_twice
given_behind cells at b j [] h = refl
given_behind cells at b j (c ∷ t) h =
    ap₂ (λ (n : ℕ) (g : Bool). cond (eqb n 256) g true) (get_or-set_other cells at j b 0 (λ e. omega (arith, h, e)))
    (given_behind cells at b (suc j) t (omega (arith, h)))

-- THE BYTES FROM A PLACE ON, behind those that are put

module _ (cells : List ℕ) (at : ℕ) (bytes : List ℕ) (i : ℕ) (h : i < length bytes) where
  pub rest_twice : (get_or cells at 0 ≡ 256 → ⊥) → given_twice cells at (drop i bytes) ≡ true
  rest_twice g = ap (given_twice cells at) (drop-cons bytes i 0 h) ∙ given_first cells at (get_or bytes i 0) (drop (suc i) bytes) g

  pub rest_given : get_or cells at 0 ≡ 256 → given_twice (set cells at (get_or bytes i 0)) (at + 1) (drop (i + 1) bytes) ≡ given_twice cells at (drop i bytes)
  rest_given g =
      rw (add-one at, add-one i)
      (given_behind cells at (get_or bytes i 0) (suc at) (drop (suc i) bytes) (omega arith)
      ∙ sym (given_rest cells at (get_or bytes i 0) (drop (suc i) bytes) g) ∙ sym (ap (given_twice cells at) (drop-cons bytes i 0 h)))

  pub rest_placed : placed (set cells at (get_or bytes i 0)) (at + 1) (drop (i + 1) bytes) ≡ placed cells at (drop i bytes)
  unfolding placed
  rest_placed = rw (add-one at, add-one i) (sym (ap (placed cells at) (drop-cons bytes i 0 h)))

pub rest_shorter : (at : ℕ) (bytes : List ℕ) (i : ℕ) → i < length bytes → at + 1 + length (drop (i + 1) bytes) ≡ at + length (drop i bytes)
rest_shorter at bytes i h =
    let one : length (drop i bytes) ≡ suc (length (drop (suc i) bytes)) = ap (λ (l : List ℕ). length l) (drop-cons bytes i 0 h) in
    rw (add-one i) (omega (arith, one))

-- all bytes are put
module _ (s : State) (bytes : List ℕ) (h : ltb s.size (s.at + length bytes) ≡ false) (cells : List ℕ) (at i : ℕ) (e : length bytes ≤ i) where
  none : drop i bytes ≡ []
  none = drop_of_length-le bytes e

  pub put_good : given_twice cells at (drop i bytes) ≡ given_twice s.cells s.at bytes → 0 ≡ (put s bytes).mistake
  put_good g =
      let free : given_twice cells at [] ≡ given_twice s.cells s.at bytes = ap (given_twice cells at) (sym none) ∙ g in
      put_within s bytes h (sym free ∙ given_none cells at)

  pub put_state : placed cells at (drop i bytes) ≡ placed s.cells s.at bytes → at + length (drop i bytes) ≡ s.at + length bytes
      → state_at at s.size cells ≡ (put s bytes).state
  unfolding placed
  put_state g k =
      let all : cells ≡ placed s.cells s.at bytes = ap (placed cells at) (sym none) ∙ g in
      let end : at ≡ s.at + length bytes = omega (arith, k, ap (λ (l : List ℕ). length l) none) in
      ap₂ (λ (n : ℕ) (l : List ℕ). state_at n s.size l) end all ∙ put_leaves s bytes

-- a word that gives bytes
module _ (k : Kind) (first : ℕ) (lines : List Line) (operand : List ℕ) (s : State) where
  abbrev c : Coded
  c = coded k first lines operand s.at

  pub give_fail : {m : ℕ} → (m ≡ 0 → ⊥) → m ≡ c.mistake → m ≡ (done_by (gives k first) lines operand s).mistake
  give_fail {m} h e = first_some m (put s c.bytes).mistake h ∙ ap (λ (n : ℕ). first_of n (put s c.bytes).mistake) e

  pub give_same : {l : List ℕ} → 0 ≡ c.mistake → l ≡ c.bytes → put s l ≡ done_by (gives k first) lines operand s
  give_same e f = ap₂ (λ (m : ℕ) (l : List ℕ). record { mistake = first_of m (put s l).mistake; state = (put s l).state }) e f

-- a line
behind_there : (m : List ℕ) → is_there m ≡ true → behind_text m ≡ 1
behind_there [] e = absurd (no_true e)
  where
    no_true : false ≡ true → ⊥
    no_true e = subst (λ (b : Bool). T (not b)) e tt
behind_there (c ∷ t) e = refl

behind_none : (m : List ℕ) → is_there m ≡ false → behind_text m ≡ 0
behind_none [] e = refl
behind_none (c ∷ t) e = absurd (no_false e)
  where
    no_false : true ≡ false → ⊥
    no_false e = subst T e tt

module _ (lines : List Line) (s : State) (l : Line) where
  abbrev stated : Step
  stated = done_by (action_for l.word) lines l.operand s

  pub step_more : is_there l.more ≡ true → 1 ≡ (step lines s l).mistake
  unfolding step
  step_more h = sym (ap (λ (k : ℕ). first_of k (first_of (labelled lines l.label s.at) stated.mistake)) (behind_there l.more h))

  module _ (h : is_there l.more ≡ false) where
    pub step_label : {w : ℕ} → w ≡ labelled lines l.label s.at → (w ≡ 0 → ⊥) → w ≡ (step lines s l).mistake
    unfolding step
    step_label {w} e n =
        first_some w stated.mistake n ∙ ap (λ (k : ℕ). first_of k stated.mistake) e
        ∙ sym (ap (λ (k : ℕ). first_of k (first_of (labelled lines l.label s.at) stated.mistake)) (behind_none l.more h))

    pub step_same : 0 ≡ labelled lines l.label s.at → stated ≡ step lines s l
    unfolding step
    step_same e = ap₂ (λ (m n : ℕ). record { mistake = first_of m (first_of n stated.mistake); state = stated.state }) (sym (behind_none l.more h)) e

-- THE LINES, ONE AFTER THE OTHER

abbrev pub starting : List ℕ → State
starting cells = record { at = 0; size = 2000; begun = false; cells = cells }

abbrev pub answered : ℕ → ℕ → List ℕ → Assembled
answered m n l = record { mistake = m; line = n; bytes = l }

module _ (lines : List Line) (n : ℕ) (s : State) (l : Line) (ls : List Line) where
  abbrev taken_by : ℕ → Assembled
  taken_by m = elim m [ zero ↦ assembled_from lines (suc n) (step lines s l).state ls | suc k ↦ record { mistake = suc k; line = n; bytes = [] } ]

  taken : taken_by (step lines s l).mistake ≡ assembled_from lines n s (l ∷ ls)
  unfolding assembled_from
  taken = refl

  pub line_good : {m : ℕ} → m ≡ (step lines s l).mistake → m ≡ 0 → {t : State} → t ≡ (step lines s l).state → assembled_from lines (n + 1) t ls ≡ assembled_from lines n s (l ∷ ls)
  line_good {m} e z {t} f =
      ap (λ (k : ℕ). assembled_from lines k t ls) (add-one n) ∙ ap (λ (u : State). assembled_from lines (suc n) u ls) f
      ∙ sym (ap taken_by (sym e ∙ z)) ∙ taken

  failed : (k : ℕ) → (k ≡ 0 → ⊥) → record { mistake = k; line = n; bytes = [] } ≡ taken_by k
  failed zero h = absurd (h refl)
  failed (suc k) h = refl

  pub line_fails : {m : ℕ} → m ≡ (step lines s l).mistake → (m ≡ 0 → ⊥) → record { mistake = m; line = n; bytes = [] } ≡ assembled_from lines n s (l ∷ ls)
  line_fails {m} e h = failed m h ∙ ap taken_by e ∙ taken

pub lines_done : (lines : List Line) (n : ℕ) (s : State) → record { mistake = 0; line = 0; bytes = take s.size (filled s.cells) } ≡ assembled_from lines n s []
unfolding assembled_from
lines_done lines n s = refl
