-- How the lines of a panel's text are put together. Assumes nothing.
use mathlib.Core.Path.{◌≡◌, ◌∙◌, refl, sym, ap}
use mathlib.Core.List.{List, [], ◌∷◌, ◌++◌, append_assoc}
use Prim.Native.Nat.{ℕ, zero, suc, ◌+◌, ◌*◌, ◌/◌, ◌%◌, ◌<◌, ◌≤◌}
use native.Mathlib.Numerals.{add-one}
use native.Mathlib.Omega.{arith}
use lib.ListN.{length, get_or, take, drop, length-take, length-drop, take-append-drop}
use lib.Seq.{drop-drop, take-append-le}
use Rattle.std.specs.Simd.{first_chunks}
use Rattle.std.proofs.lemmas.List.{get_or-take, get_or-drop}
use Rattle.upd546.specs.Bytes.{number_of, number_at}
use Rattle.upd546.specs.Reports.{decimal, port_letter, hex_digit, space, newline, end_word, record_text, records_text}
use Rattle.trace_text.specs.Writing.{end_line}

-- a record's line, of a number and four bytes
pub line_same : (log : List ℕ) (i : ℕ) {n letter digit : ℕ} → n ≡ number_at log (8 * i) 6 → letter ≡ port_letter (get_or log (8 * i + 6) 0)
    → get_or log (8 * i + 7) 0 < 16 → digit ≡ hex_digit (get_or log (8 * i + 7) 0 % 16)
    → decimal n ++ space ++ (letter ∷ 32 ∷ digit ∷ 10 ∷ []) ≡ record_text log i
line_same log i p q h r =
    let low : get_or log (8 * i + 7) 0 % 16 ≡ get_or log (8 * i + 7) 0 = omega (arith, h) in
    rw (p, q, r, low) (regroup (decimal (number_at log (8 * i) 6)) _ _)
  where
    regroup : (d : List ℕ) (l h : ℕ) → d ++ space ++ (l ∷ 32 ∷ h ∷ 10 ∷ []) ≡ d ++ space ++ (l ∷ []) ++ space ++ (h ∷ []) ++ newline
    regroup d l h = simp append_assoc

-- a record of the log is eight bytes of it
chunk_is : (k i : ℕ) (log : List ℕ) → i < k → get_or (first_chunks 8 k log) i [] ≡ take 8 (drop (8 * i) log)
chunk_is zero i log h = absurd (omega arith)
chunk_is (suc k) zero log h = refl
chunk_is (suc k) (suc i) log h =
    let far : 8 + 8 * i ≡ 8 * suc i = omega arith in
    chunk_is k i (drop 8 log) (omega arith) ∙ ap (take 8) (drop-drop (8 * i) 8 log ∙ ap (λ (n : ℕ). drop n log) far)

pub chunk_at : (log : List ℕ) (count i : ℕ) {chunks : List (List ℕ)} → chunks ≡ first_chunks 8 (length log / 8) log → i < count → 8 * count ≤ length log
    → get_or (take count chunks) i [] ≡ take 8 (drop (8 * i) log)
chunk_at log count i {chunks} e h k =
    get_or-take count chunks i [] h ∙ ap (λ (z : List (List ℕ)). get_or z i []) e ∙ chunk_is (length log / 8) i log (omega arith)

module _ (log : List ℕ) (i : ℕ) where
  pub port_of : get_or (take 8 (drop (8 * i) log)) 6 0 ≡ get_or log (8 * i + 6) 0
  port_of = get_or-take 8 (drop (8 * i) log) 6 0 (omega arith) ∙ get_or-drop (8 * i) log 6 0

  pub value_of : get_or (take 8 (drop (8 * i) log)) 7 0 ≡ get_or log (8 * i + 7) 0
  value_of = get_or-take 8 (drop (8 * i) log) 7 0 (omega arith) ∙ get_or-drop (8 * i) log 7 0

  cycle_of : 8 * i + 8 ≤ length log → number_at (take 8 (drop (8 * i) log)) 0 6 ≡ number_at log (8 * i) 6
  cycle_of h =
      let rest = drop (8 * i) log in
      let eight : 6 ≤ length (take 8 rest) = omega (arith, length-take 8 rest, length-drop (8 * i) log, h) in
      ap number_of (sym (take-append-le 6 (take 8 rest) (drop 8 rest) eight) ∙ ap (take 6) (take-append-drop 8 rest))

  -- and its line is that of the record in the log
  pub same_record : {bytes : List ℕ} → bytes ≡ take 8 (drop (8 * i) log) → 8 * i + 8 ≤ length log → record_text bytes 0 ≡ record_text log i
  same_record e h =
      ap (λ (r : List ℕ). record_text r 0) e
      ∙ λ j. decimal (cycle_of h j) ++ space ++ (port_letter (port_of j) ∷ []) ++ space ++ (hex_digit (value_of j) ∷ []) ++ newline

-- a word, and numbers with a byte behind each
pub end_same : (cycles begun k : ℕ)
    → end_word ++ space ++ (decimal cycles ++ space) ++ (decimal begun ++ space) ++ (decimal k ++ newline) ≡ end_line cycles begun k
end_same cycles begun k = regroup (end_word ++ space) (decimal cycles) space (decimal begun) space (decimal k) newline
  where
    regroup : (a b c d e f g : List ℕ) → a ++ (b ++ c) ++ (d ++ e) ++ (f ++ g) ≡ a ++ b ++ c ++ d ++ e ++ f ++ g
    regroup a b c d e f g = simp append_assoc

-- one line more
pub next_line : (log : List ℕ) (i : ℕ) → records_text log i ++ record_text log i ≡ records_text log (i + 1)
unfolding records_text
next_line log i = rw (add-one i)

pub no_lines : (log : List ℕ) → [] ≡ records_text log 0
unfolding records_text
no_lines log = refl
