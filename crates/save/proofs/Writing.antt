-- Part behind part: what the stores of a save leave in the buffer. Assumes nothing.
use mathlib.Core.Path.{◌≡◌, ◌∙◌, refl, sym, ap}
use mathlib.Core.Bool.{true, false}
use mathlib.Core.List.{List, [], ◌∷◌, ◌++◌, append-nil}
use Prim.Native.Nat.{ℕ, zero, suc, ◌+◌, ◌*◌, ◌/◌, ◌%◌, ◌≤◌, ◌<◌}
use native.Mathlib.Nat.{div-one}
use native.Mathlib.Omega.{arith}
use lib.ListN.{length, take, drop, length-append}
use Rattle.runs.specs.declared.Version.{Version}
use Rattle.runs.specs.declared.Version.TheVariants.{One, Two}
use Rattle.runs.specs.TwoRunners.{save_number, save_answer}
use Rattle.runs.specs.Refusals.{first_of, unless}
use Rattle.upd546.specs.declared.Core.{Core}
use Rattle.upd546.specs.declared.State.{State}
use Rattle.upd546.specs.declared.Sheet.{Sheet}
use Rattle.upd546.specs.TheSheet.{sheet_number}
use Rattle.upd546.specs.Bytes.{bytes_of}
use Rattle.upd546.specs.StateImage.{image_length, image_mark, version_bytes, words_bytes, core_bytes, packed, image_of, state_number, version_number}
use Rattle.upd546.specs.TwoRunners.{chip}
use Rattle.laws.specs.Valid.{ValidCore, Valid}
use Rattle.laws.proofs.Tails.{put_next}
use Rattle.laws.proofs.Packing.{words_length, length-packed}
use Rattle.save.specs.Parts.{front_bytes, common_bytes, holds}
use borrow.Author.Tests.{le-leb, lt-leb}

-- b' is b with the bytes x from a place on
abbrev pub Put : List ℕ → ℕ → List ℕ → List ℕ → Type 0
Put b a x b' = b' ≡ take a b ++ x ++ drop (a + length x) b

-- std's bytes of a word are those of the definition
pub word_written : (w : ℕ) {x : List ℕ} → x ≡ (w / 256 % 256) ∷ (w % 256) ∷ [] → x ≡ bytes_of 2 w
word_written w e = e ∙ rw (div-one w)

stack_length : (c : Core) → ValidCore c → length (words_bytes c.flow.stack) ≡ 6
stack_length c v = words_length c.flow.stack ∙ ap (λ (k : ℕ). 2 * k) v.stack.depth

module _ (version : Version) where
  front_length : (c : Core) → ValidCore c → length (front_bytes version c) ≡ 20
  front_length c v = omega (arith, length-append (words_bytes c.flow.stack) (core_bytes c), stack_length c v)

  pub front_written : (c : Core) → ValidCore c → (b₀ : List ℕ) {b₁ b₂ b₃ b₄ b₅ : List ℕ}
      → Put b₀ 0 image_mark b₁ → Put b₁ 3 (version_bytes version) b₂
      → Put b₂ 5 (bytes_of 2 c.flow.pc) b₃ → Put b₃ 7 (words_bytes c.flow.stack) b₄ → Put b₄ 13 (core_bytes c) b₅
      → b₅ ≡ front_bytes version c ++ drop 20 b₀
  front_written c v b₀ {b₁} {b₂} {b₃} {b₄} p₁ p₂ p₃ p₄ p₅ =
      let six = stack_length c v in
      let e₁ = put_next b₀ b₀ [] image_mark 0 refl refl p₁ in
      let e₂ = put_next b₀ b₁ image_mark (version_bytes version) 3 refl e₁ p₂ in
      let e₃ = put_next b₀ b₂ (image_mark ++ version_bytes version) (bytes_of 2 c.flow.pc) 5 refl e₂ p₃ in
      let w = image_mark ++ version_bytes version ++ bytes_of 2 c.flow.pc in
      let e₄ : b₄ ≡ w ++ words_bytes c.flow.stack ++ drop 13 b₀ = put_next b₀ b₃ w (words_bytes c.flow.stack) 7 refl e₃ p₄ ∙ rw six in
      put_next b₀ b₄ (w ++ words_bytes c.flow.stack) (core_bytes c) 13 (omega (arith, six)) e₄ p₅

  module _ (s : State) (v : Valid s) where
    -- what stands before the cycle number
    abbrev up_to_ram : List ℕ
    up_to_ram = front_bytes version s.core ++ s.ports ++ packed s.ram

    ram_length : length up_to_ram ≡ 75
    ram_length =
        let front = front_bytes version s.core in
        length-append (front ++ s.ports) (packed s.ram)
        ∙ omega
        (arith, length-append front s.ports, front_length s.core v.core, v.ports.count, length-packed 48 s.ram v.ram.count)

    pub common_written : (b₀ : List ℕ) {b₁ b₂ b₃ b₄ : List ℕ} → b₁ ≡ front_bytes version s.core ++ drop 20 b₀ → Put b₁ 20 s.ports b₂
        → Put b₂ 27 (packed s.ram) b₃ → Put b₃ 75 (bytes_of 6 s.cycle.0) b₄ → b₄ ≡ common_bytes version s ++ drop (image_length One) b₀
    common_written b₀ {b₁} {b₂} {b₃} e₁ p₂ p₃ p₄ =
        let front = front_bytes version s.core in
        let twenty = front_length s.core v.core in
        let seven : length (front ++ s.ports) ≡ 27 = length-append front s.ports ∙ omega (arith, twenty, v.ports.count) in
        let e₂ : b₂ ≡ front ++ s.ports ++ drop 27 b₀ = put_next b₀ b₁ front s.ports 20 twenty e₁ p₂ ∙ rw v.ports.count in
        let e₃ : b₃ ≡ front ++ s.ports ++ packed s.ram ++ drop 75 b₀ =
        put_next b₀ b₂ (front ++ s.ports) (packed s.ram) 27 seven e₂ p₃ ∙ rw (length-packed 48 s.ram v.ram.count) in
        put_next b₀ b₃ up_to_ram (bytes_of 6 s.cycle.0) 75 ram_length e₃ p₄

    common_length : length (common_bytes version s) ≡ image_length One
    common_length = length-append up_to_ram (bytes_of 6 s.cycle.0) ∙ omega (arith, ram_length)

-- WHAT STANDS BEHIND THE CYCLE NUMBER

-- either version has all that version 1 has
pub one_least : (v : Version) → image_length One ≤ image_length v
one_least One = omega arith
one_least Two = omega arith

pub one_written : (s : State) (b₀ : List ℕ) {b : List ℕ} → b ≡ common_bytes One s ++ drop (image_length One) b₀
    → b ≡ image_of One s ++ drop (image_length One) b₀
unfolding image_of
one_written s b₀ e = e ∙ ap (λ (l : List ℕ). l ++ drop (image_length One) b₀) (sym (append-nil (common_bytes One s)))

pub two_written : (s : State) → Valid s → (b₀ : List ℕ) {b₁ b₂ : List ℕ} → b₁ ≡ common_bytes Two s ++ drop (image_length One) b₀
    → Put b₁ 81 (s.count ∷ []) b₂ → b₂ ≡ image_of Two s ++ drop (image_length Two) b₀
unfolding image_of
two_written s v b₀ {b₁} e p = put_next b₀ b₁ (common_bytes Two s) (s.count ∷ []) 81 (common_length Two s v) e p

-- WHAT A SAVE ANSWERS
module _ (sheet : Sheet) (version : Version) (s : State) (buffer : List ℕ) where
  pub save_illegal : (k : ℕ) → k ≡ sheet_number sheet → (k ≡ 0 → ⊥)
      → record { number = k; buffer = buffer } ≡ save_answer (chip sheet) version s buffer
  unfolding save_answer save_number first_of
  save_illegal zero e h = absurd (h refl)
  save_illegal (suc k) e h = rw (← e)

  module _ (legal : sheet_number sheet ≡ 0) where
    pub save_refused : (k : ℕ) → k ≡ state_number sheet s → (k ≡ 0 → ⊥)
        → record { number = k; buffer = buffer } ≡ save_answer (chip sheet) version s buffer
    unfolding save_answer save_number first_of
    save_refused zero e h = absurd (h refl)
    save_refused (suc k) e h = rw (legal, ← e)

    held_number : version_number version s ≡ unless (holds version s.count) 54
    unfolding version_number
    held_number = go version
      where
        go : (v : Version) → version_number v s ≡ unless (holds v s.count) 54
        go One = refl
        go Two = refl

    module _ (v : state_number sheet s ≡ 0) where
      pub save_old : holds version s.count ≡ false → record { number = 54; buffer = buffer } ≡ save_answer (chip sheet) version s buffer
      unfolding save_answer save_number first_of
      save_old h = rw (legal, v, held_number, h)

      module _ (held : holds version s.count ≡ true) where
        pub save_short : length buffer < image_length version
            → record { number = 1; buffer = buffer } ≡ save_answer (chip sheet) version s buffer
        unfolding save_answer save_number first_of
        save_short h = rw (legal, v, held_number, held, lt-leb (image_length version) (length buffer) h)

        pub save_done : image_length version ≤ length buffer → {b : List ℕ} → b ≡ image_of version s ++ drop (image_length version) buffer
            → record { number = 0; buffer = b } ≡ save_answer (chip sheet) version s buffer
        unfolding save_answer save_number first_of
        save_done h e = rw (legal, v, held_number, held, le-leb (image_length version) (length buffer) h, e)
