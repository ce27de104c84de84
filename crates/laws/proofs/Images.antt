-- Save and restore are exact both ways. Assumes nothing.
use mathlib.Core.Path.{◌≡◌, ◌∙◌, refl, sym, ap, ap₂, subst}
use mathlib.Core.Bool.{Bool, true, false, ◌&&◌}
use mathlib.Core.List.{List, [], ◌∷◌, ◌++◌, append_assoc}
use Prim.Native.Nat.{ℕ, zero, suc, ◌+◌, ◌-◌, ◌*◌, ◌/◌, ◌%◌, ◌<◌, ◌≤◌}
use native.Mathlib.Omega.{arith}
use lib.Dec.{eqb, ltb, eqb→eq}
use lib.ListN.{length, get_or, take, drop, length-append, take-append-drop, drop_of_length-le, get_or-eq_default}
use lib.Seq.{take-add, take_at, drop_at, drop-cons, get_or-append-add}
use borrow.Author.Tests.{eq-eqb, eqb-true, lt-ltb, ltb-true, le-leb}
use Rattle.runs.specs.declared.Version.{Version}
use Rattle.runs.specs.declared.Version.TheVariants.{One, Two}
use Rattle.runs.specs.TwoRunners.{save_number, save_answer, restore_number, restore_answer}
use Rattle.runs.specs.Refusals.{first_of, unless}
use Rattle.runs.specs.Laws.{Bytes}
use Rattle.runs.proofs.Refusals.{first_at, passes}
use Rattle.runs.proofs.Calls.{restore-number, restore-fit, fit_restore}
use Rattle.upd546.specs.declared.Core.{Core}
use Rattle.upd546.specs.declared.State.{State}
use Rattle.upd546.specs.declared.Sheet.{Sheet}
use Rattle.upd546.specs.TheMachine.{addresses, stack_depth, latches, dp_of}
use Rattle.upd546.specs.Parts.{with_core, with_count, with_flow}
use Rattle.upd546.specs.Sequences.{entries}
use Rattle.upd546.specs.Bytes.{bit_at, number_of, bytes_of, part}
use Rattle.upd546.specs.Sequences.{same_numbers}
use Rattle.upd546.specs.StateImage.{image_length, image_mark_at, version_at, pc_at, stack_at, dp_at, flags_at, ports_at, ram_at, ram_bytes, cycle_at, count_at}
use Rattle.upd546.specs.StateImage.{image_mark, ordinal, version_bytes, version_by, version_of, words_bytes, flags_byte, core_bytes, packed, body_bytes, count_bytes, image_of, byte, unpacked, of_image, fields_sound, absent_zero, state_sound, state_number, version_number, fields_number, image_number}
use Rattle.upd546.specs.TheSheet.{sheet_number}
use Rattle.upd546.specs.TwoRunners.{chip}
use Rattle.upd546.proofs.Computed.{every_at, entries-of}
use Rattle.laws.specs.Valid.{Scalars, Valid}
use Rattle.laws.specs.Images.{SavedRestores, RestoredSaves, ImageOfSome, AcceptedExactly}
use Rattle.laws.proofs.Lists.{and_left, and_right}
use Rattle.laws.proofs.Sound.{valid_sound, accepted-valid, accepted-absent}
use Rattle.laws.proofs.Parts.{part_add, part_two, part_six, part_seven}
use Rattle.laws.proofs.Digits.{bytes_back}
use Rattle.laws.proofs.Packing.{words_length, length-packed, unpacked-packed, packed_unpacked}

-- NUMBERS AND THEIR BYTES

word_back : (w : ℕ) → w < 65536 → number_of (bytes_of 2 w) ≡ w
word_back w h = bytes_back 2 w h

pub cycle_back : (n : ℕ) → n < 281474976710656 → number_of (bytes_of 6 n) ≡ n
cycle_back n h = bytes_back 6 n h

word_bytes : (a b : ℕ) → a < 256 → b < 256 → bytes_of 2 (number_of (a ∷ b ∷ [])) ≡ a ∷ b ∷ []
word_bytes a b p q =
    let high : ((0 * 256 + a) * 256 + b) / 256 % 256 ≡ a = omega arith in
    let low : ((0 * 256 + a) * 256 + b) / 1 % 256 ≡ b = omega arith in
    λ i. high i ∷ low i ∷ []

cycle_bytes : (a b c d e f : ℕ) → a < 256 → b < 256 → c < 256 → d < 256 → e < 256 → f < 256
    → bytes_of 6 (number_of (a ∷ b ∷ c ∷ d ∷ e ∷ f ∷ [])) ≡ a ∷ b ∷ c ∷ d ∷ e ∷ f ∷ []
cycle_bytes a b c d e f ha hb hc hd he hf =
    let n = (((((0 * 256 + a) * 256 + b) * 256 + c) * 256 + d) * 256 + e) * 256 + f in
    let x₀ : n / 1099511627776 % 256 ≡ a = omega arith in
    let x₁ : n / 4294967296 % 256 ≡ b = omega arith in
    let x₂ : n / 16777216 % 256 ≡ c = omega arith in
    let x₃ : n / 65536 % 256 ≡ d = omega arith in
    let x₄ : n / 256 % 256 ≡ e = omega arith in
    let x₅ : n / 1 % 256 ≡ f = omega arith in
    λ i. x₀ i ∷ x₁ i ∷ x₂ i ∷ x₃ i ∷ x₄ i ∷ x₅ i ∷ []

-- FLAGS AND THEIR BYTE

-- the six flags of a byte of 6 bits
flags_byte_lem : (b : ℕ) → b < 64 → bit_at b 0 + 2 * bit_at b 1 + 4 * bit_at b 2 + 8 * bit_at b 3 + 16 * bit_at b 4 + 32 * bit_at b 5 ≡ b
flags_byte_lem b h = eqb→eq _ _ (every_at (λ k. eqb (bit_at k 0 + 2 * bit_at k 1 + 4 * bit_at k 2 + 8 * bit_at k 3 + 16 * bit_at k 4 + 32 * bit_at k 5) k) 64 tt b h)

record FlagsBack (c : Core) : Type 0 where
  carry : bit_at (flags_byte c) 0 ≡ c.registers.carry
  saved : bit_at (flags_byte c) 1 ≡ c.registers.saved
  int : bit_at (flags_byte c) 2 ≡ c.interrupt.int
  inte : bit_at (flags_byte c) 3 ≡ c.interrupt.inte
  tm : bit_at (flags_byte c) 4 ≡ c.timer.tm
  level : bit_at (flags_byte c) 5 ≡ c.interrupt.level

-- the flags below a bit go in the division, those above it in the remainder
below : (x d low q : ℕ) → x / d ≡ q → q % 2 ≡ low → x / d % 2 ≡ low
below x d low q e h = ap (λ (k : ℕ). k % 2) e ∙ h

flags_back : {c : Core} → Scalars c → FlagsBack c
flags_back {c} k =
    let f = flags_byte c in
    let sv = c.registers.saved in
    let it = c.interrupt.int in
    let ie = c.interrupt.inte in
    let tm = c.timer.tm in
    let lv = c.interrupt.level in
    record {
      carry = omega (arith, k);
      saved = below f 2 sv (sv + 2 * it + 4 * ie + 8 * tm + 16 * lv) (omega (arith, k)) (omega (arith, k));
      int = below f 4 it (it + 2 * ie + 4 * tm + 8 * lv) (omega (arith, k)) (omega (arith, k));
      inte = below f 8 ie (ie + 2 * tm + 4 * lv) (omega (arith, k)) (omega (arith, k));
      tm = below f 16 tm (tm + 2 * lv) (omega (arith, k)) (omega (arith, k));
      level = below f 32 lv lv (omega (arith, k)) (omega (arith, k));
    }

-- THE STATE OF AN IMAGE OF A STATE

abbrev with_stack : State → List ℕ → State
with_stack s stack = with_core s (with_flow s.core (record { pc = s.core.flow.pc; stack = stack }))

-- an image of either version, with what stands behind its body
abbrev framed : Version → State → List ℕ → List ℕ
framed w s tail = image_mark ++ version_bytes w ++ body_bytes s ++ tail

-- whatever stands behind it
module _ (w : Version) (tail : List ℕ) (s : State) (v : Valid s) (a b c : ℕ) (ha : a < addresses) (hb : b < addresses) (hc : c < addresses) where
  abbrev here : State
  here = with_stack s (a ∷ b ∷ c ∷ [])

  -- the latches, and all that is behind them
  rest : List ℕ
  rest = s.ports ++ packed s.ram ++ bytes_of 6 s.cycle.0 ++ tail

  rest_is : rest ≡ s.ports ++ (packed s.ram ++ (bytes_of 6 s.cycle.0 ++ tail))
  unfolding rest
  rest_is =
      append_assoc (s.ports ++ packed s.ram) (bytes_of 6 s.cycle.0) tail
      ∙ append_assoc s.ports (packed s.ram) (bytes_of 6 s.cycle.0 ++ tail)

  ram_length : length (packed s.ram) ≡ ram_bytes
  ram_length = length-packed ram_bytes s.ram v.ram.count

  both_length : length (s.ports ++ packed s.ram) ≡ latches + ram_bytes
  both_length = length-append s.ports (packed s.ram) ∙ omega (arith, v.ports.count, ram_length)

  ports_back : take latches rest ≡ s.ports
  ports_back = ap (take latches) rest_is ∙ take_at s.ports _ latches v.ports.count

  ram_back : unpacked (take ram_bytes (drop latches rest)) ≡ s.ram
  ram_back =
      ap (λ (l : List ℕ). unpacked (take ram_bytes l)) (ap (drop latches) rest_is ∙ drop_at s.ports _ latches v.ports.count)
      ∙ ap unpacked (take_at (packed s.ram) (bytes_of 6 s.cycle.0 ++ tail) ram_bytes ram_length)
      ∙ unpacked-packed ram_bytes s.ram v.ram.count v.ram.below

  number_back : number_of (take 6 (drop (latches + ram_bytes) rest)) ≡ s.cycle.0
  unfolding rest
  number_back =
      ap (λ (l : List ℕ). number_of (take 6 (drop (latches + ram_bytes) l))) (append_assoc (s.ports ++ packed s.ram) (bytes_of 6 s.cycle.0) tail)
      ∙ ap (λ (l : List ℕ). number_of (take 6 l)) (drop_at (s.ports ++ packed s.ram) (bytes_of 6 s.cycle.0 ++ tail) (latches + ram_bytes) both_length)
      ∙ cycle_back s.cycle.0 (omega (arith, v.cycle))

  -- the byte behind the cycle number is the first of what stands there, 0 where there is none
  count_back : get_or rest (latches + ram_bytes + 6) 0 ≡ get_or tail 0 0
  unfolding rest
  count_back =
      let front = s.ports ++ packed s.ram ++ bytes_of 6 s.cycle.0 in
      let long : length front + 0 ≡ latches + ram_bytes + 6 =
      omega (arith, length-append (s.ports ++ packed s.ram) (bytes_of 6 s.cycle.0), both_length) in
      ap (λ (n : ℕ). get_or rest n 0) (sym long) ∙ get_or-append-add front tail 0 0

  back : of_image (framed w here tail) ≡ with_count (get_or tail 0 0) here
  unfolding of_image rest
  back =
      let k = v.core.scalars in
      let flags = flags_back k in
      let dph : dp_of s.core / 16 ≡ s.core.registers.dph = omega (arith, k) in
      let dpl : dp_of s.core % 16 ≡ s.core.registers.dpl = omega (arith, k) in
      let pc = word_back s.core.flow.pc (omega (arith, k)) in
      λ i. record {
        core = record {
          registers = record { acc = s.core.registers.acc; carry = flags.carry i; saved = flags.saved i; dph = dph i; dpl = dpl i };
          flow = record { pc = pc i; stack = word_back a (omega arith) i ∷ word_back b (omega arith) i ∷ word_back c (omega arith) i ∷ [] };
          interrupt = record { int = flags.int i; inte = flags.inte i; level = flags.level i };
          timer = record { tm = flags.tm i; register = s.core.timer.register; counter = s.core.timer.counter };
          mark = s.core.mark;
          owed = s.core.owed;
        };
        ports = ports_back i;
        ram = ram_back i;
        count = count_back i;
        cycle = record { 0 = number_back i };
      }

  flags_at_lem : byte (framed w here tail) flags_at ≡ flags_byte s.core
  flags_at_lem = refl

-- OF ANY ACCEPTED STATE

-- the version that goes with an image's length
pub version_by-length : (w : Version) (image : List ℕ) → length image ≡ image_length w → version_of image ≡ w
version_by-length w image e = ap (λ (n : ℕ). version_by (eqb n (image_length Two))) e ∙ go w
  where
    go : (x : Version) → version_by (eqb (image_length x) (image_length Two)) ≡ x
    go One = refl
    go Two = refl

-- the count of version 2, and that version 1 has none
tail_back : (w : Version) (s : State) → version_number w s ≡ 0 → get_or (count_bytes w s.count) 0 0 ≡ s.count
unfolding version_number
tail_back One s f = sym (eqb-true s.count 0 (passes (eqb s.count 0) 54 refl f))
tail_back Two s f = refl

tail_length : (w : Version) (count : ℕ) → count_at + length (count_bytes w count) ≡ image_length w
tail_length One count = refl
tail_length Two count = refl

module _ (s : State) (v : Valid s) where
  stack_at_lem : ℕ → ℕ
  stack_at_lem i = get_or s.core.flow.stack i 0

  three : with_stack s (stack_at_lem 0 ∷ stack_at_lem 1 ∷ stack_at_lem 2 ∷ []) ≡ s
  unfolding stack_at_lem
  three = sym (ap (with_stack s) (rw v.core.stack.depth at (entries-of s.core.flow.stack)))

  stack_below : (i : ℕ) → stack_at_lem i < addresses
  unfolding stack_at_lem
  stack_below i = v.core.stack.below i

  -- an image with bytes behind its body
  body_back : (w : Version) (tail : List ℕ) → of_image (framed w s tail) ≡ with_count (get_or tail 0 0) s
  body_back w tail =
      subst (λ (t : State). of_image (framed w t tail) ≡ with_count (get_or tail 0 0) t) three
      (back w tail s v (stack_at_lem 0) (stack_at_lem 1) (stack_at_lem 2) (stack_below 0) (stack_below 1) (stack_below 2))

  flags_read : (w : Version) (tail : List ℕ) → byte (framed w s tail) flags_at ≡ flags_byte s.core
  flags_read w tail =
      subst (λ (t : State). byte (framed w t tail) flags_at ≡ flags_byte s.core) three
      (flags_at_lem w tail s v (stack_at_lem 0) (stack_at_lem 1) (stack_at_lem 2) (stack_below 0) (stack_below 1) (stack_below 2))

  body_length : length (body_bytes s) ≡ count_at - pc_at
  body_length =
      let words = bytes_of 2 s.core.flow.pc ++ words_bytes s.core.flow.stack in
      let front = words ++ core_bytes s.core in
      omega (
        arith,
        words_length s.core.flow.stack,
        v.core.stack.depth,
        length-append words (core_bytes s.core),
        length-append front s.ports,
        v.ports.count,
        length-append (front ++ s.ports) (packed s.ram),
        length-packed ram_bytes s.ram v.ram.count,
        length-append (front ++ s.ports ++ packed s.ram) (bytes_of 6 s.cycle.0),
      )

module _ (w : Version) (s : State) (v : Valid s) (fits : version_number w s ≡ 0) where
  pub image_back : of_image (image_of w s) ≡ s
  unfolding image_of
  image_back = body_back s v w (count_bytes w s.count) ∙ ap (λ (k : ℕ). with_count k s) (tail_back w s fits)

  pub image_length_is : length (image_of w s) ≡ image_length w
  unfolding image_of
  image_length_is =
      omega (
        arith,
        body_length s v,
        length-append (image_mark ++ version_bytes w ++ body_bytes s) (count_bytes w s.count),
        tail_length w s.count,
      )

  version_back : version_of (image_of w s) ≡ w
  version_back = version_by-length w (image_of w s) image_length_is

  mark_at : same_numbers (part (image_of w s) image_mark_at 3) image_mark ≡ true
  unfolding image_of
  mark_at = refl

  version_at_lem : same_numbers (part (image_of w s) version_at 2) (version_bytes w) ≡ true
  unfolding image_of
  version_at_lem = rw (eq-eqb (ordinal w) (ordinal w) refl)

  flags_in : byte (image_of w s) flags_at < 64
  unfolding image_of
  flags_in = omega (arith, flags_read s v w (count_bytes w s.count), v.core.scalars)

  pub image_accepted : (sheet : Sheet) → absent_zero sheet s ≡ true → image_number sheet (image_of w s) ≡ 0
  unfolding image_number fields_number state_sound first_of
  image_accepted sheet absent =
      let six : ltb (byte (image_of w s) flags_at) 64 ≡ true = lt-ltb (byte (image_of w s) flags_at) 64 flags_in in
      let sound : fields_sound (of_image (image_of w s)) ≡ true = ap fields_sound image_back ∙ valid_sound s v in
      let zero : absent_zero sheet (of_image (image_of w s)) ≡ true = ap (absent_zero sheet) image_back ∙ absent in
      rw (version_back, eq-eqb (length (image_of w s)) (image_length w) image_length_is, mark_at, version_at_lem, six, sound, zero)

-- THE IMAGE OF THE STATE OF AN IMAGE
pub same_eq : (l m : List ℕ) → same_numbers l m ≡ true → l ≡ m
same_eq [] [] e = refl
same_eq [] (y ∷ m) e = cc
same_eq (x ∷ l) [] e = cc
same_eq (x ∷ l) (y ∷ m) e = ap₂ (λ (h : ℕ) (t : List ℕ). h ∷ t) (eqb-true x y (and_left (eqb x y) (same_numbers l m) e)) (same_eq l m (and_right (eqb x y) (same_numbers l m) e))

words_joined : {a a' b b' c c' : List ℕ} → a ≡ a' → b ≡ b' → c ≡ c' → a ++ (b ++ (c ++ [])) ≡ a' ++ (b' ++ (c' ++ []))
words_joined p q r = λ i. p i ++ (q i ++ (r i ++ []))

-- six parts one behind the other, each the same
parts_joined : {a a' b b' c c' d d' e e' f f' : List ℕ} → a ≡ a' → b ≡ b' → c ≡ c' → d ≡ d' → e ≡ e' → f ≡ f'
    → a ++ b ++ c ++ d ++ e ++ f ≡ a' ++ b' ++ c' ++ d' ++ e' ++ f'
parts_joined p q r s t u = λ i. p i ++ q i ++ r i ++ s i ++ t i ++ u i

-- 31 comes first, whatever else may refuse the bytes
pub length-fits : (image ks : List ℕ) → first_of (unless (eqb (length image) (image_length (version_of image))) 31 ∷ ks) ≡ 0
    → length image ≡ image_length (version_of image)
length-fits image ks e = eqb-true _ _ (passes (eqb (length image) (image_length (version_of image))) 31 refl (first_at _ e 0))

pub accepted-length : (sheet : Sheet) (image : List ℕ) → image_number sheet image ≡ 0 → length image ≡ image_length (version_of image)
unfolding image_number
accepted-length sheet image e = length-fits image _ e

-- such a length is 82, or it is 81
pub version_cases : (image : List ℕ) → length image ≡ image_length (version_of image) → (P : Version → Type 0)
    → (length image ≡ image_length One → P One) → (length image ≡ image_length Two → P Two) → P (version_of image)
version_cases image e P one two = go (eqb (length image) (image_length Two)) refl
  where
    go : (b : Bool) → eqb (length image) (image_length Two) ≡ b → P (version_by b)
    go true f = two (eqb-true (length image) (image_length Two) f)
    go false f = one (e ∙ ap (λ (b : Bool). image_length (version_by b)) f)

module _ (sheet : Sheet) (image : List ℕ) (bytes : Bytes image) (accepted : image_number sheet image ≡ 0) where
  fields_sound_lem : (ltb (byte image flags_at) 64 && state_sound sheet (of_image image)) ≡ true
  unfolding image_number fields_number
  fields_sound_lem = passes (ltb (byte image flags_at) 64 && state_sound sheet (of_image image)) 34 refl (first_at _ accepted 3)

  pub accepted_state : state_number sheet (of_image image) ≡ 0
  unfolding state_number
  accepted_state = rw (and_right (ltb (byte image flags_at) 64) (state_sound sheet (of_image image)) fields_sound_lem)

  flags_small : byte image flags_at < 64
  flags_small = ltb-true _ _ (and_left (ltb (byte image flags_at) 64) (state_sound sheet (of_image image)) fields_sound_lem)

  mark_same : image_mark ≡ part image image_mark_at 3
  unfolding image_number
  mark_same = sym (same_eq _ _ (passes (same_numbers (part image image_mark_at 3) image_mark) 32 refl (first_at _ accepted 1)))

  version_same : version_bytes (version_of image) ≡ part image version_at 2
  unfolding image_number
  version_same =
      sym (same_eq _ _ (passes (same_numbers (part image version_at 2) (version_bytes (version_of image))) 33 refl (first_at _ accepted 2)))

  -- the body is there
  whole_body : count_at ≤ length image
  whole_body =
      version_cases image (accepted-length sheet image accepted) (λ w. count_at ≤ length image) (λ e. omega (arith, e))
      (λ e. omega (arith, e))

  word_same : (at : ℕ) → at + 2 ≤ count_at → bytes_of 2 (number_of (part image at 2)) ≡ part image at 2
  word_same at h = rw (part_two image at (omega (arith, whole_body))) (word_bytes (byte image at) (byte image (at + 1)) (bytes at) (bytes (at + 1)))

  stack_same : words_bytes (entries stack_depth (λ i. number_of (part image (stack_at + 2 * i) 2))) ≡ part image stack_at 6
  stack_same =
      words_joined (word_same stack_at (omega arith)) (word_same (stack_at + 2) (omega arith)) (word_same (stack_at + 4) (omega arith))
      ∙ rw (
        part_two image stack_at (omega (arith, whole_body)),
        part_two image (stack_at + 2) (omega (arith, whole_body)),
        part_two image (stack_at + 4) (omega (arith, whole_body)),
        part_six image stack_at (omega (arith, whole_body)),
      )

  core_same : core_bytes (of_image image).core ≡ part image dp_at 7
  unfolding of_image
  core_same =
      let dp : 16 * (byte image dp_at / 16) + byte image dp_at % 16 ≡ byte image dp_at = omega arith in
      rw (dp, flags_byte_lem (byte image flags_at) flags_small, part_seven image dp_at (omega (arith, whole_body)))

  cycle_same : bytes_of 6 (number_of (part image cycle_at 6)) ≡ part image cycle_at 6
  cycle_same =
      rw (part_six image cycle_at (omega (arith, whole_body)))
      (cycle_bytes _ _ _ _ _ _ (bytes cycle_at) (bytes (cycle_at + 1)) (bytes (cycle_at + 2)) (bytes (cycle_at + 3)) (bytes (cycle_at + 4)) (bytes (cycle_at + 5)))

  -- the body, part by part
  body_parts : part image pc_at (count_at - pc_at)
      ≡ part image pc_at 2 ++ part image stack_at 6 ++ part image dp_at 7 ++ part image ports_at latches ++ part image ram_at ram_bytes ++ part image cycle_at 6
  body_parts =
      rw (
        part_add image pc_at (cycle_at - pc_at) 6,
        part_add image pc_at (ram_at - pc_at) ram_bytes,
        part_add image pc_at (ports_at - pc_at) latches,
        part_add image pc_at (dp_at - pc_at) 7,
        part_add image pc_at (stack_at - pc_at) 6,
      )

  body_same : body_bytes (of_image image) ≡ part image pc_at (count_at - pc_at)
  unfolding of_image
  body_same = parts_joined (word_same pc_at (omega arith)) stack_same core_same refl (packed_unpacked (part image ram_at ram_bytes)) cycle_same ∙ sym body_parts

  -- the count of version 2, and that version 1 has none
  tail_same : count_bytes (version_of image) (of_image image).count ≡ drop count_at image
  unfolding of_image
  tail_same =
      version_cases image (accepted-length sheet image accepted) (λ w. count_bytes w (byte image count_at) ≡ drop count_at image)
      (λ e. sym (drop_of_length-le image {i = 81} (omega (arith, e))))
      (λ e.
      let behind : drop 82 image ≡ [] = drop_of_length-le image {i = 82} (omega (arith, e)) in
      sym (drop-cons image count_at 0 (omega (arith, e)) ∙ ap (λ (l : List ℕ). byte image count_at ∷ l) behind))

  pub version_fits : version_number (version_of image) (of_image image) ≡ 0
  unfolding of_image version_number
  version_fits =
      version_cases image (accepted-length sheet image accepted) (λ w. version_number w (of_image image) ≡ 0)
      (λ e. rw (eq-eqb (byte image count_at) 0 (get_or-eq_default image 0 {n = 81} (omega (arith, e)))))
      (λ e. refl)

  -- the image: mark, version, body and tail
  four_parts : image ≡ part image image_mark_at 3 ++ part image version_at 2 ++ part image pc_at (count_at - pc_at) ++ drop count_at image
  four_parts = sym (take-append-drop count_at image) ∙ rw (take-add pc_at (count_at - pc_at) image, take-add version_at 2 image)

  pub image_same : image_of (version_of image) (of_image image) ≡ image
  unfolding image_of
  image_same = (λ i. mark_same i ++ version_same i ++ body_same i ++ tail_same i) ∙ sym four_parts

-- DEMAND 2, SECOND HALF

pub saved_restores : SavedRestores
unfolding save_answer save_number restore_answer restore_number first_of
saved_restores sheet w s buffer o e f h =
    let v = accepted-valid sheet s e in
    let first : take (image_length w) (image_of w s ++ drop (image_length w) buffer) ≡ image_of w s =
    take_at (image_of w s) _ (image_length w) (image_length_is w s v f) in
    rw (
      o,
      e,
      f,
      le-leb (image_length w) (length buffer) h,
      first,
      image_accepted w s v f sheet (accepted-absent sheet s e),
      image_back w s v f,
    )

-- the state that an accepted image restores to
pub restores_to : (sheet : Sheet) (image : List ℕ) → sheet_number sheet ≡ 0 → image_number sheet image ≡ 0
    → restore_answer (chip sheet) image ≡ record { number = 0; state = of_image image }
unfolding restore_answer
restores_to sheet image o e = rw (fit_restore (chip sheet) image o e)

-- a restore that isn't refused: of a legal sheet, and of an accepted image
restored : (sheet : Sheet) (image : List ℕ) → (restore_answer (chip sheet) image).number ≡ 0
    → (sheet_number sheet ≡ 0) × (image_number sheet image ≡ 0)
restored sheet image e = restore-fit (chip sheet) image (sym (restore-number (chip sheet) image) ∙ e)

pub restored_saves : RestoredSaves
unfolding save_answer save_number first_of
restored_saves sheet image buffer b e h =
    let o = (restored sheet image e).0 in
    let z = (restored sheet image e).1 in
    rw (
      restores_to sheet image o z,
      o,
      accepted_state sheet image b z,
      version_fits sheet image b z,
      le-leb (image_length (version_of image)) (length buffer) h,
      image_same sheet image b z,
    )

pub accepted-exactly : AcceptedExactly
accepted-exactly sheet image o b = (to, from)
  where
    to : (restore_answer (chip sheet) image).number ≡ 0 → ImageOfSome sheet image
    to e =
        let z = (restored sheet image e).1 in
        record {
          state = of_image image;
          not_refused_is = accepted_state sheet image b z;
          fits = version_fits sheet image b z;
          same = sym (image_same sheet image b z);
        }

    from : ImageOfSome sheet image → (restore_answer (chip sheet) image).number ≡ 0
    from i =
        let v = accepted-valid sheet i.state i.not_refused_is in
        restore-number (chip sheet) image
        ∙ fit_restore (chip sheet) image o
        (ap (image_number sheet) i.same
        ∙ image_accepted (version_of image) i.state v i.fits sheet (accepted-absent sheet i.state i.not_refused_is))
