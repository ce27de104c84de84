-- Word and operand of an item give its bytes. Assumes nothing.
use mathlib.Core.Path.{◌≡◌, ◌∙◌, refl, sym, ap}
use mathlib.Core.Bool.{Bool, true, false, cond, ◌&&◌}
use mathlib.Core.List.{List, [], ◌∷◌, ◌++◌}
use Prim.Native.Nat.{ℕ, zero, suc, ◌+◌, ◌-◌, ◌*◌, ◌/◌, ◌%◌, ◌<◌, ◌≤◌}
use native.Mathlib.Omega.{arith}
use lib.Dec.{T, eqb, leb, ltb}
use borrow.Author.Tests.{eq-eqb, lt-ltb, le-leb}
use Rattle.upd546.specs.Reports.{hex_digit}
use Rattle.upd546.specs.TheMachine.{page_of}
use Rattle.upd546.proofs.Computed.{every_at}
use Rattle.mnemonics.specs.Texts.{hex1, hex2, hex3}
use Rattle.mnemonics.specs.Mnemonics.{Kind, without, bits, nibble, byte, far, zero_page, in_page, no_instruction, leads_for, none_for, long_for}
use Rattle.listing.specs.Listing.{Item, target, label_of, bytes_of}
use Rattle.assembly.specs.Grammar.{Line}
use Rattle.assembly.specs.Assembling.{Value, good, wrong, number_from, limited, number_up_to, place_of, address_of, Coded, coded_by, operand_for, first_of, second_elsewhere, no_czp_address, not_in_page, coded}
use Rattle.every_listing.proofs.Codes.{part_of, first_for}
use Rattle.every_listing.proofs.Digits.{one_digit, two_digits, three_digits, within}
use Rattle.every_listing.proofs.Shapes.{operand_read}
use Rattle.every_listing.proofs.Reading.{item_of}

passes : (b : Bool) → T b → b ≡ true
passes true h = refl
passes false h = absurd h

in_limit : (v : ℕ) → v < 2048 → limited 2047 (good v) ≡ good v
in_limit v h = ap (λ (b : Bool). cond b (good v) (wrong 6)) (le-leb v 2047 (omega arith))

address-number : (lines : List Line) (c : ℕ) (t : List ℕ) → (leb 48 c && leb c 57) ≡ true → address_of lines (c ∷ t) ≡ limited 2047 (number_from 0 (c ∷ t))
unfolding address_of
address-number lines c t e = rw (e, address_of)

address-label : (lines : List Line) (t : ℕ) → address_of lines (label_of t) ≡ limited 2047 (place_of lines (label_of t))
unfolding address_of
address-label lines t = refl

address_read : (lines : List Line) (t : ℕ) (b : Bool) → t < 2048 → (b ≡ true → place_of lines (label_of t) ≡ good t) → address_of lines (cond b (label_of t) (hex3 t)) ≡ good t
address_read lines t true h p = address-label lines t ∙ ap (limited 2047) (p refl) ∙ in_limit t h
address_read lines t false h p =
    let d = t / 256 % 16 in
    let low : d < 8 = omega arith in
    let decimal = passes (leb 48 (hex_digit d) && leb (hex_digit d) 57) (every_at (λ k. leb 48 (hex_digit k) && leb (hex_digit k) 57) 8 tt d low) in
    address-number lines (hex_digit d) (hex2 t) decimal ∙ ap (limited 2047) (three_digits t (omega arith)) ∙ in_limit t h

module _ (lines : List Line) (at code second : ℕ) (hc : code < 256) (hs : second < 256) (ha : at < 2000) where
  abbrev i : Kind → Item
  i k = item_of at code second k

  abbrev value : Kind → ℕ
  value without = 0
  value bits = code % 4
  value nibble = code % 16
  value byte = second
  value far = target (i far)
  value zero_page = target (i zero_page)
  value in_page = target (i in_page)
  value no_instruction = code

  operand_read_lem : (k : Kind) (b : Bool) → (leads_for k ≡ true → b ≡ true → place_of lines (label_of (target (i k))) ≡ good (target (i k)))
      → operand_for k lines (operand_read k b (i k)) ≡ good (value k)
  operand_read_lem without b p = refl
  operand_read_lem bits b p = within 3 (hex_digit (code % 4 % 16)) (code % 4) [] (one_digit (code % 4) (omega arith)) (omega arith)
  operand_read_lem nibble b p =
      let e : code % 16 ≡ code % 16 % 16 = omega arith in
      ap (λ (d : ℕ). number_up_to 15 (hex_digit d ∷ [])) e ∙ within 15 (hex_digit (code % 16 % 16)) (code % 16) [] (one_digit (code % 16) (omega arith)) (omega arith)
  operand_read_lem byte b p = within 255 (hex_digit (second / 16 % 16)) second (hex1 second) (two_digits second hs) (omega arith)
  operand_read_lem far b p = address_read lines (target (i far)) b (omega arith) (p refl)
  operand_read_lem zero_page b p = address_read lines (target (i zero_page)) b (omega arith) (p refl)
  operand_read_lem in_page b p = address_read lines (target (i in_page)) b (omega arith) (p refl)
  operand_read_lem no_instruction b p = within 255 (hex_digit (code / 16 % 16)) code (hex1 code) (two_digits code hc) (omega arith)

  abbrev done : Kind → Coded
  done k = record { mistake = 0; bytes = bytes_of (i k) }

  abbrev told : Kind → ℕ → Value → Coded
  told k first v = record {
    mistake = first_of v.mistake (first_of (coded_by k first at v.value).mistake (cond (long_for k && eqb (at % 256) 255) second_elsewhere 0));
    bytes = (coded_by k first at v.value).bytes;
  }

  coded_by_lem : (k : Kind) → (none_for k ≡ false → first_for code + part_of k code ≡ code) → (long_for k ≡ true → eqb (at % 256) 255 ≡ false)
      → told k (cond (none_for k) 0 (first_for code)) (good (value k)) ≡ done k
  coded_by_lem without f r = let e : first_for code ≡ code = omega (arith, f refl) in λ j. record { mistake = 0; bytes = e j ∷ [] }
  coded_by_lem bits f r = λ j. record { mistake = 0; bytes = f refl j ∷ [] }
  coded_by_lem nibble f r = λ j. record { mistake = 0; bytes = f refl j ∷ [] }
  coded_by_lem byte f r =
      let e : first_for code ≡ code = omega (arith, f refl) in
      λ j. record { mistake = cond (r refl j) second_elsewhere 0; bytes = e j ∷ second ∷ [] }
  coded_by_lem far f r =
      let t = 256 * (code % 8) + second in
      let e : first_for code + t / 256 ≡ code = omega (arith, f refl) in
      let g : t % 256 ≡ second = omega arith in
      λ j. record { mistake = cond (r refl j) second_elsewhere 0; bytes = e j ∷ g j ∷ [] }
  coded_by_lem zero_page f r =
      let t = 4 * (code % 16) in
      let e : first_for code + t / 4 ≡ code = omega (arith, f refl) in
      let p = eq-eqb (t % 4) 0 (omega arith) in
      let q = lt-ltb t 64 (omega arith) in
      λ j. record { mistake = first_of (cond (p j && q j) 0 no_czp_address) 0; bytes = e j ∷ [] }
  coded_by_lem in_page f r =
      let t = page_of at + code % 64 in
      let e : first_for code + t % 64 ≡ code = omega (arith, f refl) in
      let p = eq-eqb (page_of t) (page_of at) (omega arith) in
      λ j. record { mistake = first_of (cond (p j) 0 not_in_page) 0; bytes = e j ∷ [] }
  coded_by_lem no_instruction f r = refl

  pub coded_is : (k : Kind) (b : Bool) → (leads_for k ≡ true → b ≡ true → place_of lines (label_of (target (i k))) ≡ good (target (i k)))
      → (none_for k ≡ false → first_for code + part_of k code ≡ code) → (long_for k ≡ true → eqb (at % 256) 255 ≡ false)
      → coded k (cond (none_for k) 0 (first_for code)) lines (operand_read k b (i k)) at ≡ record { mistake = 0; bytes = bytes_of (i k) }
  unfolding coded
  coded_is k b p f r = ap (told k (cond (none_for k) 0 (first_for code))) (operand_read_lem k b p) ∙ coded_by_lem k f r
