-- EVERY LISTING COMES BACK: its lines, one after the other, give the bytes of its items. Assumes nothing.
use mathlib.Core.Path.{◌≡◌, ◌∙◌, refl, sym, ap, subst}
use mathlib.Core.Bool.{Bool, true, false, cond, ◌&&◌, ◌||◌}
use mathlib.Core.List.{List, [], ◌∷◌, ◌++◌, append_assoc, append-nil}
use Prim.Native.Nat.{ℕ, zero, suc, ◌+◌, ◌-◌, ◌*◌, ◌/◌, ◌%◌, ◌<◌, ◌≤◌}
use native.Mathlib.Omega.{arith}
use lib.Dec.{T, eqb}
use lib.ListN.{length, get_or, take, drop, replicate, length-append}
use borrow.Author.Tests.{eq-eqb}
use Rattle.upd546.specs.Reports.{hex_digit}
use Rattle.mnemonics.specs.Texts.{ascii, hex2, hex3}
use Rattle.mnemonics.specs.Mnemonics.{Kind, without, bits, nibble, byte, far, zero_page, in_page, no_instruction, kind_of, leads_for, none_for, long_for}
use Rattle.listing.specs.Listing.{Item, shown_kind, no_next, item_at, items_from, items_of, led_to, begins, target, label_of, bytes_of, lines_text, listing_text}
use Rattle.assembly.specs.Grammar.{uppers, is_semicolon, is_colon, is_newline, before, onwards, first_word, behind, lines_of, Line, line_by, split, parsed, parsed_all, lines_in}
use Rattle.assembly.specs.Assembling.{Value, good, Action, gives, Coded, Step, State, start, no_byte, action_for, code_from, code_for, number_up_to, size_for, place_from, place_of, coded, put, done_by, behind_text, labelled, elsewhere, first_of, step, filled, Assembled, assembled_from, assembled}
use Rattle.every_listing.specs.EveryListing.{bytes_alone, EveryListingComesBack}
use Rattle.every_listing.proofs.Parts.{free, before_free, onwards-free, upper_append, upper_clean, clean_free, word_at, behind_at, line_of, line_first}
use Rattle.every_listing.proofs.Digits.{hex3_clean, three_digits, within}
use Rattle.every_listing.proofs.Codes.{part_of, first_for}
use Rattle.every_listing.proofs.Shapes.{word_read, operand_read, label_read, sole_word, sole_behind, none_first, none_behind}
use Rattle.every_listing.proofs.Reading.{line_for, lines_for, Each, none, more, all_lines, item_of}
use Rattle.every_listing.proofs.Places.{yes_no, Sound, Chain, end, link, chain, readable, each_readable, first_read, action_of, place_found}
use Rattle.every_listing.proofs.Cells.{given, put_given, bytes_back}
use Rattle.every_listing.proofs.Coding.{coded_is}

-- THE BYTES OF THE ITEMS

unfoldable pub bytes_all : List Item → List ℕ
bytes_all [] = []
bytes_all (i ∷ is) = bytes_of i ++ bytes_all is

item_bytes : (at c : ℕ) (rest : List ℕ) → bytes_of (item_at at c rest) ++ drop (cond (long_for (item_at at c rest).kind) 1 0) rest ≡ c ∷ rest
item_bytes at c [] = go (long_for (kind_of c)) refl (eqb (at % 256) 255)
  where
    go : (l : Bool) → long_for (kind_of c) ≡ l → (e : Bool)
        → cond (long_for (cond (l && (e || true)) no_instruction (kind_of c))) (c ∷ 0 ∷ []) (c ∷ []) ++ drop (cond (long_for (cond (l && (e || true)) no_instruction (kind_of c))) 1 0) [] ≡ c ∷ []
    go true p true = refl
    go true p false = refl
    go false p e = ap (λ (b : Bool). cond b (c ∷ 0 ∷ []) (c ∷ []) ++ drop (cond b 1 0) []) p
item_bytes at c (s ∷ rest) = go (long_for (item_at at c (s ∷ rest)).kind)
  where
    go : (l : Bool) → cond l (c ∷ s ∷ []) (c ∷ []) ++ drop (cond l 1 0) (s ∷ rest) ≡ c ∷ s ∷ rest
    go true = refl
    go false = refl

pub every_byte : (over : Bool) (at : ℕ) (bytes : List ℕ) → bytes_all (items_from over at bytes) ≡ drop (cond over 1 0) bytes
unfolding bytes_all items_from
every_byte true at [] = refl
every_byte false at [] = refl
every_byte true at (c ∷ rest) = every_byte false (suc at) rest
every_byte false at (c ∷ rest) =
    ap (λ (t : List ℕ). bytes_of (item_at at c rest) ++ t) (every_byte (long_for (item_at at c rest).kind) (suc at) rest) ∙ item_bytes at c rest

size_bytes : (i : Item) → length (bytes_of i) ≡ size_for i.kind
size_bytes i = go (long_for i.kind)
  where
    go : (l : Bool) → length (cond l (i.code ∷ i.second ∷ []) (i.code ∷ [])) ≡ cond l 2 1
    go true = refl
    go false = refl

-- WHAT THE LABELS STAND FOR

pub record Known (lines : List Line) (all : List Item) (i : Item) : Type 0 where
  pub label : led_to all i.at ≡ true → place_of lines (label_of i.at) ≡ good i.at
  pub jump : leads_for i.kind ≡ true → begins all (target i) ≡ true → place_of lines (label_of (target i)) ≡ good (target i)

-- the first line: the ROM's length
abbrev header : ℕ → Line
header n = line_of [] (ascii "ROM") (hex3 n)

behind_header : (n a : ℕ) (ls : List Line) → place_of (header n ∷ ls) (label_of a) ≡ place_from (label_of a) 0 ls
unfolding place_from action_for
behind_header n a ls = refl

target_low : (k : Kind) (at code second : ℕ) → second < 256 → at < 2000 → leads_for k ≡ true → target (item_of at code second k) < 2048
target_low without at code second hs ha e = absurd (yes_no e)
target_low bits at code second hs ha e = absurd (yes_no e)
target_low nibble at code second hs ha e = absurd (yes_no e)
target_low byte at code second hs ha e = absurd (yes_no e)
target_low far at code second hs ha e = omega arith
target_low zero_page at code second hs ha e = omega arith
target_low in_page at code second hs ha e = omega arith
target_low no_instruction at code second hs ha e = absurd (yes_no e)

or_true : (a b : Bool) → a ≡ true → (a || b) ≡ true
or_true a b e = rw e

or_right : (a b : Bool) → b ≡ true → (a || b) ≡ true
or_right true b e = refl
or_right false b e = e

module _ (all : List Item) (n : ℕ) (whole : Chain 0 all) where
  pub known : {at : ℕ} (is : List Item) → Chain at is → ((a : ℕ) → begins is a ≡ true → begins all a ≡ true) → ((a : ℕ) → led_to is a ≡ true → led_to all a ≡ true)
      → Each (Known (header n ∷ lines_for all all) all) is
  unfolding begins led_to
  known [] end sub led = none
  known {at = at} (i ∷ is) (link e s c) sub led =
      more
      (record {
        label = λ h. behind_header n i.at (lines_for all all)
            ∙ place_found all i.at (omega (arith, s.low)) h whole (sub i.at (or_true (eqb i.at i.at) (begins is i.at) (eq-eqb i.at i.at refl)));
        jump = λ l b. behind_header n (target i) (lines_for all all)
            ∙ place_found all (target i) (target_low i.kind i.at i.code i.second s.second s.low l)
            (led (target i) (or_true (leads_for i.kind && eqb (target i) (target i)) (led_to is (target i)) (ap (λ (x : Bool). x && eqb (target i) (target i)) l ∙ eq-eqb (target i) (target i) refl)))
            whole b;
      })
      (known {at = at + size_for i.kind} is c (λ a h. sub a (or_right (eqb i.at a) (begins is a) h)) (λ a h. led a (or_right (leads_for i.kind && eqb (target i) a) (led_to is a) h)))

-- A LINE

go_on : (lines : List Line) (k : ℕ) (s t : State) (l : Line) (ls : List Line) → step lines s l ≡ record { mistake = 0; state = t }
    → assembled_from lines k s (l ∷ ls) ≡ assembled_from lines (suc k) t ls
unfolding assembled_from
go_on lines k s t l ls e =
    ap (λ (d : Step). elim d.mistake as (λ x. Assembled) [ zero ↦ assembled_from lines (suc k) d.state ls | suc m ↦ record { mistake = suc m; line = k; bytes = [] } ]) e

module _ (lines : List Line) (all : List Item) (n : ℕ) (hn : n ≤ 2000) where
  labelled-right : (b : Bool) (a : ℕ) → (b ≡ true → place_of lines (label_of a) ≡ good a) → labelled lines (label_read b a) a ≡ 0
  labelled-right false a h = refl
  labelled-right true a h = ap (λ (v : Value). elsewhere v a) (h refl) ∙ ap (λ (x : Bool). cond x 0 8) (eq-eqb a a refl)

  first_part : (i : Item) → Sound i → none_for i.kind ≡ false → first_for i.code + part_of i.kind i.code ≡ i.code
  first_part i s z =
      let w = readable i s z in
      ap (λ (k : Kind). first_for i.code + part_of k i.code) (s.kind_is z) ∙ omega (arith, w.part)

  item_step : (i : Item) (done : List ℕ) → i.at ≡ length done → Sound i → Known lines all i → length done + length (bytes_of i) ≤ n
      → step lines (given n done) (line_for all i) ≡ record { mistake = 0; state = given n (done ++ bytes_of i) }
  unfolding step
  item_step i done e s kn h =
      let o = operand_read i.kind (leads_for i.kind && begins all (target i)) i in
      let jump : leads_for i.kind ≡ true → (leads_for i.kind && begins all (target i)) ≡ true → place_of lines (label_of (target i)) ≡ good (target i) =
      λ l b. kn.jump l (ap (λ (x : Bool). x && begins all (target i)) (sym l) ∙ b) in
      let c = ap (coded i.kind (first_read i) lines o) (sym e)
      ∙ coded_is lines i.at i.code i.second s.code s.second s.low i.kind (leads_for i.kind && begins all (target i)) jump (first_part i s) s.in_row in
      let label = ap (labelled lines (label_read (led_to all i.at) i.at)) (sym e) ∙ labelled-right (led_to all i.at) i.at kn.label in
      ap (λ (a : Action). told (labelled lines (label_read (led_to all i.at) i.at) (length done)) (done_by a lines o (given n done))) (action_of i s)
      ∙ ap (λ (m : ℕ). told m (done_by (gives i.kind (first_read i)) lines o (given n done))) label
      ∙ ap (λ (x : Coded). record { mistake = first_of x.mistake (put (given n done) x.bytes).mistake; state = (put (given n done) x.bytes).state }) c
      ∙ put_given n done (bytes_of i) h hn
    where
      told : ℕ → Step → Step
      told m d = record { mistake = first_of m d.mistake; state = d.state }

  abbrev result : List ℕ → Assembled
  result done = record { mistake = 0; line = 0; bytes = take n (filled (done ++ replicate (2000 - length done) no_byte)) }

  pub all_steps : {at : ℕ} (is : List Item) (k : ℕ) (done : List ℕ) → Chain at is → Each (Known lines all) is → at ≡ length done
      → length done + length (bytes_all is) ≤ n → assembled_from lines k (given n done) (lines_for all is) ≡ result (done ++ bytes_all is)
  unfolding bytes_all lines_for assembled_from step action_for parsed before onwards
  all_steps [] k done end none e h = ap result (sym (append-nil done))
  all_steps {at = at} (i ∷ is) k done (link p s c) (more kn ks) e h =
      let here : length done + length (bytes_of i) ≤ n = omega (arith, length-append (bytes_of i) (bytes_all is)) in
      let rest : length (done ++ bytes_of i) + length (bytes_all is) ≤ n = omega (arith, length-append (bytes_of i) (bytes_all is), length-append done (bytes_of i)) in
      go_on lines k (given n done) (given n (done ++ bytes_of i)) (line_for all i) (lines_for all is) (item_step i done (p ∙ e) s kn here)
      ∙ all_steps {at = at + size_for i.kind} is (suc k) (done ++ bytes_of i) c ks (omega (arith, length-append done (bytes_of i), size_bytes i)) rest
      ∙ ap result (append_assoc done (bytes_of i) (bytes_all is))

-- THE FIRST LINE

abbrev rom_line : ℕ → List ℕ
rom_line n = ascii "ROM " ++ hex3 n

header_upper : (n : ℕ) → uppers (ascii "rom " ++ hex3 n) ≡ rom_line n
unfolding uppers
header_upper n = ap (λ (t : List ℕ). ascii "ROM " ++ t) (upper_clean (hex3 n) (hex3_clean n))

header_words : (n : ℕ) → line_by [] (rom_line n) ≡ header n
unfolding before onwards
header_words n =
    let rest = behind_at 0 82 (79 ∷ 77 ∷ []) (hex3 n) tt in
    let d = hex_digit (n / 256 % 16) in
    let operand = ap first_word rest ∙ sole_word d (hex2 n) (hex3_clean n) in
    let last = ap (λ (t : List ℕ). first_word (behind t)) rest ∙ sole_behind d (hex2 n) (hex3_clean n) in
    λ i. record {
      label = none_first i;
      word = word_at 0 82 (79 ∷ 77 ∷ []) (hex3 n) tt i;
      operand = operand i;
      more = (ap (λ (t : List ℕ). t ++ first_word (behind (behind (rom_line n)))) none_behind ∙ last) i;
    }

header_read : (n : ℕ) → parsed (uppers (ascii "rom " ++ hex3 n)) ≡ header n
unfolding parsed before onwards
header_read n =
    let s = rom_line n in
    let front = ap (before is_semicolon) (sym (append-nil s)) ∙ before_free is_semicolon s [] (clean_free (hex3 n) (hex3_clean n)).1 ∙ append-nil s in
    let colon = ap (onwards is_colon) (sym (append-nil s)) ∙ onwards-free is_colon s [] (clean_free (hex3 n) (hex3_clean n)).2 in
    ap parsed (header_upper n) ∙ ap (λ (t : List ℕ). split t (onwards is_colon t)) front ∙ ap (split s) colon ∙ header_words n

header_step : (lines : List Line) (n : ℕ) → n ≤ 2000 → step lines start (header n) ≡ record { mistake = 0; state = given n [] }
unfolding step action_for
header_step lines n h =
    ap (λ (v : Value). record { mistake = v.mistake; state = record { at = 0; size = v.value; begun = true; cells = replicate 2000 no_byte } })
    (within 2000 (hex_digit (n / 256 % 16)) n (hex2 n) (three_digits n (omega arith)) h)

-- ALL LINES, AND THE THEOREM

pub lines_in_lem : (rom : List ℕ) → Chain 0 (items_of rom) → lines_in (listing_text rom) ≡ header (length rom) ∷ lines_for (items_of rom) (items_of rom)
unfolding listing_text parsed_all uppers
lines_in_lem rom c =
    let raw = ascii "rom " ++ hex3 (length rom) in
    let lines = lines_text (items_of rom) (items_of rom) in
    let free_line = subst (λ (t : List ℕ). T (free is_newline t)) (sym (header_upper (length rom))) (clean_free (hex3 (length rom)) (hex3_clean (length rom))).3 in
    ap lines_in (append_assoc raw (10 ∷ []) lines)
    ∙ ap (λ (t : List ℕ). parsed_all (lines_of t)) (upper_append raw (10 ∷ lines))
    ∙ ap parsed_all (line_first (uppers raw) (uppers lines) free_line)
    ∙ (λ j. header_read (length rom) j ∷ all_lines (items_of rom) (items_of rom) (each_readable c) j)

pub every_listing_comes_back : EveryListingComesBack
unfolding assembled
every_listing_comes_back rom l h =
    let n = length rom in
    let all = items_of rom in
    let c = chain false 0 rom h (omega arith) in
    let lines = header n ∷ lines_for all all in
    let bytes : bytes_all all ≡ rom = every_byte false 0 rom in
    let fits : 0 + length (bytes_all all) ≤ n = omega (arith, ap length bytes) in
    ap (λ (ls : List Line). assembled_from ls 1 start ls) (lines_in_lem rom c)
    ∙ go_on lines 1 start (given n []) (header n) (lines_for all all) (header_step lines n l)
    ∙ all_steps lines all n l all 2 [] c (known all n c all c (λ a e. e) (λ a e. e)) refl fits
    ∙ ap (λ (b : List ℕ). bytes_alone (take n (filled (b ++ replicate (2000 - length b) no_byte)))) bytes
    ∙ ap bytes_alone (bytes_back rom (replicate (2000 - n) no_byte) h)
