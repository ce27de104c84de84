-- Every line of a listing is read as what it was made of. Assumes nothing.
use mathlib.Core.Path.{◌≡◌, ◌∙◌, refl, sym, ap, subst}
use mathlib.Core.Bool.{Bool, true, false, cond, ◌&&◌}
use mathlib.Core.List.{List, [], ◌∷◌, ◌++◌, append_assoc, append-nil}
use Prim.Native.Nat.{ℕ, suc, ◌+◌, ◌-◌, ◌%◌}
use lib.Dec.{T, leb}
use lib.ListN.{length, replicate-append-replicate}
use Rattle.upd546.specs.Reports.{space}
use Rattle.mnemonics.specs.Texts.{ascii, hex1, hex2, hex3}
use Rattle.mnemonics.specs.Mnemonics.{Kind, without, bits, nibble, byte, far, zero_page, in_page, no_instruction, leads_for, none_for, word_of, operand_text, byte_text}
use Rattle.listing.specs.Listing.{Item, led_to, begins, lines_text, target, label_of, label_text, field_text, statement_text, comment}
use Rattle.assembly.specs.Grammar.{uppers, is_newline, lines_of, Line, parsed, parsed_all}
use Rattle.every_listing.proofs.Parts.{free, free_append, blanks_free, clean_free, line_first, blanks, upper_blanks, upper_append, clean, upper_clean, line_of, alone, with_operand}
use Rattle.every_listing.proofs.Digits.{hex1_clean, hex2_clean, hex3_clean}
use Rattle.every_listing.proofs.Codes.{trimmed, Word}
use Rattle.every_listing.proofs.Shapes.{word_read, operand_read, label_read, label_clean, comment-free, upper_free, filled_word, line_front, parsed_alone, parsed_operand, line_upper}

-- a word filled up, a space, an operand filled up
abbrev filled : List ℕ → ℕ → List ℕ → ℕ → List ℕ
filled w n o m = w ++ blanks n ++ space ++ (o ++ blanks m)

filled_upper : (w : List ℕ) (n : ℕ) (o : List ℕ) (m : ℕ) → T (clean w) → T (clean o) → uppers (filled w n o m) ≡ filled w n o m
unfolding uppers
filled_upper w n o m hw ho =
    upper_append (w ++ blanks n ++ space) (o ++ blanks m)
    ∙ ap (λ (r : List ℕ). r ++ uppers (o ++ blanks m)) (upper_append (w ++ blanks n) space ∙ ap (λ (r : List ℕ). r ++ space) (word w n hw))
    ∙ ap (λ (r : List ℕ). w ++ blanks n ++ space ++ r) (word o m ho)
  where
    word : (x : List ℕ) (k : ℕ) → T (clean x) → uppers (x ++ blanks k) ≡ x ++ blanks k
    word x k h = upper_append x (blanks k) ∙ ap (λ (r : List ℕ). r ++ uppers (blanks k)) (upper_clean x h) ∙ ap (λ (r : List ℕ). x ++ r) (upper_blanks k)

filled_shape : (w : List ℕ) (n : ℕ) (o : List ℕ) (m : ℕ) → filled w n o m ++ 32 ∷ [] ≡ w ++ 32 ∷ (blanks n ++ (o ++ 32 ∷ blanks m))
filled_shape w n o m =
    regroup (w ++ blanks n) (o ++ blanks m)
    ∙ filled_word w n ((o ++ blanks m) ++ 32 ∷ [])
    ∙ ap (λ (r : List ℕ). w ++ 32 ∷ (blanks n ++ r)) (filled_word o m [] ∙ ap (λ (r : List ℕ). o ++ 32 ∷ r) (append-nil (blanks m)))
  where
    regroup : (x y : List ℕ) → x ++ space ++ y ++ 32 ∷ [] ≡ x ++ 32 ∷ (y ++ 32 ∷ [])
    regroup x y = simp append_assoc

-- a text is one line, and is read so
pub record Reads (raw : List ℕ) (line : Line) : Type 0 where
  pub one_line : T (free is_newline (uppers raw))
  pub reads : parsed (uppers raw) ≡ line

module _ (led : Bool) (a : ℕ) (st cm : List ℕ) (hc : T (free is_newline cm)) where
  abbrev text : List ℕ
  text = label_text led a ++ space ++ st ++ ascii " ;" ++ cm

  front_free : (s : List ℕ) → T (free is_newline s) → T (free is_newline (line_front led a s ++ 59 ∷ uppers cm))
  front_free s h = free_append is_newline (line_front led a s) (59 ∷ uppers cm) (go led) (upper_free cm hc)
    where
      go : (b : Bool) → T (free is_newline (line_front b a s))
      go true = free_append is_newline (label_of a) (58 ∷ s) (clean_free (label_of a) (label_clean a)).3 h
      go false = free_append is_newline (blanks 5) s tt h

  filled_free : (w : List ℕ) (n : ℕ) (o : List ℕ) (m : ℕ) → T (clean w) → T (clean o) → T (free is_newline (w ++ 32 ∷ (blanks n ++ (o ++ 32 ∷ blanks m))))
  filled_free w n o m hw ho =
      free_append is_newline w (32 ∷ (blanks n ++ (o ++ 32 ∷ blanks m))) (clean_free w hw).3
      (free_append is_newline (blanks n) (o ++ 32 ∷ blanks m) (blanks_free n).3 (free_append is_newline o (32 ∷ blanks m) (clean_free o ho).3 (blanks_free m).3))

  shaped : (w : List ℕ) (n : ℕ) (o : List ℕ) (m : ℕ) → uppers st ≡ filled w n o m → uppers text ≡ line_front led a (32 ∷ (w ++ 32 ∷ (blanks n ++ (o ++ 32 ∷ blanks m)))) ++ 59 ∷ uppers cm
  shaped w n o m e =
      line_upper led a st cm
      ∙ ap (λ (t : List ℕ). line_front led a (32 ∷ t) ++ 59 ∷ uppers cm) (ap (λ (t : List ℕ). t ++ 32 ∷ []) e ∙ filled_shape w n o m)

  one_line_lem : (w : List ℕ) (n : ℕ) (o : List ℕ) (m : ℕ) → uppers st ≡ filled w n o m → T (clean w) → T (clean o) → T (free is_newline (uppers text))
  one_line_lem w n o m e hw ho =
      subst (λ (t : List ℕ). T (free is_newline t)) (sym (shaped w n o m e)) (front_free (32 ∷ (w ++ 32 ∷ (blanks n ++ (o ++ 32 ∷ blanks m)))) (filled_free w n o m hw ho))

  read_with : (w : List ℕ) (n : ℕ) (o : List ℕ) (m : ℕ) → uppers st ≡ filled w n o m → T (clean w) → T (leb 1 (length w)) → T (clean o) → T (leb 1 (length o))
      → Reads text (line_of (label_read led a) w o)
  read_with w n o m e hw hn ho hm = record {
    one_line = one_line_lem w n o m e hw ho;
    reads = ap parsed (shaped w n o m e) ∙ parsed_operand led a n (uppers cm) w o m hw hn ho hm;
  }

  read_without : (w : List ℕ) (n : ℕ) → uppers st ≡ filled w n [] 4 → T (clean w) → T (leb 1 (length w)) → Reads text (line_of (label_read led a) w [])
  read_without w n e hw hn = record {
    one_line = one_line_lem w n [] 4 e hw tt;
    reads =
        ap parsed (shaped w n [] 4 e)
        ∙ ap (λ (t : List ℕ). parsed (line_front led a (32 ∷ (w ++ 32 ∷ t)) ++ 59 ∷ uppers cm)) (replicate-append-replicate n 5 32)
        ∙ parsed_alone led a (n + 5) (uppers cm) w hw hn;
  }

-- EVERY ITEM

abbrev pub item_of : ℕ → ℕ → ℕ → Kind → Item
item_of at code second kind = record { at = at; code = code; second = second; kind = kind }

module _ (all : List Item) (led : Bool) (at code second : ℕ) where
  abbrev by_label : Kind → Bool
  by_label k = leads_for k && begins all (target (item_of at code second k))

  abbrev pub line_read : Kind → Line
  line_read k = line_of (label_read led at) (word_read (item_of at code second k)) (operand_read k (by_label k) (item_of at code second k))

  abbrev pub line_raw : Kind → List ℕ
  line_raw k = label_text led at ++ space ++ statement_text all (item_of at code second k) ++ ascii " ;" ++ comment (item_of at code second k)

  module _ (word : Word code) where
    -- an instruction's text: its word filled up, and its operand
    worded : (o : List ℕ) (m : ℕ) → T (clean o) → uppers (word_of code ++ space ++ (o ++ blanks m)) ≡ filled (trimmed code) (3 - length (trimmed code)) o m
    worded o m h = ap (λ (w : List ℕ). uppers (w ++ space ++ (o ++ blanks m))) word.fills ∙ filled_upper (trimmed code) (3 - length (trimmed code)) o m word.is_clean h

    with_operand_lem : (k : Kind) (o : List ℕ) (m : ℕ) → T (clean o) → T (leb 1 (length o)) → statement_text all (item_of at code second k) ≡ word_of code ++ space ++ (o ++ blanks m)
        → Reads (line_raw k) (line_of (label_read led at) (trimmed code) o)
    with_operand_lem k o m h s e =
        read_with led at (statement_text all (item_of at code second k)) (comment (item_of at code second k)) (comment-free (item_of at code second k))
        (trimmed code) (3 - length (trimmed code)) o m (ap uppers e ∙ worded o m h) word.is_clean word.some h s

    jump : (k : Kind) (b : Bool) → by_label k ≡ b → none_for k ≡ false
        → ((c : Bool) → operand_read k c (item_of at code second k) ≡ cond c (label_of (target (item_of at code second k))) (hex3 (target (item_of at code second k))))
        → operand_text k at code second ≡ hex3 (target (item_of at code second k)) ++ space → Reads (line_raw k) (line_read k)
    jump k b e z o t = go b e
      where
        to : ℕ
        to = target (item_of at code second k)

        stated : (c : Bool) → by_label k ≡ c → statement_text all (item_of at code second k) ≡ word_of code ++ space ++ field_text c (item_of at code second k)
        stated c f =
            ap (λ (x : Bool). cond x (byte_text code) (word_of code ++ space ++ field_text (by_label k) (item_of at code second k))) z
            ∙ ap (λ (x : Bool). word_of code ++ space ++ field_text x (item_of at code second k)) f

        same : (c : Bool) → by_label k ≡ c → line_of (label_read led at) (trimmed code) (cond c (label_of to) (hex3 to)) ≡ line_read k
        same c f =
            let q = ap (λ (x : Bool). operand_read k x (item_of at code second k)) f ∙ o c in
            sym (λ j. line_of (label_read led at) (cond (z j) (ascii "BYTE") (trimmed code)) (q j))

        told : {x y : Line} → x ≡ y → Reads (line_raw k) x → Reads (line_raw k) y
        told f r = record { one_line = r.one_line; reads = r.reads ∙ f }

        go : (c : Bool) → by_label k ≡ c → Reads (line_raw k) (line_read k)
        go true f = told (same true f) (with_operand_lem k (label_of to) 0 (label_clean to) tt (stated true f))
        go false f = told (same false f) (with_operand_lem k (hex3 to) 1 (hex3_clean to) tt (stated false f ∙ ap (λ (x : List ℕ). word_of code ++ space ++ x) t))

    read_instruction : (k : Kind) → none_for k ≡ false → Reads (line_raw k) (line_read k)
    read_instruction without z =
        read_without led at (statement_text all (item_of at code second without)) (comment (item_of at code second without)) (comment-free (item_of at code second without))
        (trimmed code) (3 - length (trimmed code)) (worded [] 4 tt) word.is_clean word.some
    read_instruction bits z = with_operand_lem bits (hex1 (code % 4)) 3 (hex1_clean (code % 4)) tt refl
    read_instruction nibble z = with_operand_lem nibble (hex1 code) 3 (hex1_clean code) tt refl
    read_instruction byte z = with_operand_lem byte (hex2 second) 2 (hex2_clean second) tt refl
    read_instruction far z = jump far (by_label far) refl refl (λ c. refl) refl
    read_instruction zero_page z = jump zero_page (by_label zero_page) refl refl (λ c. refl) refl
    read_instruction in_page z = jump in_page (by_label in_page) refl refl (λ c. refl) refl
    read_instruction no_instruction z = absurd (subst (λ (x : Bool). T x) z tt)

  read_byte : Reads (line_raw no_instruction) (line_read no_instruction)
  unfolding uppers
  read_byte =
      read_with led at (byte_text code) (comment (item_of at code second no_instruction)) (comment-free (item_of at code second no_instruction)) (ascii "BYTE") 0 (hex2 code) 1
      (ap (λ (r : List ℕ). ascii "BYTE " ++ r ++ space) (upper_clean (hex2 code) (hex2_clean code))) tt tt (hex2_clean code) tt

  pub read_any : (k : Kind) → (none_for k ≡ false → Word code) → Reads (line_raw k) (line_read k)
  read_any without w = read_instruction (w refl) without refl
  read_any bits w = read_instruction (w refl) bits refl
  read_any nibble w = read_instruction (w refl) nibble refl
  read_any byte w = read_instruction (w refl) byte refl
  read_any far w = read_instruction (w refl) far refl
  read_any zero_page w = read_instruction (w refl) zero_page refl
  read_any in_page w = read_instruction (w refl) in_page refl
  read_any no_instruction w = read_byte

-- ALL LINES

-- an item whose word is in the table, where it has one
abbrev pub Readable : Item → Type 0
Readable i = none_for i.kind ≡ false → Word i.code

abbrev pub line_for : List Item → Item → Line
line_for all i = line_read all (led_to all i.at) i.at i.code i.second i.kind

unfoldable pub lines_for : List Item → List Item → List Line
lines_for all [] = parsed [] ∷ []
lines_for all (i ∷ is) = line_for all i ∷ lines_for all is

pub data Each (P : Item → Type 0) : List Item → Type 0 where
  none : Each P []
  more : {i : Item} {is : List Item} → P i → Each P is → Each P (i ∷ is)

pub all_lines : (all is : List Item) → Each Readable is → parsed_all (lines_of (uppers (lines_text all is))) ≡ lines_for all is
unfolding parsed_all lines_of uppers lines_text lines_for
all_lines all [] none = refl
all_lines all (i ∷ is) (more r rs) =
    let raw = line_raw all (led_to all i.at) i.at i.code i.second i.kind in
    let read = read_any all (led_to all i.at) i.at i.code i.second i.kind r in
    ap (λ (t : List ℕ). parsed_all (lines_of (uppers t))) (append_assoc raw (10 ∷ []) (lines_text all is))
    ∙ ap (λ (t : List ℕ). parsed_all (lines_of t)) (upper_append raw (10 ∷ lines_text all is))
    ∙ ap parsed_all (line_first (uppers raw) (uppers (lines_text all is)) read.one_line)
    ∙ (λ j. read.reads j ∷ all_lines all is rs j)
