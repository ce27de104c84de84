-- The listing in a buffer. Assumes nothing: these are definitions.
use Rattle.std.specs.Prelude.{◌≡◌, false, cond, List, [], ◌∷◌, ◌++◌, ℕ, ◌+◌, ◌≤◌, leb, length, drop}
use Rattle.upd546.specs.TheMachine.{rom_length}
use Rattle.upd546.specs.Instructions.{instruction}
use Rattle.upd546.specs.Reports.{space}
use Rattle.mnemonics.specs.Texts.{ascii, hex3}
use Rattle.mnemonics.specs.Kinds.{kind_by}
use Rattle.listing.specs.declared.Shown.{Shown}
use Rattle.listing.specs.declared.ItemsFrom.{ItemsFrom}
use Rattle.listing.specs.Listing.{Item, items_from, bytes_text, listing_text}

-- an item, with the code's kind of operand
abbrev pub item_by : Shown → Item
item_by s = record { at = s.at; code = s.code; second = s.second; kind = kind_by s.kind }

-- the items of a ROM from an address on
abbrev pub items_left : ItemsFrom → List Item
items_left s = items_from false s.at (drop s.at s.rom.bytes.now)

-- the columns behind the statement: the comment but for its remark
abbrev pub columns : Item → List ℕ
columns i = ascii " ; " ++ hex3 i.at ++ space ++ bytes_text i ++ space ++ ((48 + (instruction i.code).cycles) ∷ [])

-- how many bytes a line has at most, and a text
abbrev pub line_length : ℕ
line_length = 48

abbrev pub text_length : ℕ
text_length = 131072

-- a ROM has at most 2,000 bytes: of more there is no listing
unfoldable pub listed_text : List ℕ → List ℕ
listed_text rom = cond (leb (length rom) rom_length) (listing_text rom) []

-- what `list` leaves in its buffer: the text at the front, r bytes, and behind it what was there
pub record Listed (rom before after : List ℕ) (r : ℕ) : Type 0 where
  pub fits : r ≤ length after
  pub size : r ≡ length (listed_text rom)
  pub text : after ≡ listed_text rom ++ drop r before
