-- Request R-12 called from C, over any machine: the state comes from an image, and k goes to the first bytes of a lent buffer. Assumes
-- nothing: these are definitions.
use Rattle.std.specs.Prelude.{ℕ, zero, suc, ◌≡◌, Bool, true, false, List, ◌++◌, leb, length, drop}
use Rattle.runs.specs.Machine.{Machine}
use Rattle.runs.specs.TwoRunners.{current_answer}
use Rattle.upd546.specs.Bytes.{bytes_of}
use Rattle.shortest.specs.Search.{Found, shortest_answer, LogLeft}

-- the bytes of k
abbrev pub found_length : ℕ
found_length = 8

-- What the call answers: its number, and the lent buffer for k as it stands when it returns.
pub record CallAnswer : Type 0 where
  pub number : ℕ
  pub found : List ℕ

-- k as 8 bytes, big-endian, in the first of the buffer; those behind them stay. With every number but the stop's own k is 0.
abbrev pub written : Found → List ℕ → CallAnswer
written f found = record { number = f.number; found = bytes_of found_length f.records ++ drop found_length found }

-- a buffer under 8 bytes: 1, before all else, and not written
abbrev pub on_length : Bool → Found → List ℕ → CallAnswer
on_length true f found = written f found
on_length false f found = record { number = 1; found = found }

module _ {S : Type 0} (M : Machine S) (image rom sched : List ℕ) (n : ℕ) (log : List ℕ) where
  -- the image's numbers first, as with R-3's call; then what is found from its state
  abbrev pub on_restored : ℕ → S → Found
  on_restored zero s = shortest_answer M rom sched s n log
  on_restored (suc k) s = record { number = suc k; records = 0 }

  unfoldable pub image_found : Found
  image_found = on_restored (current_answer M image).number (current_answer M image).state

  -- THE CALL
  unfoldable pub call_answer : List ℕ → CallAnswer
  call_answer found = on_length (leb found_length (length found)) image_found found

  -- what the lent log holds when the call returns: an image that is refused leaves it
  abbrev pub LeftBy : ℕ → S → List ℕ → Type 0
  LeftBy zero s after = LogLeft M rom sched s n log after
  LeftBy (suc k) s after = after ≡ log

  unfoldable pub ImageLeft : List ℕ → Type 0
  ImageLeft after = LeftBy (current_answer M image).number (current_answer M image).state after

  -- and so does a buffer that is too short
  abbrev pub LeftOnLength : Bool → List ℕ → Type 0
  LeftOnLength true after = ImageLeft after
  LeftOnLength false after = after ≡ log

  -- what the call promises
  pub record Called (found : List ℕ) (r : ℕ) (after found' : List ℕ) : Type 0 where
    pub answer : record { number = r; found = found' } ≡ call_answer found
    pub left : LeftOnLength (leb found_length (length found)) after

  -- and what is found of an image
  pub record FoundIn (f : Found) (after : List ℕ) : Type 0 where
    pub found : f ≡ image_found
    pub left : ImageLeft after
