-- Request R-7, over any machine: "For every list of stores and recalls from an empty store that nobody else writes, a recall hands back the
-- part of the store that holds the last image stored under that name (an empty part when refused), and a run from it equals a run from
-- the stored state with the same runner, ROM, schedule, n and log. A refused store changes nothing."
-- Assumes nothing: these are definitions.
use Rattle.std.specs.Prelude.{ℕ, zero, suc, ◌+◌, ◌-◌, ◌*◌, ◌≡◌, Bool, true, false, cond, ◌||◌, List, [], ◌∷◌, ◌++◌, ltb, length, replicate}
use Rattle.std.proofs.Math.Option.{Option, none, some}
use Rattle.runs.specs.declared.Version.TheVariants.{Two}
use Rattle.runs.specs.Machine.{Machine}
use Rattle.runs.specs.Refusals.{unless}
use Rattle.runs.specs.TwoRunners.{restore_answer}
use Rattle.runs.specs.Lists.{Kind, Each, run_answer, WrittenBy}
use Rattle.upd546.specs.Bytes.{part}
use Rattle.upd546.specs.Sequences.{same_numbers}
use Rattle.store.specs.Entries.{legal_name, Entry, entry_bytes, entry_length, accepted}
use Rattle.store.specs.Answers.{place_in, store_number, store_answer, recall_number, recall_answer}

-- The calls.

-- A store or a recall, with all that it is given; the sheet last (R-11).
pub data Call (Sheet : Type 0) : Type 0 where
  keep : (store name image : List ℕ) → Sheet → Call Sheet
  recall : (store name : List ℕ) → Sheet → Call Sheet

-- The same without the store, and what it is once there is one.
pub data Request (Sheet : Type 0) : Type 0 where
  keep_under : (name image : List ℕ) → Sheet → Request Sheet
  recall_of : (name : List ℕ) → Sheet → Request Sheet

abbrev pub made_on : {Sheet : Type 0} → List ℕ → Request Sheet → Call Sheet
made_on store (keep_under name image sheet) = keep store name image sheet
made_on store (recall_of name sheet) = recall store name sheet

abbrev pub sheet_of : {Sheet : Type 0} → Call Sheet → Sheet
sheet_of (keep store name image sheet) = sheet
sheet_of (recall store name sheet) = sheet

-- the store that the call is lent
abbrev pub lent_to : {Sheet : Type 0} → Call Sheet → List ℕ
lent_to (keep store name image sheet) = store
lent_to (recall store name sheet) = store

-- a call before others, dropped where it is refused
abbrev pub unless_refused : {Sheet : Type 0} → ℕ → Call Sheet → List (Call Sheet) → List (Call Sheet)
unless_refused zero c cs = c ∷ cs
unless_refused (suc k) c cs = cs

-- What a list of calls comes to, whatever bytes a store is made of.

-- "the last image stored under that name", where `held` was it before
abbrev pub last_stored : {Sheet : Type 0} → List ℕ → Option (List ℕ) → List (Call Sheet) → Option (List ℕ)
last_stored name held [] = held
last_stored name held (keep store name' image sheet ∷ cs) = last_stored name (cond (same_numbers name name') (some image) held) cs
last_stored name held (recall store name' sheet ∷ cs) = last_stored name held cs

-- a name among others: it stays where it is, and a new one comes last
abbrev pub add_name : List ℕ → List (List ℕ) → List (List ℕ)
add_name name [] = name ∷ []
add_name name (n ∷ ns) = cond (same_numbers name n) (n ∷ ns) (n ∷ add_name name ns)

-- "in the order first stored": the names behind those that stood there before
abbrev pub first_stored : {Sheet : Type 0} → List (List ℕ) → List (Call Sheet) → List (List ℕ)
first_stored names [] = names
first_stored names (keep store name image sheet ∷ cs) = first_stored (add_name name names) cs
first_stored names (recall store name sheet ∷ cs) = first_stored names cs

-- how many names stand before this one; all of them where it isn't there
abbrev pub order_of : List ℕ → List (List ℕ) → ℕ
order_of name [] = 0
order_of name (n ∷ ns) = cond (same_numbers name n) 0 (suc (order_of name ns))

abbrev pub is_stored : List ℕ → List (List ℕ) → Bool
is_stored name names = ltb (order_of name names) (length names)

-- "Storing under a known name replaces that entry alone."
abbrev pub put_in : Entry → List Entry → List Entry
put_in e [] = e ∷ []
put_in e (x ∷ es) = cond (same_numbers e.name x.name) (e ∷ es) (x ∷ put_in e es)

-- the entries that the stores of a list leave
abbrev pub entries_after : {Sheet : Type 0} → List Entry → List (Call Sheet) → List Entry
entries_after es [] = es
entries_after es (keep store name image sheet ∷ cs) = entries_after (put_in (record { name = name; image = image }) es) cs
entries_after es (recall store name sheet ∷ cs) = entries_after es cs

-- "each entry name then image"
abbrev pub joined : List Entry → List ℕ
joined [] = []
joined (e ∷ es) = entry_bytes e ++ joined es

-- Their bytes, in a store with so many places: "the unused tail, which is all zero".
abbrev pub laid_out : (long places : ℕ) → List Entry → List ℕ
laid_out long places es = joined es ++ replicate (entry_length long * (places - length es)) 0

-- The machine of each sheet is M.
module _ {Sheet S : Type 0} (M : Sheet → Machine S) where
  -- the number by which the call's answer says that it was refused, else 0
  abbrev pub refusal : Call Sheet → ℕ
  refusal (keep store name image sheet) = (store_answer (M sheet) store name image).number
  refusal (recall store name sheet) = (recall_answer (M sheet) store name).number

  -- the number by which the request refuses it
  abbrev pub document_number : Call Sheet → ℕ
  document_number (keep store name image sheet) = store_number (M sheet) store name image
  document_number (recall store name sheet) = recall_number (M sheet) store name

  -- the store as the call leaves it; a recall only reads it
  abbrev pub leaves : Call Sheet → List ℕ
  leaves (keep store name image sheet) = (store_answer (M sheet) store name image).store
  leaves (recall store name sheet) = store

  abbrev pub not_refused : List (Call Sheet) → List (Call Sheet)
  not_refused [] = []
  not_refused (c ∷ cs) = unless_refused (refusal c) c (not_refused cs)

  -- Which lists are meant.

  -- the store behind calls, where it was `held` before them
  abbrev pub last : List ℕ → List (Call Sheet) → List ℕ
  last held [] = held
  last held (c ∷ cs) = last (leaves c) cs

  -- "that nobody else writes": each call is lent the store as the one before it left it
  abbrev pub AllLent : List ℕ → List (Call Sheet) → Type 0
  AllLent held [] = Unit {0}
  AllLent held (c ∷ cs) = (lent_to c ≡ held) × AllLent (leaves c) cs

  abbrev pub image_length : Sheet → ℕ
  image_length sheet = (M sheet).image_length Two

  -- "an empty store", with so many places
  abbrev pub empty_store : Sheet → ℕ → List ℕ
  empty_store sheet places = replicate (entry_length (image_length sheet) * places) 0

  -- THE LISTS MEANT: of the calls not refused. Refused ones may stand anywhere, given anything, another store and sheet too.
  pub record Meant (sheet : Sheet) (places : ℕ) (calls : List (Call Sheet)) : Type 0 where
    -- "one sheet for all calls of a list that aren't refused" (R-11)
    pub one_sheet : Each (λ c. sheet_of c ≡ sheet) (not_refused calls)
    pub given : AllLent (empty_store sheet places) (not_refused calls)

  -- What is claimed of a list.

  -- a recall that isn't refused, behind these calls
  pub record HandsBackTheLast (sheet : Sheet) (before : List (Call Sheet)) (store name : List ℕ) : Type 0 where
    -- "the part of the store that holds the last image stored under that name"
    pub image : last_stored name none before ≡ some (recall_answer (M sheet) store name).part
    -- it stands in the place that its name has in "the order first stored"
    pub place : place_in (M sheet) store name ≡ order_of name (first_stored [] before)
    -- a restore takes it
    pub restores : (restore_answer (M sheet) (recall_answer (M sheet) store name).part).number ≡ 0
    -- "a run from it equals a run from the stored state with the same runner, ROM, schedule, n and log": in all that it answers
    pub runs : (s : S) (stored : List ℕ) → last_stored name none before ≡ some stored → WrittenBy (M sheet) s stored
        → (kind : Kind) (rom sched log : List ℕ) (n : ℕ)
        → run_answer (M sheet) kind rom sched (restore_answer (M sheet) (recall_answer (M sheet) store name).part).state log n
        ≡ run_answer (M sheet) kind rom sched s log n

  -- a store that isn't refused, behind these calls: its entry, and the others, which stay
  pub record KeepsTheOthers (sheet : Sheet) (before : List (Call Sheet)) (store name image : List ℕ) : Type 0 where
    pub entry : part (store_answer (M sheet) store name image).store
        (entry_length (image_length sheet) * order_of name (first_stored [] before)) (entry_length (image_length sheet))
        ≡ name ++ image
    pub others : (i : ℕ) → (i ≡ order_of name (first_stored [] before) → ⊥)
        → part (store_answer (M sheet) store name image).store (entry_length (image_length sheet) * i) (entry_length (image_length sheet))
        ≡ part store (entry_length (image_length sheet) * i) (entry_length (image_length sheet))

  -- "A refused store changes nothing"; "an empty part when refused": of a call with this number, where it isn't 0
  abbrev pub ChangesNothing : ℕ → Call Sheet → Type 0
  ChangesNothing zero c = Unit {0}
  ChangesNothing (suc k) (keep store name image sheet) = store_answer (M sheet) store name image ≡ record { number = suc k; store = store }
  ChangesNothing (suc k) (recall store name sheet) = recall_answer (M sheet) store name ≡ record { number = suc k; part = [] }

  -- What may be called next, where so many names were stored in this order: "52 no such name to recall; 53 no unused entry for a new name",
  -- and else it isn't refused.
  pub record NextCalls (sheet : Sheet) (places : ℕ) (names : List (List ℕ)) (store : List ℕ) : Type 0 where
    pub next_recall : (name : List ℕ) → legal_name name ≡ true → recall_number (M sheet) store name ≡ unless (is_stored name names) 52
    pub next_store : (name image : List ℕ) → legal_name name ≡ true → accepted (M sheet) image ≡ true
        → store_number (M sheet) store name image ≡ unless (is_stored name names || ltb (length names) places) 53

  -- OF ONE LIST.
  pub record KeepsTheLast (sheet : Sheet) (places : ℕ) (calls : List (Call Sheet)) : Type 0 where
    pub recalls : (before after : List (Call Sheet)) (store name : List ℕ) (sheet' : Sheet)
        → not_refused calls ≡ before ++ recall store name sheet' ∷ after → HandsBackTheLast sheet before store name
    pub stores : (before after : List (Call Sheet)) (store name image : List ℕ) (sheet' : Sheet)
        → not_refused calls ≡ before ++ keep store name image sheet' ∷ after → KeepsTheOthers sheet before store name image
    -- the whole store, at the end
    pub store : last (empty_store sheet places) (not_refused calls) ≡ laid_out (image_length sheet) places (entries_after [] (not_refused calls))
    pub unchanged : Each (λ c. ChangesNothing (refusal c) c) calls
    pub refusals : Each (λ c. refusal c ≡ document_number c) calls
    pub goes_on : (M sheet).own_number ≡ 0
        → NextCalls sheet places (first_stored [] (not_refused calls)) (last (empty_store sheet places) (not_refused calls))

  -- "For every list of stores and recalls from an empty store that nobody else writes"
  abbrev pub EveryListKeepsTheLast : Type 0
  EveryListKeepsTheLast = (sheet : Sheet) (places : ℕ) (calls : List (Call Sheet)) → Meant sheet places calls → KeepsTheLast sheet places calls

  -- The calls of requests that are made on one store, one after the other, each lent what the one before it left.
  abbrev pub on_one_store : List ℕ → List (Request Sheet) → List (Call Sheet)
  on_one_store held [] = []
  on_one_store held (r ∷ rs) = made_on held r ∷ on_one_store (leaves (made_on held r)) rs

  -- such a list from an empty store is meant, where the calls that aren't refused have one sheet
  abbrev pub EveryListOnOneStoreIsMeant : Type 0
  EveryListOnOneStoreIsMeant =
      (sheet : Sheet) (places : ℕ) (rs : List (Request Sheet))
      → Each (λ c. sheet_of c ≡ sheet) (not_refused (on_one_store (empty_store sheet places) rs))
      → Meant sheet places (on_one_store (empty_store sheet places) rs)

  -- "71, before all else" (R-11): a call whose sheet is refused is refused with that number, whatever else it is given
  abbrev pub SheetRefusesFirst : Type 0
  SheetRefusesFirst = (c : Call Sheet) (k : ℕ) → (M (sheet_of c)).own_number ≡ suc k → refusal c ≡ suc k

  -- "in this order 51 ..; 53": an image that a restore refuses is 51, whether there is an entry for its name or not
  abbrev pub MalformedRefusesBeforeRoom : Type 0
  MalformedRefusesBeforeRoom =
      (store name image : List ℕ) (sheet : Sheet) → (M sheet).own_number ≡ 0 → accepted (M sheet) image ≡ false
      → refusal (keep store name image sheet) ≡ 51
