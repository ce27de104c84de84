-- "the power-off guarantee is to be read over lists of this call on one image too, each call standing for a slice", over any
-- machine: which lists are meant, what the board gets of them, and what is claimed of each. Assumes nothing: these are definitions.
use Rattle.std.specs.Prelude.{ℕ, zero, suc, ◌+◌, ◌≤◌, ◌≡◌, ◌↔◌, List, [], ◌∷◌, ◌++◌, length, take}
use Rattle.std.proofs.Math.Option.{none, some}
use Rattle.runs.specs.declared.Version.TheVariants.{Two}
use Rattle.runs.specs.Machine.{Machine}
use Rattle.runs.specs.Refusals.{cycle_limit}
use Rattle.runs.specs.TwoRunners.{log_bound, Ran, unbroken, restore_answer, current_answer}
use Rattle.runs.specs.Laws.{Bytes, Panel}
use Rattle.runs.specs.Lists.{Each}
use Rattle.upd546.specs.declared.Sheet.{Sheet}
use Rattle.calls.specs.Call.{BoardCall, report_length, board_answer}
use Rattle.calls.specs.EveryCall.{call_refusal, call_number, CallChangesNothing, figure_at}

-- THE LISTS MEANT

-- "one sheet for all calls of a list that aren't refused" (R-11); "Every run not refused is lent the panel's ROM and schedule" (demand
-- 3), and "a log of 16n bytes for n cycles" (R-8)
pub record PanelLent (sheet : Sheet) (rom sched : List ℕ) (c : BoardCall) : Type 0 where
  pub same_sheet : c.sheet ≡ sheet
  pub same_rom : c.rom ≡ rom
  pub same_sched : c.sched ≡ sched
  pub room : log_bound c.n ≤ length c.log

-- a call before others, dropped where it is refused
abbrev pub keep_call : ℕ → BoardCall → List BoardCall → List BoardCall
keep_call zero c cs = c ∷ cs
keep_call (suc k) c cs = cs

module _ {S : Type 0} (M : Sheet → Machine S) where
  -- the calls not refused, by the numbers that they answer
  abbrev pub calls_not_refused : List BoardCall → List BoardCall
  calls_not_refused [] = []
  calls_not_refused (c ∷ cs) = keep_call (call_refusal (M c.sheet) c) c (calls_not_refused cs)

  -- a call on this image, and on the panel unless it is refused
  pub record CallLent (sheet : Sheet) (rom sched image : List ℕ) (c : BoardCall) : Type 0 where
    pub same_image : c.image ≡ image
    pub lent : call_refusal (M c.sheet) c ≡ 0 → PanelLent sheet rom sched c

  -- "on one image": each call is given what the one before it left
  abbrev pub OnOneImage : Sheet → (rom sched image : List ℕ) → List BoardCall → Type 0
  OnOneImage sheet rom sched image [] = Unit {0}
  OnOneImage sheet rom sched image (c ∷ cs) = CallLent sheet rom sched image c × OnOneImage sheet rom sched (board_answer M c).image cs

  -- WHAT THE BOARD GETS: images, logs and reports as the calls leave them

  -- the image after the last call
  abbrev pub image_after : List ℕ → List BoardCall → List ℕ
  image_after image [] = image
  image_after image (c ∷ cs) = image_after (board_answer M c).image cs

  -- of each call the front of its log, as many bytes as its report says: "the log bytes written by each run, as they stand when it
  -- returns, in list order"
  abbrev pub call_logs : List BoardCall → List (List ℕ)
  call_logs [] = []
  call_logs (c ∷ cs) = take (figure_at (M c.sheet) 16 c) (board_answer M c).log ∷ call_logs cs

  -- a figure of the reports, added up
  abbrev pub figure_total : ℕ → List BoardCall → ℕ
  figure_total at [] = 0
  figure_total at (c ∷ cs) = figure_at (M c.sheet) at c + figure_total at cs

-- "The joined log"
abbrev pub joined : List (List ℕ) → List ℕ
joined [] = []
joined (l ∷ ls) = l ++ joined ls

-- "N machine cycles, the sum of what the runs not refused are asked for" (demand 3), of such calls
abbrev pub calls_ask : List BoardCall → ℕ
calls_ask [] = 0
calls_ask (c ∷ cs) = c.n + calls_ask cs

module _ {S : Type 0} (M : Sheet → Machine S) where
  -- HOW A LIST ENDS

  -- Calls on an image, none of them refused, end as the run u ends: "Final image, joined log, cycle total and instruction total are
  -- the same. All runs not refused finish exactly when the unbroken one does; otherwise every stop in the list has its number."
  pub record CallsEndAs (sheet : Sheet) (start : List ℕ) (cs : List BoardCall) (u : Ran S) : Type 0 where
    pub image : image_after M start cs ≡ (M sheet).image Two u.state
    pub state : restore_answer (M sheet) (image_after M start cs) ≡ record { number = 0; state = u.state }
    pub log : joined (call_logs M cs) ≡ u.bytes
    pub cycles : figure_total M 0 cs ≡ u.cycles
    pub begun : figure_total M 8 cs ≡ u.begun
    pub finish : Each (λ c. (board_answer M c).number ≡ 0) cs ↔ (u.number ≡ none)
    pub stops : Each (λ c. (k : ℕ) → (board_answer M c).number ≡ suc k → u.number ≡ some (suc k)) cs

  -- the calls of one list and of the other join to the same log, and their reports add up to the same
  pub record SameFigures (p q : List BoardCall) : Type 0 where
    pub log : joined (call_logs M p) ≡ joined (call_logs M q)
    pub cycles : figure_total M 0 p ≡ figure_total M 0 q
    pub begun : figure_total M 8 p ≡ figure_total M 8 q

  -- THE CLAIM

  -- THE POWER-OFF GUARANTEE, of one list of calls on an image of s.
  pub record CallsEndAsOneRun (sheet : Sheet) (rom sched image : List ℕ) (s : S) (calls : List BoardCall) : Type 0 where
    pub ends : CallsEndAs sheet image (calls_not_refused M calls) (unbroken (M sheet) rom sched (calls_ask (calls_not_refused M calls)) s)
    -- "A refused call counts for nothing": a board that adds up all reports and joins all logs comes to the same, where each report
    -- has its 32 bytes
    pub nothing : Each (λ c. report_length ≤ length c.report) calls → SameFigures calls (calls_not_refused M calls)
    -- refused are those that the documents' numbers refuse, and these change nothing
    pub refusals : Each (λ c. call_refusal (M c.sheet) c ≡ call_number (M c.sheet) c) calls
    pub unchanged : Each (λ c. CallChangesNothing (M c.sheet) (call_refusal (M c.sheet) c) c) calls
    -- "A list may go on": a sound next call isn't refused.
    pub goes_on : (c : BoardCall) → c.image ≡ image_after M image (calls_not_refused M calls) → PanelLent sheet rom sched c
        → report_length ≤ length c.report
        → (M sheet).at s + (calls_ask (calls_not_refused M calls) + c.n) ≤ cycle_limit → call_refusal (M c.sheet) c ≡ 0

  -- Every list of calls from the version 2 image of an accepted state, whose calls not refused are on one image, "for every legal
  -- sheet". Of refused calls nothing is asked: they may be given anything, another image and another sheet too.
  abbrev pub EveryListOfCallsEndsAsOneRun : Type 0
  EveryListOfCallsEndsAsOneRun =
      (sheet : Sheet) (rom sched : List ℕ) (s : S) (calls : List BoardCall) → Panel (M sheet) rom sched → (M sheet).state_number s ≡ 0
      → OnOneImage M sheet rom sched ((M sheet).image Two s) (calls_not_refused M calls)
      → CallsEndAsOneRun sheet rom sched ((M sheet).image Two s) s calls

  -- The same from any bytes that a restore accepts where version 2 is due.
  abbrev pub EveryAcceptedImageEndsAsOneRun : Type 0
  EveryAcceptedImageEndsAsOneRun =
      (sheet : Sheet) (rom sched image : List ℕ) (calls : List BoardCall) → Bytes image → Panel (M sheet) rom sched
      → (current_answer (M sheet) image).number ≡ 0
      → OnOneImage M sheet rom sched image (calls_not_refused M calls)
      → CallsEndAsOneRun sheet rom sched image (current_answer (M sheet) image).state calls

  -- Such is every list on one image, refused calls too, and the image that the last of them leaves is that of the calls not refused.
  abbrev pub EveryListOnOneImageIsMeant : Type 0
  EveryListOnOneImageIsMeant =
      (sheet : Sheet) (rom sched image : List ℕ) (calls : List BoardCall) → OnOneImage M sheet rom sched image calls
      → OnOneImage M sheet rom sched image (calls_not_refused M calls)
      × (image_after M image calls ≡ image_after M image (calls_not_refused M calls))
