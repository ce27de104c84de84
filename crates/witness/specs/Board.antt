-- A list of the board's calls on one image, with refused calls among them, and what the theorems have to say of it: a figure or a
-- plain fact for each clause. Assumes nothing: these are definitions.
use Rattle.std.specs.Prelude.{ℕ, suc, ◌≡◌, List, [], ◌∷◌, ◌++◌, map, get_or, take, replicate}
use Rattle.runs.specs.declared.Version.TheVariants.{One, Two}
use Rattle.runs.specs.TwoRunners.{stopped, refused, save_answer, restore_answer}
use Rattle.runs.specs.Lists.{Each}
use Rattle.upd546.specs.TheMachine.{fresh}
use Rattle.upd546.specs.TheSheet.{upd546_sheet}
use Rattle.upd546.specs.StateImage.{image_of}
use Rattle.upd546.specs.TwoRunners.{chip, upd546}
use Rattle.calls.specs.Call.{BoardCall, BoardAnswer, call_answer, board_answer}
use Rattle.calls.specs.EveryCall.{end_by, call_refusal, figure_at}
use Rattle.calls.specs.Lists.{calls_not_refused, image_after, call_logs, figure_total, joined}
use Rattle.witness.specs.Calls.{rom, sched, entry_bytes, wanted_log, wanted_image}

-- THE CALLS, each on an image

-- one cycle, by the plain runner, on a log of just 16n bytes: OCD is cut in two
abbrev pub first : List ℕ → BoardCall
first image = record {
  image = image;
  rom = rom;
  sched = sched;
  log = replicate 16 7;
  n = 1;
  runner = 0;
  report = replicate 34 9;
  sheet = upd546_sheet;
}

-- thirteen cycles, over a reset, by the timer-skipping runner: 256 isn't 0
abbrev pub second : List ℕ → BoardCall
second image = record {
  image = image;
  rom = rom;
  sched = sched;
  log = replicate 208 0;
  n = 13;
  runner = 256;
  report = replicate 32 9;
  sheet = upd546_sheet;
}

-- a report of 31 bytes, with a ROM that 21 would refuse
abbrev pub short_report : List ℕ → BoardCall
short_report image = record {
  image = image;
  rom = [];
  sched = [];
  log = [];
  n = 5;
  runner = 0;
  report = replicate 31 9;
  sheet = upd546_sheet;
}

-- a ROM of one byte
abbrev pub bad_rom : List ℕ → BoardCall
bad_rom image = record {
  image = image;
  rom = 1 ∷ [];
  sched = [];
  log = 6 ∷ 6 ∷ [];
  n = 5;
  runner = 1;
  report = replicate 33 9;
  sheet = upd546_sheet;
}

-- the same ROM with an image that is none: 31 comes before 21
abbrev pub on_other : BoardCall
on_other = bad_rom (5 ∷ [])

-- the same ROM with an image of version 1, which a restore takes: 31 too
abbrev pub on_old : BoardCall
on_old = bad_rom (image_of One fresh)

-- no cycles, at the end, and no log
abbrev pub last : List ℕ → BoardCall
last image = record { image = image; rom = rom; sched = sched; log = []; n = 0; runner = 0; report = replicate 32 0; sheet = upd546_sheet }

abbrev pub start : List ℕ
start = image_of Two fresh

abbrev pub between : List ℕ
between = (call_answer upd546 (first start)).image

-- refused are the second and the third by 31, the fourth by 1 and the fifth by 21
abbrev pub calls : List BoardCall
calls = first start ∷ on_other ∷ on_old ∷ short_report between ∷ bad_rom between ∷ second between ∷ []

abbrev pub carried_out : List BoardCall
carried_out = first start ∷ second between ∷ []

-- with refused calls whose reports have 32 bytes
abbrev pub reported_calls : List BoardCall
reported_calls = first start ∷ on_other ∷ bad_rom between ∷ second between ∷ []

-- on one image, one after the other
abbrev pub on_one : List BoardCall
on_one = first start ∷ short_report between ∷ bad_rom between ∷ second between ∷ []

-- THE FIGURES

-- a call that was refused with this number left image and log, and this report
abbrev pub left : ℕ → BoardCall → List ℕ → BoardAnswer
left k c report = record { number = k; image = c.image; log = c.log; report = report }

pub record BoardFigures : Type 0 where
  -- `ends`
  pub image : image_after chip start carried_out ≡ wanted_image
  pub restored : (restore_answer upd546 (image_after chip start carried_out)).state.core.flow.pc ≡ 4
  pub log : joined (call_logs chip carried_out) ≡ wanted_log
  pub cycles : figure_total chip 0 carried_out ≡ 11
  pub begun : figure_total chip 8 carried_out ≡ 6
  pub not_all_finish : Each (λ c. (board_answer chip c).number ≡ 0) carried_out → ⊥
  pub each_stop : Each (λ c. (k : ℕ) → (board_answer chip c).number ≡ suc k → suc k ≡ 23) carried_out
  -- and of the first call alone
  pub all_finish : (call_answer upd546 (first start)).number ≡ 0
  -- `nothing`
  pub joined_log_is : joined (call_logs chip reported_calls) ≡ wanted_log
  pub all_cycles : figure_total chip 0 reported_calls ≡ 11
  pub all_begun : figure_total chip 8 reported_calls ≡ 6
  -- `refusals`, `unchanged`
  pub numbers : map (λ c. call_refusal (chip c.sheet) c) calls ≡ 0 ∷ 31 ∷ 31 ∷ 1 ∷ 21 ∷ 0 ∷ []
  pub by_31 : call_answer upd546 on_other ≡ left 31 on_other (replicate 32 0 ++ (9 ∷ []))
  pub by_31_old : call_answer upd546 on_old ≡ left 31 on_old (replicate 32 0 ++ (9 ∷ []))
  pub by_1 : call_answer upd546 (short_report between) ≡ left 1 (short_report between) (replicate 31 9)
  pub by_21 : call_answer upd546 (bad_rom between) ≡ left 21 (bad_rom between) (replicate 32 0 ++ (9 ∷ []))
  -- `goes_on`
  pub next : call_refusal upd546 (last wanted_image) ≡ 0
  -- `EveryFinishOrStopRewrites`: in the middle of OCD
  pub saved : (save_answer upd546 Two (restore_answer upd546 between).state start).number ≡ 0
  pub owed_byte : get_or between 17 0 ≡ 1
  pub owed_kept : (restore_answer upd546 between).state.core.owed ≡ 1
  -- `EveryCallTellsItsRun`: of a stop
  pub second_end : end_by (call_answer upd546 (second between)).number ≡ stopped 23
  pub second_log : take 16 (call_answer upd546 (second between)).log ≡ entry_bytes 3 4 3 ++ entry_bytes 4 0 0
  pub second_cycles : figure_at upd546 0 (second between) ≡ 10
  pub second_begun : figure_at upd546 8 (second between) ≡ 5
  pub second_written : figure_at upd546 16 (second between) ≡ 40
  pub second_steps : figure_at upd546 24 (second between) ≡ 10
  -- and of a refusal, with counts of zero
  pub refused_end : end_by (call_answer upd546 (bad_rom between)).number ≡ refused 21
  pub refused_log : (call_answer upd546 (bad_rom between)).log ≡ 6 ∷ 6 ∷ []
  pub refused_cycles : figure_at upd546 0 (bad_rom between) ≡ 0
  pub refused_written : figure_at upd546 16 (bad_rom between) ≡ 0
  -- `EveryListOnOneImageIsMeant`, `EveryAcceptedImageEndsAsOneRun`
  pub one_image : image_after chip start on_one ≡ wanted_image
  pub one_image_log : joined (call_logs chip (calls_not_refused chip on_one)) ≡ wanted_log
