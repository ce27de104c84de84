-- The theorems about runs, images, lists and the board's call a second time, for every argument, with the documents' figures in place
-- of names: one that holds of fewer arguments, assumes more or says less doesn't give its line. Assumes nothing: these are definitions.
use Rattle.std.specs.Prelude.{ℕ, suc, ◌+◌, ◌*◌, ◌^◌, ◌<◌, ◌≤◌, ◌≡◌, ◌↔◌, true, false, List, [], ◌∷◌, ◌++◌, length, take, drop}
use Rattle.std.proofs.Math.Option.{some}
use Rattle.runs.specs.declared.Refusal.{Refusal}
use Rattle.runs.specs.declared.Version.{Version}
use Rattle.runs.specs.declared.Version.TheVariants.{One, Two}
use Rattle.runs.specs.declared.RunEnd.TheVariants.{Refused}
use Rattle.runs.specs.Machine.{Machine, stop, went}
use Rattle.runs.specs.Refusals.{first_of}
use Rattle.runs.specs.Numbers.{is_stop, end_of}
use Rattle.runs.specs.TwoRunners.{RunAnswer, stopped, refused, unbroken, run_number, plain, skipping, save_answer, restore_answer, current_answer}
use Rattle.runs.specs.Laws.{Bytes, Panel, Cycled, CycleLaws, ImageLaws, JumpLaws, NumberLaws, Laws}
use Rattle.runs.specs.Lists.{Kind, Call, run, save, restore, sheet_of, Each, run_answer, refusal, not_refused, last, WrittenBy, AllGet, Meant, asked, AnswersAs, EndsAsOneRun}
use Rattle.runs.specs.Versions.{version_named, convert_answer, wanted_number, ImageOf, AcceptedLaws, saved_as, ForwardAndBack, ConvertedForwardAndBack}
use Rattle.runs.specs.Lists.{Slice, slices_ask, Lendable, SlicesEndAsOneRun}
use Rattle.upd546.specs.declared.State.{State}
use Rattle.upd546.specs.declared.Sheet.{Sheet}
use Rattle.upd546.specs.Bytes.{number_at}
use Rattle.upd546.specs.TheSheet.{sheet_number}
use Rattle.upd546.specs.StateImage.{image_of, of_image, state_number, image_number}
use Rattle.upd546.specs.TwoRunners.{chip}
use Rattle.laws.specs.Images.{ImageOfSome}
use Rattle.laws.specs.Records.{Records}
use Rattle.driver.specs.declared.KeptMachine.{KeptMachine}
use Rattle.driver.specs.declared.Report.{Report}
use Rattle.driver.specs.Lending.{brought_to}
use Rattle.calls.specs.Call.{BoardCall, run_of, call_answer, board_answer}
use Rattle.calls.specs.EveryCall.{end_by, call_refusal, call_number, CallChangesNothing, Rewrites}
use Rattle.calls.specs.Lists.{PanelLent, calls_not_refused, OnOneImage, image_after, calls_ask, SameFigures, CallsEndAsOneRun}

-- RUNS

-- an answer with another count of steps
abbrev pub with_steps : {S : Type 0} → ℕ → RunAnswer S → RunAnswer S
with_steps k a = record {
  end = a.end;
  state = a.state;
  cycles = a.cycles;
  clocks = a.clocks;
  begun = a.begun;
  written = a.written;
  steps = k;
  log = a.log;
}

-- `EveryRunCountsWithin`, `EveryRunsNumberTells`: of what a run answers that is asked for n cycles and lent a log of so many bytes
pub record OfEveryRun {S : Type 0} (n bytes : ℕ) (a : RunAnswer S) : Type 0 where
  pub cycles : a.cycles ≤ n
  pub begun : a.begun ≤ a.cycles
  pub written : a.written ≤ bytes
  pub steps : a.steps ≤ a.cycles
  pub stop : (k : ℕ) → a.end ≡ stopped k → is_stop k ≡ true
  pub refusal : (k : ℕ) → a.end ≡ refused k → (k ≡ 0 → ⊥) × (is_stop k ≡ false)

-- THE DRIVER: `refused_as_it_was`, `numbered_as_it_was`. The machine, the log and all counts of a refused run.
pub record OfEveryRefusal (r : Report) (m m' : KeptMachine) (log log' : List ℕ) : Type 0 where
  pub same_machine : m' ≡ m
  pub same_log : log' ≡ log
  pub counts : r.cycles.0 + r.clocks.0 + r.begun + r.written + r.steps ≡ 0

-- LISTS: of the calls not refused, what `EndsAs`, `call` and `goes_on` say for every buffer, log and next call
pub record OfEveryList (sheet : Sheet) (rom sched : List ℕ) (s : State) (cs : List (Call Sheet State)) : Type 0 where
  pub image : (version : Version) (buffer : List ℕ)
      → save_answer (chip sheet) version (last chip s cs) buffer
      ≡ save_answer (chip sheet) version (unbroken (chip sheet) rom sched (asked chip cs) s).state buffer
  pub call : s.cycle.0 + asked chip cs ≤ 281474976710655 → (kind : Kind) (log : List ℕ) → 16 * asked chip cs ≤ length log
      → AnswersAs (run_answer (chip sheet) kind rom sched s log (asked chip cs)) (unbroken (chip sheet) rom sched (asked chip cs) s)
  pub next_run : (kind : Kind) (log : List ℕ) (n : ℕ) → s.cycle.0 + (asked chip cs + n) ≤ 281474976710655
      → refusal chip (run kind rom sched (last chip s cs) log n sheet) ≡ 0
  pub next_save : (buffer : List ℕ) → 82 ≤ length buffer → refusal chip (save Two (last chip s cs) buffer sheet) ≡ 0
  pub next_save_one : (buffer : List ℕ) → (last chip s cs).count ≡ 0 → 81 ≤ length buffer
      → refusal chip (save One (last chip s cs) buffer sheet) ≡ 0
  pub next_restore : (bytes : List ℕ) → WrittenBy (chip sheet) (last chip s cs) bytes → refusal chip (restore bytes sheet) ≡ 0

-- THE BOARD'S CALL

-- of calls and of those of them that aren't refused, what `nothing`, `stops` and `goes_on` say
pub record OfEveryCallList (sheet : Sheet) (rom sched : List ℕ) (s : State) (calls cs : List BoardCall) : Type 0 where
  pub nothing : Each (λ c. 32 ≤ length c.report) calls → SameFigures chip calls cs
  pub stops :
      Each (λ c. (k : ℕ) → (board_answer chip c).number ≡ suc k → (unbroken (chip sheet) rom sched (calls_ask cs) s).number ≡ some (suc k)) cs
  pub next : (c : BoardCall) → c.image ≡ image_after chip (image_of Two s) cs → PanelLent sheet rom sched c → 32 ≤ length c.report
      → s.cycle.0 + (calls_ask cs + c.n) ≤ 281474976710655 → call_refusal (chip c.sheet) c ≡ 0

-- `EveryCallTellsItsRun`
pub record RunTold (sheet : Sheet) (c : BoardCall) : Type 0 where
  pub end : end_by (call_answer (chip sheet) c).number ≡ (run_of (chip sheet) c).end
  pub log : (call_answer (chip sheet) c).log ≡ (run_of (chip sheet) c).log
  pub cycles : number_at (call_answer (chip sheet) c).report 0 8 ≡ (run_of (chip sheet) c).cycles
  pub begun : number_at (call_answer (chip sheet) c).report 8 8 ≡ (run_of (chip sheet) c).begun
  pub written : number_at (call_answer (chip sheet) c).report 16 8 ≡ (run_of (chip sheet) c).written
  pub steps : number_at (call_answer (chip sheet) c).report 24 8 ≡ (run_of (chip sheet) c).steps

pub record OfEveryCall (sheet : Sheet) (c : BoardCall) : Type 0 where
  -- `EveryCallIsRefusedByNumbers`, `EveryRefusalChangesNothing`
  pub refused_by : call_refusal (chip sheet) c ≡ call_number (chip sheet) c
  pub unchanged : CallChangesNothing (chip sheet) (call_refusal (chip sheet) c) c
  -- `EveryFinishOrStopRewrites`
  pub rewrites : Bytes c.rom → Bytes c.sched → call_refusal (chip sheet) c ≡ 0 → Rewrites (chip sheet) c
  pub told : length c.log < 2 ^ 64 → 32 ≤ length c.report → RunTold sheet c

pub record CallFacts (sheet : Sheet) : Type 0 where
  -- `skipping-same`: all but the steps
  pub same : (rom sched : List ℕ) (s : State) (log : List ℕ) (n : ℕ)
      → skipping (chip sheet) rom sched s log n
      ≡ with_steps (skipping (chip sheet) rom sched s log n).steps (plain (chip sheet) rom sched s log n)
  pub runs : (kind : Kind) (rom sched : List ℕ) (s : State) (log : List ℕ) (n : ℕ)
      → OfEveryRun n (length log) (run_answer (chip sheet) kind rom sched s log n)
  -- `EveryRunKeepsTheStateSound`
  pub sound : (kind : Kind) (rom sched : List ℕ) (s : State) (log : List ℕ) (n : ℕ) → Bytes rom → Bytes sched → state_number sheet s ≡ 0
      → state_number sheet (run_answer (chip sheet) kind rom sched s log n).state ≡ 0
  -- `EveryRunWritesRecords`
  pub records : (kind : Kind) (rom sched : List ℕ) (s : State) (log : List ℕ) (n : ℕ) → Bytes rom → Bytes sched
      → Records s.cycle.0 (s.cycle.0 + (run_answer (chip sheet) kind rom sched s log n).cycles)
      (take (run_answer (chip sheet) kind rom sched s log n).written (run_answer (chip sheet) kind rom sched s log n).log)
  -- `SavedRestores`, `RestoredSaves`, `AcceptedExactly`
  pub saved : (s : State) (buffer : List ℕ) → sheet_number sheet ≡ 0 → state_number sheet s ≡ 0 → 82 ≤ length buffer
      → restore_answer (chip sheet) (take 82 (save_answer (chip sheet) Two s buffer).buffer) ≡ record { number = 0; state = s }
  pub saved_one : (s : State) (buffer : List ℕ) → sheet_number sheet ≡ 0 → state_number sheet s ≡ 0 → s.count ≡ 0 → 81 ≤ length buffer
      → restore_answer (chip sheet) (take 81 (save_answer (chip sheet) One s buffer).buffer) ≡ record { number = 0; state = s }
  pub restored : (image buffer : List ℕ) → Bytes image → (restore_answer (chip sheet) image).number ≡ 0 → length image ≡ 82
      → 82 ≤ length buffer
      → save_answer (chip sheet) Two (restore_answer (chip sheet) image).state buffer
      ≡ record { number = 0; buffer = image ++ drop 82 buffer }
  pub restored_one : (image buffer : List ℕ) → Bytes image → (restore_answer (chip sheet) image).number ≡ 0 → length image ≡ 81
      → 81 ≤ length buffer
      → save_answer (chip sheet) One (restore_answer (chip sheet) image).state buffer
      ≡ record { number = 0; buffer = image ++ drop 81 buffer }
  pub accepted : (image : List ℕ) → sheet_number sheet ≡ 0 → Bytes image
      → ((restore_answer (chip sheet) image).number ≡ 0) ↔ ImageOfSome sheet image
  -- R-8: `EveryVersionOneImageComesBack`, `EveryConversionComesBack`, `EveryImageWrittenAsVersionOneRestores`
  pub comes_back : (bytes forth back : List ℕ) → Bytes bytes → length bytes ≡ 81 → (restore_answer (chip sheet) bytes).number ≡ 0
      → 82 ≤ length forth
      → 81 ≤ length back → ForwardAndBack (chip sheet) bytes forth back
  pub converts_back : (bytes forth back : List ℕ) → Bytes bytes → length bytes ≡ 81 → (restore_answer (chip sheet) bytes).number ≡ 0
      → 82 ≤ length forth
      → 81 ≤ length back → ConvertedForwardAndBack (chip sheet) bytes forth back
  pub as_one : (bytes buffer : List ℕ) → Bytes bytes → (restore_answer (chip sheet) bytes).number ≡ 0
      → (restore_answer (chip sheet) bytes).state.count ≡ 0
      → 81 ≤ length buffer
      → restore_answer (chip sheet) (take 81 (save_answer (chip sheet) One (restore_answer (chip sheet) bytes).state buffer).buffer)
      ≡ restore_answer (chip sheet) bytes
  -- `EveryConversionRefusesInOrder`, `VersionRefusesBeforeTheBuffer`
  pub converted_by : (from to : List ℕ) (version : ℕ) → Bytes from
      → (convert_answer (chip sheet) from to version).number
      ≡ first_of (sheet_number sheet ∷ image_number sheet from ∷ wanted_number (chip sheet) (version_named version) (of_image from) to ∷ [])
  pub by_54 : (s : State) (buffer : List ℕ) → sheet_number sheet ≡ 0 → state_number sheet s ≡ 0 → (s.count ≡ 0 → ⊥)
      → (save_answer (chip sheet) One s buffer).number ≡ 54
  -- `refused_as_it_was`, `numbered_as_it_was`: of what `drive` and `advance` ensure
  pub refused_run : (kind : Kind) (rom sched : List ℕ) (m : KeptMachine) (log : List ℕ) (n : ℕ) (r : Report) (m' : KeptMachine) (log' : List ℕ)
      → brought_to r m' log' ≡ run_answer (chip sheet) kind rom sched m.state log n → (y : Refusal) → r.end ≡ Refused y
      → OfEveryRefusal r m m' log log'
  pub numbered_run : (kind : Kind) (rom sched : List ℕ) (m : KeptMachine) (log : List ℕ) (n : ℕ) (r : Report) (m' : KeptMachine) (log' : List ℕ)
      → brought_to r m' log' ≡ run_answer (chip sheet) kind rom sched m.state log n → (k : ℕ)
      → run_number (chip sheet) rom sched m.state n ≡ suc k
      → (end_of r.end ≡ refused (suc k)) × OfEveryRefusal r m m' log log'
  -- DEMAND 3: `EveryListEndsAsOneRun`, `EveryListOfSlicesEndsAsOneRun`
  pub lists : (rom sched : List ℕ) (s : State) (calls : List (Call Sheet State)) → Panel (chip sheet) rom sched → state_number sheet s ≡ 0
      → Meant chip sheet rom sched s calls
      → OfEveryList sheet rom sched s (not_refused chip calls)
  pub slices : (rom sched : List ℕ) (s : State) (ps : List Slice) → Panel (chip sheet) rom sched → state_number sheet s ≡ 0
      → s.cycle.0 + slices_ask ps ≤ 281474976710655 → Lendable chip sheet ps → SlicesEndAsOneRun chip sheet rom sched s ps
  -- R-3: `EveryListOfCallsEndsAsOneRun`, `EveryListOnOneImageIsMeant`, `EveryAcceptedImageEndsAsOneRun`
  pub calls : (c : BoardCall) → OfEveryCall sheet c
  pub call_lists : (rom sched : List ℕ) (s : State) (calls : List BoardCall) → Panel (chip sheet) rom sched → state_number sheet s ≡ 0
      → OnOneImage chip sheet rom sched (image_of Two s) (calls_not_refused chip calls)
      → OfEveryCallList sheet rom sched s calls (calls_not_refused chip calls)
  pub one_images : (rom sched image : List ℕ) (calls : List BoardCall) → OnOneImage chip sheet rom sched image calls
      → OnOneImage chip sheet rom sched image (calls_not_refused chip calls)
      × (image_after chip image calls ≡ image_after chip image (calls_not_refused chip calls))
  pub accepted_images : (rom sched image : List ℕ) (calls : List BoardCall) → Bytes image → Panel (chip sheet) rom sched → length image ≡ 82
      → (restore_answer (chip sheet) image).number ≡ 0 → OnOneImage chip sheet rom sched image (calls_not_refused chip calls)
      → CallsEndAsOneRun chip sheet rom sched image (restore_answer (chip sheet) image).state calls

-- ANY MACHINE: `skipping-same`, `runs_sound`, `counts_within`, `numbers_tell`, `call_rewrites`, `call_tells_run`, `refused_by_numbers`,
-- `sheet_refuses_before_the_image`, `changes_nothing`, `forward_and_back`, `converted_forward_and_back`, `written_as_one_restores`,
-- `refuses_in_order`. Its laws hold where no number refuses it.
pub record OfAnyMachine {S : Type 0} (M : Machine S) : Type 0 where
  pub same : JumpLaws M → (rom sched : List ℕ) (s : S) (log : List ℕ) (n : ℕ)
      → skipping M rom sched s log n ≡ with_steps (skipping M rom sched s log n).steps (plain M rom sched s log n)
  pub sound : (M.own_number ≡ 0 → Laws M) → (kind : Kind) (rom sched : List ℕ) (s : S) (log : List ℕ) (n : ℕ) → Bytes rom → Bytes sched
      → M.state_number s ≡ 0 → M.state_number (run_answer M kind rom sched s log n).state ≡ 0
  pub runs : (M.own_number ≡ 0 → Laws M) → JumpLaws M → NumberLaws M → (kind : Kind) (rom sched : List ℕ) (s : S) (log : List ℕ) (n : ℕ)
      → OfEveryRun n (length log) (run_answer M kind rom sched s log n)
  pub rewrites : (M.own_number ≡ 0 → Laws M) → JumpLaws M → NumberLaws M → (c : BoardCall) → Bytes c.rom → Bytes c.sched
      → call_refusal M c ≡ 0 → Rewrites M c
  pub tells_run : (M.own_number ≡ 0 → Laws M) → JumpLaws M → NumberLaws M → (c : BoardCall) → length c.log < 2 ^ 64
      → 32 ≤ length c.report → end_by (call_answer M c).number ≡ (run_of M c).end
  pub refused_by : JumpLaws M → NumberLaws M → (c : BoardCall) → call_refusal M c ≡ call_number M c
  pub sheet_first : JumpLaws M → NumberLaws M → (c : BoardCall) (k : ℕ) → 32 ≤ length c.report → M.own_number ≡ suc k
      → call_refusal M c ≡ suc k
  pub unchanged : JumpLaws M → NumberLaws M → (c : BoardCall) → CallChangesNothing M (call_refusal M c) c
  pub comes_back : (M.own_number ≡ 0 → ImageLaws M) → (M.own_number ≡ 0 → AcceptedLaws M) → (bytes forth back : List ℕ) → Bytes bytes
      → length bytes ≡ M.image_length One → (restore_answer M bytes).number ≡ 0 → M.image_length Two ≤ length forth
      → M.image_length One ≤ length back → ForwardAndBack M bytes forth back
  pub converts_back : (M.own_number ≡ 0 → ImageLaws M) → (M.own_number ≡ 0 → AcceptedLaws M) → (bytes forth back : List ℕ) → Bytes bytes
      → length bytes ≡ M.image_length One → (restore_answer M bytes).number ≡ 0 → M.image_length Two ≤ length forth
      → M.image_length One ≤ length back → ConvertedForwardAndBack M bytes forth back
  pub as_one : (M.own_number ≡ 0 → ImageLaws M) → (M.own_number ≡ 0 → AcceptedLaws M) → (bytes buffer : List ℕ) → Bytes bytes
      → (restore_answer M bytes).number ≡ 0 → M.version_number One (restore_answer M bytes).state ≡ 0 → M.image_length One ≤ length buffer
      → restore_answer M (saved_as M One (restore_answer M bytes).state buffer) ≡ restore_answer M bytes
  pub converted_by : (M.own_number ≡ 0 → AcceptedLaws M) → (from to : List ℕ) (version : ℕ) → Bytes from
      → (convert_answer M from to version).number
      ≡ first_of (M.own_number ∷ M.image_number from ∷ wanted_number M (version_named version) (M.of_image from) to ∷ [])

-- MACHINES, ONE FOR EACH SHEET: `lists_end`, `slices_end`, `version_refuses_before_the_buffer`, `sheet_refuses_first`, and that the lists
-- meant are those with one sheet and with what each call gets
pub record OfAnyMachines {A S : Type 0} (M : A → Machine S) : Type 0 where
  pub meant : (sheet : A) (rom sched : List ℕ) (s : S) (calls : List (Call A S)) → Each (λ c. sheet_of c ≡ sheet) (not_refused M calls)
      → AllGet M sheet rom sched s (not_refused M calls) → Meant M sheet rom sched s calls
  pub lists : ((sheet : A) → (M sheet).own_number ≡ 0 → Laws (M sheet)) → (sheet : A) (rom sched : List ℕ) (s : S) (calls : List (Call A S))
      → Panel (M sheet) rom sched → (M sheet).state_number s ≡ 0 → Meant M sheet rom sched s calls → EndsAsOneRun M sheet rom sched s calls
  pub slices : ((sheet : A) → (M sheet).own_number ≡ 0 → Laws (M sheet)) → (sheet : A) (rom sched : List ℕ) (s : S) (ps : List Slice)
      → Panel (M sheet) rom sched → (M sheet).state_number s ≡ 0 → (M sheet).at s + slices_ask ps ≤ 281474976710655 → Lendable M sheet ps
      → SlicesEndAsOneRun M sheet rom sched s ps
  pub version_first : (version : Version) (s : S) (buffer : List ℕ) (sheet : A) (k : ℕ) → (M sheet).own_number ≡ 0
      → (M sheet).state_number s ≡ 0 → (M sheet).version_number version s ≡ suc k → refusal M (save version s buffer sheet) ≡ suc k
  pub sheet_first : (c : Call A S) (k : ℕ) → (M (sheet_of c)).own_number ≡ suc k → refusal M c ≡ suc k

-- and of the board's calls: `calls_end`, `on_one_image`, `accepted-end`
pub record OfAnyBoard {S : Type 0} (M : Sheet → Machine S) : Type 0 where
  pub call_lists : ((sheet : Sheet) → (M sheet).own_number ≡ 0 → Laws (M sheet)) → ((sheet : Sheet) → JumpLaws (M sheet))
      → ((sheet : Sheet) → NumberLaws (M sheet)) → (sheet : Sheet) (rom sched : List ℕ) (s : S) (calls : List BoardCall)
      → Panel (M sheet) rom sched → (M sheet).state_number s ≡ 0
      → OnOneImage M sheet rom sched ((M sheet).image Two s) (calls_not_refused M calls)
      → CallsEndAsOneRun M sheet rom sched ((M sheet).image Two s) s calls
  pub one_images : ((sheet : Sheet) → JumpLaws (M sheet)) → ((sheet : Sheet) → NumberLaws (M sheet)) → (sheet : Sheet)
      (rom sched image : List ℕ) (calls : List BoardCall) → OnOneImage M sheet rom sched image calls
      → OnOneImage M sheet rom sched image (calls_not_refused M calls)
      × (image_after M image calls ≡ image_after M image (calls_not_refused M calls))
  pub accepted_images : ((sheet : Sheet) → (M sheet).own_number ≡ 0 → Laws (M sheet)) → ((sheet : Sheet) → JumpLaws (M sheet))
      → ((sheet : Sheet) → NumberLaws (M sheet)) → ((sheet : Sheet) → AcceptedLaws (M sheet)) → (sheet : Sheet)
      (rom sched image : List ℕ) (calls : List BoardCall) → Bytes image → Panel (M sheet) rom sched
      → (current_answer (M sheet) image).number ≡ 0 → OnOneImage M sheet rom sched image (calls_not_refused M calls)
      → CallsEndAsOneRun M sheet rom sched image (current_answer (M sheet) image).state calls

-- What these ask of a machine, and nothing else: the laws, each made of all that it says.
pub record OfEveryLaw {S : Type 0} (M : Machine S) : Type 0 where
  pub all : CycleLaws M → ImageLaws M → JumpLaws M → Laws M
  pub cycled : (s t : S) (w : List ℕ) → M.state_number t ≡ 0 → M.at t ≡ suc (M.at s) → length w ≤ 16 → Cycled M s t w
  pub cycles : ((rom sched : List ℕ) (s t : S) (w : List ℕ) (b : ℕ) → Panel M rom sched → M.state_number s ≡ 0 → M.at s < 281474976710655
      → M.cycle rom sched s ≡ went t w b → Cycled M s t w)
      → ((rom sched : List ℕ) (s t : S) (w : List ℕ) (b : ℕ) → M.cycle rom sched s ≡ went t w b → b ≤ 1) → CycleLaws M
  pub images : ((v : Version) (s : S) → M.state_number s ≡ 0 → M.version_number v s ≡ 0 → length (M.image v s) ≡ M.image_length v)
      → ((v : Version) (s : S) → M.state_number s ≡ 0 → M.version_number v s ≡ 0 → M.image_number (M.image v s) ≡ 0)
      → ((v : Version) (s : S) → M.state_number s ≡ 0 → M.version_number v s ≡ 0 → M.of_image (M.image v s) ≡ s)
      → ((s : S) → M.version_number Two s ≡ 0) → ImageLaws M
  pub accepted : ((bytes : List ℕ) → M.image_number bytes ≡ 0 → (v : Version) × (length bytes ≡ M.image_length v))
      → ((v : Version) (bytes : List ℕ) → Bytes bytes → length bytes ≡ M.image_length v → M.image_number bytes ≡ 0
      → ImageOf M v bytes (M.of_image bytes))
      → AcceptedLaws M
  pub image_of_is : (v : Version) (bytes : List ℕ) (s : S) → M.state_number s ≡ 0 → M.version_number v s ≡ 0 → bytes ≡ M.image v s
      → ImageOf M v bytes s
  pub jumps : ((rom sched : List ℕ) (s : S) (left : ℕ) → M.jump rom sched s left ≤ left) → JumpLaws M
  pub numbers : ((rom sched : List ℕ) (s : S) (k : ℕ) → M.cycle rom sched s ≡ stop k → is_stop k ≡ true)
      → is_stop M.own_number ≡ false → ((rom sched : List ℕ) → is_stop (M.panel_number rom sched) ≡ false)
      → ((s : S) → is_stop (M.state_number s) ≡ false)
      → ((bytes : List ℕ) → is_stop (M.image_number bytes) ≡ false) → NumberLaws M
