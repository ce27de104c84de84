-- Document 01, "Two runners", over any machine: the unbroken run, the plain and the timer-skipping runner, save and restore.
-- Assumes nothing: these are definitions.
use Rattle.std.specs.Prelude.{ℕ, zero, suc, ◌+◌, ◌-◌, ◌*◌, ◌^◌, Bool, true, false, List, [], ◌∷◌, ◌++◌, eqb, leb, length, drop}
use Rattle.std.proofs.Math.Option.{Option, none, some}
use Rattle.runs.specs.declared.Version.{Version}
use Rattle.runs.specs.declared.Version.TheVariants.{Two}
use Rattle.runs.specs.Machine.{Machine, Out, stop, went}
use Rattle.runs.specs.Refusals.{cycle_limit, first_of, unless}
use Rattle.runs.specs.Reports.{clocks_per_cycle}

-- "A reset can cut OCD short, so the power-off guarantee now wants a log of 16n bytes for n cycles." (R-8)
abbrev pub log_bound : ℕ → ℕ
log_bound n = 16 * n

-- How a run ends: all n cycles done; a stop, with its number; a refusal, with its number.
pub data End : Type 0 where
  finished : End
  stopped : ℕ → End
  refused : ℕ → End

-- "unless it finished n, its number": 0 stands for a finish
abbrev pub number_of_end : End → ℕ
number_of_end finished = 0
number_of_end (stopped k) = k
number_of_end (refused k) = k

-- "Each .. answers state, cycles, instructions begun, log bytes written and steps, and, unless it finished n, its number";
-- "A run also gives clock cycles". With it the lent log as it stands when the run returns.
pub record RunAnswer (S : Type 0) : Type 0 where
  pub end : End
  pub state : S
  pub cycles : ℕ
  pub clocks : ℕ
  pub begun : ℕ
  pub written : ℕ
  pub steps : ℕ
  pub log : List ℕ

-- What a save answers: 0 or its refusal's number, and the lent buffer as it stands when the save returns.
pub record SaveAnswer : Type 0 where
  pub number : ℕ
  pub buffer : List ℕ

-- What a restore answers: 0 or its refusal's number, and a state.
pub record RestoreAnswer (S : Type 0) : Type 0 where
  pub number : ℕ
  pub state : S

-- What cycles come to: the state at the boundary reached, the bytes of the records appended, the cycles done, the
-- instructions begun, and the number of the stop, if there was one.
pub record Ran (S : Type 0) : Type 0 where
  pub state : S
  pub bytes : List ℕ
  pub cycles : ℕ
  pub begun : ℕ
  pub number : Option ℕ

-- The same, and in how many steps.
pub record Stepped (S : Type 0) : Type 0 where
  pub ran : Ran S
  pub steps : ℕ

abbrev pub end_with : Option ℕ → End
end_with none = finished
end_with (some k) = stopped k

module _ {S : Type 0} where
  -- no cycle: at the end of n, or at the boundary of a stop
  abbrev pub still : S → Option ℕ → Ran S
  still s k = record { state = s; bytes = []; cycles = 0; begun = 0; number = k }

  -- one cycle that appends w and begins b instructions, and then r
  abbrev pub begins : List ℕ → ℕ → Ran S → Ran S
  begins w b r = record { state = r.state; bytes = w ++ r.bytes; cycles = suc r.cycles; begun = b + r.begun; number = r.number }

  -- what r comes to, and then what q comes to from where r stands
  abbrev pub then : Ran S → Ran S → Ran S
  then r q = record {
    state = q.state;
    bytes = r.bytes ++ q.bytes;
    cycles = r.cycles + q.cycles;
    begun = r.begun + q.begun;
    number = q.number;
  }

  -- "These change nothing, with all counts 0; a refused run answers the state given": a run that is refused with number k
  abbrev pub refused_run : ℕ → S → List ℕ → RunAnswer S
  refused_run k s log = record { end = refused k; state = s; cycles = 0; clocks = 0; begun = 0; written = 0; steps = 0; log = log }

  abbrev pub on_out : Out S → S → (S → Ran S) → Ran S
  on_out (stop k) s go = still s (some k)
  on_out (went t w b) s go = begins w b (go t)

  abbrev pub on_room : Bool → Ran S → Ran S → Ran S
  on_room true r r3 = r
  on_room false r r3 = r3

  abbrev pub on_out_within : Out S → S → ℕ → (S → ℕ → Ran S) → Ran S
  on_out_within (stop k) s room go = still s (some k)
  on_out_within (went t w b) s room go = on_room (leb (length w) room) (begins w b (go t (room - length w))) (still s (some 3))

  -- one step that comes to r, and then what go comes to; a stop adds no step
  abbrev pub on_stride : Ran S → Option ℕ → Stepped S → Stepped S
  on_stride r none q = record { ran = then r q.ran; steps = suc q.steps }
  on_stride r (some k) q = record { ran = r; steps = 0 }

-- "jumps j cycles in one step where: .. Otherwise it steps one cycle."
abbrev pub stride_of : ℕ → ℕ
stride_of zero = 1
stride_of (suc j) = suc j

module _ {S : Type 0} (M : Machine S) where
  -- "The unbroken run is the machine cycle above, N times or up to a stop, from the same state, ROM and schedule, with
  -- room in its log for every record."
  unfoldable pub unbroken : List ℕ → List ℕ → ℕ → S → Ran S
  unbroken rom sched zero s = still s none
  unbroken rom sched (suc n) s = on_out (M.cycle rom sched s) s (λ t. unbroken rom sched n t)

  -- The same on a log with room for so many bytes: "3 the log lacks the 8 or 16 bytes of the next instruction", and
  -- "22, 23 and 3, in that order .. are stops: the cycle isn't begun, and the answer stands at its boundary. n = 0 finishes."
  unfoldable pub within : List ℕ → List ℕ → ℕ → ℕ → S → Ran S
  within rom sched room zero s = still s none
  within rom sched room (suc n) s = on_out_within (M.cycle rom sched s) s room (λ t left. within rom sched left n t)

  -- The timer-skipping run on such a log, step by step. `fuel` bounds the steps: as many as there are cycles are enough.
  unfoldable pub strides : List ℕ → List ℕ → ℕ → ℕ → ℕ → S → Stepped S
  strides rom sched zero room n s = record { ran = still s none; steps = 0 }
  strides rom sched (suc fuel) room zero s = record { ran = still s none; steps = 0 }
  strides rom sched (suc fuel) room (suc n) s =
      let stride = stride_of (M.jump rom sched s (suc n)) in
      let r = within rom sched room stride s in
      on_stride r r.number (strides rom sched fuel (room - length r.bytes) (suc n - stride) r.state)

  -- "71, before all else" (R-11); "A run checks 21, 12, 11, 13/14, 34, 2"; "2 cycle number + n above 2^48 - 1"
  unfoldable pub run_number : List ℕ → List ℕ → S → ℕ → ℕ
  run_number rom sched s n =
      first_of (M.own_number ∷ M.panel_number rom sched ∷ M.state_number s ∷ unless (leb (M.at s + n) cycle_limit) 2 ∷ [])

  -- What a run answers whose refusal is k, whose cycles come to r, on the state s and the log given.
  -- "A run starts at the lent log's first byte; each record it writes into the part of the log that is still empty."
  abbrev pub told : ℕ → Stepped S → S → List ℕ → RunAnswer S
  told zero r s log = record {
    end = end_with r.ran.number;
    state = r.ran.state;
    cycles = r.ran.cycles;
    clocks = clocks_per_cycle * r.ran.cycles;
    begun = r.ran.begun;
    written = length r.ran.bytes;
    steps = r.steps;
    log = r.ran.bytes ++ drop (length r.ran.bytes) log;
  }
  told (suc k) r s log = refused_run (suc k) s log

  -- "The plain one takes one step a cycle."
  abbrev pub stepwise : Ran S → Stepped S
  stepwise r = record { ran = r; steps = r.cycles }

  -- THE PLAIN RUNNER: ROM, schedule, state, log, n
  unfoldable pub plain : List ℕ → List ℕ → S → List ℕ → ℕ → RunAnswer S
  plain rom sched s log n = told (run_number rom sched s n) (stepwise (within rom sched (length log) n s)) s log

  -- THE TIMER-SKIPPING RUNNER
  unfoldable pub skipping : List ℕ → List ℕ → S → List ℕ → ℕ → RunAnswer S
  skipping rom sched s log n = told (run_number rom sched s n) (strides rom sched n (length log) n s) s log

  -- "71, before all else" (R-11); "save 34, 1"; "54, in a save between 34 and 1, a version 1 image wanted while the count isn't 0";
  -- "1 a buffer under the version's length" (R-8)
  unfoldable pub save_number : Version → S → List ℕ → ℕ
  save_number v s buffer =
      first_of (M.own_number ∷ M.state_number s ∷ M.version_number v s ∷ unless (leb (M.image_length v) (length buffer)) 1 ∷ [])

  abbrev pub put : Version → ℕ → List ℕ → List ℕ → SaveAnswer
  put v zero bytes buffer = record { number = 0; buffer = bytes ++ drop (M.image_length v) buffer }
  put v (suc k) bytes buffer = record { number = suc k; buffer = buffer }

  -- SAVE, of the version wanted: "and then writes 81 bytes only", or 82
  unfoldable pub save_answer : Version → S → List ℕ → SaveAnswer
  save_answer v s buffer = put v (save_number v s buffer) (M.image v s) buffer

  abbrev pub got : ℕ → S → RestoreAnswer S
  got zero s = record { number = 0; state = s }
  got (suc k) s = record { number = suc k; state = M.fresh }

  -- "71, before all else" (R-11); "restore 31 to 34"
  unfoldable pub restore_number : List ℕ → ℕ
  restore_number bytes = first_of (M.own_number ∷ M.image_number bytes ∷ [])

  -- RESTORE: "a refused restore the fresh state"
  unfoldable pub restore_answer : List ℕ → RestoreAnswer S
  restore_answer bytes = got (restore_number bytes) (M.of_image bytes)

  -- "R-3's call takes 82 bytes only, else 31, and R-7's entries hold version 2" (R-8): what refuses an image where version 2 is due,
  -- after 71
  unfoldable pub current_number : List ℕ → ℕ
  current_number bytes = first_of (M.own_number ∷ unless (eqb (length bytes) (M.image_length Two)) 31 ∷ M.image_number bytes ∷ [])

  -- A RESTORE WHERE VERSION 2 IS DUE
  unfoldable pub current_answer : List ℕ → RestoreAnswer S
  current_answer bytes = got (current_number bytes) (M.of_image bytes)
