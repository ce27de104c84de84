-- 42,965 bytes of an input are enough; 71, 34 and 2 refuse no trace. Assumes nothing.
use mathlib.Core.Path.{◌≡◌, ◌∙◌, refl, sym, ap}
use mathlib.Core.Bool.{Bool, true, false}
use mathlib.Core.List.{List, [], ◌∷◌}
use Prim.Native.Nat.{ℕ, zero, suc, ◌+◌, ◌*◌, ◌<◌, ◌≤◌}
use native.Mathlib.Omega.{arith}
use lib.Dec.{leb, lit<}
use lib.ListN.{length, take, drop, replicate, length-drop}
use lib.Seq.{take_all, length-take-le}
use borrow.Author.Tests.{leb-true, leb-false, le-leb, lt-leb, eq-eqb}
use Rattle.runs.specs.TwoRunners.{run_number, plain}
use Rattle.runs.specs.Refusals.{cycle_limit, first_of}
use Rattle.upd546.specs.TheMachine.{rom_length, fresh}
use Rattle.upd546.specs.TheSheet.{legal, sheet_number, upd546_sheet}
use Rattle.upd546.specs.Bytes.{number_at}
use Rattle.upd546.specs.Sequences.{all_of}
use Rattle.upd546.specs.TheLineSchedule.{record_length, max_records, schedule_number}
use Rattle.upd546.specs.StateImage.{state_number}
use Rattle.upd546.specs.TwoRunners.{upd546, panel_number}
use Rattle.upd546.specs.Reports.{refused_text, trace_log, trace_text, run_text}
use Rattle.laws.proofs.Chip.{every_sheet_takes_the_fresh_state}
use Rattle.trace_text.specs.Inputs.{ReadsEnough, PanelsOnly}
use Rattle.trace_text.proofs.Texts.{long_text}

-- the text of a refused run
refused_run : (rom sched log : List ℕ) (n k : ℕ) → run_number upd546 rom sched fresh n ≡ suc k → run_text rom sched log n ≡ refused_text (suc k)
unfolding run_text plain
refused_run rom sched log n k e = rw e

-- the old figures are a legal sheet
pub accepted-sheet : sheet_number upd546_sheet ≡ 0
unfolding sheet_number legal all_of
accepted-sheet = refl

-- "12 over 40,960 bytes"
over : (rom sched : List ℕ) (n : ℕ) → length rom ≡ rom_length → record_length * max_records < length sched → run_number upd546 rom sched fresh n ≡ 12
unfolding run_number panel_number schedule_number first_of
over rom sched n p q = rw (accepted-sheet, eq-eqb (length rom) rom_length p, lt-leb (length sched) (record_length * max_records) q)

over_text : (input : List ℕ) → 4 + rom_length + record_length * max_records < length input → trace_text input ≡ refused_text 12
over_text input h =
    let rom = take rom_length (drop 4 input) in
    let sched = drop (4 + rom_length) input in
    let n = number_at input 0 4 in
    let full = length-take-le rom_length (drop 4 input) (omega (arith, length-drop 4 input)) in
    let long : record_length * max_records < length sched = omega (arith, length-drop (4 + rom_length) input) in
    sym (long_text input (omega arith) {rom = rom} {sched = sched} {log = replicate trace_log 0} {n = n} refl refl refl refl)
    ∙ refused_run rom sched (replicate trace_log 0) n 11 (over rom sched n full long)

-- the first byte of a schedule that is too long is enough
pub reads_enough : (k : ℕ) → 4 + rom_length + record_length * max_records < k → ReadsEnough k
reads_enough k h input = go (leb (length input) k) refl
  where
    go : (t : Bool) → leb (length input) k ≡ t → trace_text (take k input) ≡ trace_text input
    go true e = ap trace_text (take_all k input (leb-true (length input) k e))
    go false e =
        let more : k < length input = leb-false (length input) k e in
        let cut = length-take-le k input (omega arith) in
        over_text (take k input) (omega (arith, cut)) ∙ sym (over_text input (omega arith))

-- the buffer of program `trace`
pub buffer_enough : ReadsEnough 65536
buffer_enough = reads_enough 65536 (lit< tt)

pub sound : state_number upd546_sheet fresh ≡ 0
sound = every_sheet_takes_the_fresh_state upd546_sheet

pub panels_only : PanelsOnly
unfolding run_number first_of
panels_only rom sched n h =
    let within : 0 + n ≤ cycle_limit = omega arith in
    rw (accepted-sheet, sound, le-leb (0 + n) cycle_limit within) (alone (panel_number upd546_sheet rom sched))
  where
    alone : (k : ℕ) → first_of (k ∷ 0 ∷ 0 ∷ []) ≡ k
    alone zero = refl
    alone (suc k) = refl
