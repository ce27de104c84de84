-- The theorems about runs, images, lists and the board's call, each at variables. Assumes nothing.
use mathlib.Core.Path.{◌≡◌, ◌∙◌, refl, ap, subst}
use mathlib.Core.Bool.{false}
use mathlib.Core.List.{List, ◌++◌}
use Prim.Native.Nat.{ℕ, zero, suc, ◌≤◌}
use native.Mathlib.Omega.{arith}
use lib.ListN.{length, drop}
use borrow.Author.Tests.{eq-eqb, ne_eqb}
use Rattle.runs.specs.declared.Version.{Version}
use Rattle.runs.specs.declared.Version.TheVariants.{One, Two}
use Rattle.runs.specs.Machine.{Machine}
use Rattle.runs.specs.Numbers.{is_stop}
use Rattle.runs.specs.TwoRunners.{RunAnswer, SaveAnswer, RestoreAnswer, refused, plain, skipping, save_answer, restore_answer}
use Rattle.runs.specs.Laws.{Bytes, JumpLaws}
use Rattle.runs.specs.EveryRun.{CountsWithin, NumberTells}
use Rattle.runs.proofs.Calls.{version_refuses_before_the_buffer, sheet_refuses_first, current_long}
use Rattle.runs.proofs.Versions.{refuses_in_order, forward_and_back, converted_forward_and_back, written_as_one_restores}
use Rattle.runs.proofs.Skipping.{skipping-same}
use Rattle.runs.proofs.EveryRun.{runs_sound, counts_within, numbers_tell}
use Rattle.runs.proofs.Lists.{lists_end}
use Rattle.runs.proofs.Slices.{slices_end}
use Rattle.upd546.specs.declared.State.{State}
use Rattle.upd546.specs.declared.Sheet.{Sheet}
use Rattle.upd546.specs.StateImage.{image_length, version_of, version_number}
use Rattle.upd546.specs.TwoRunners.{chip}
use Rattle.laws.proofs.Images.{version_by-length, saved_restores, restored_saves, accepted-exactly}
use Rattle.laws.proofs.Records.{every_run_writes_records}
use Rattle.laws.proofs.Demand3.{jump_laws, every_list, every_list_of_slices, every_run_keeps_the_state_sound, every_run_counts_within, every_runs_number_tells}
use Rattle.laws.proofs.Demand3.{every_version_one_image_comes_back, every_conversion_comes_back, every_image_written_as_version_one_restores, every_conversion_refuses_in_order, every_version_refuses_before_the_buffer}
use Rattle.driver.specs.declared.KeptMachine.{KeptMachine}
use Rattle.driver.specs.declared.Report.{Report}
use Rattle.driver.specs.Lending.{AsItWas}
use Rattle.driver.proofs.Refused.{refused_as_it_was, numbered_as_it_was}
use Rattle.calls.specs.Call.{BoardCall}
use Rattle.calls.specs.EveryCall.{TellsItsRun}
use Rattle.calls.specs.Lists.{CallsEndAsOneRun}
use Rattle.calls.proofs.EveryCall.{refused_by_numbers, sheet_refuses_before_the_image, changes_nothing, call_rewrites, call_tells_run}
use Rattle.calls.proofs.Lists.{calls_end, accepted-end, on_one_image}
use Rattle.calls.proofs.Chip.{every_call_is_refused_by_numbers, every_refusal_changes_nothing, every_finish_or_stop_rewrites, every_call_tells_its_run}
use Rattle.calls.proofs.Chip.{every_list_of_calls, every_list_on_one_image, every_accepted_image}
use Rattle.witness.specs.EveryCall.{with_steps, OfEveryRun, OfEveryRefusal, RunTold, CallFacts, OfAnyMachine, OfAnyMachines, OfAnyBoard, OfEveryLaw}

same : {S : Type 0} (M : Machine S) → JumpLaws M → (rom sched : List ℕ) (s : S) (log : List ℕ) (n : ℕ)
    → skipping M rom sched s log n ≡ with_steps (skipping M rom sched s log n).steps (plain M rom sched s log n)
same {S} M j rom sched s log n = ap (λ (a : RunAnswer S). with_steps (skipping M rom sched s log n).steps a) (skipping-same M j rom sched s log n)

refusal : (k : ℕ) → NumberTells (refused k) → (k ≡ 0 → ⊥) × (is_stop k ≡ false)
refusal zero h = absurd h
refusal (suc k) h = (λ e. omega arith, h)

run_facts : {S : Type 0} (log : List ℕ) (n : ℕ) (a : RunAnswer S) → CountsWithin log n a → NumberTells a.end → OfEveryRun n (length log) a
run_facts log n a c t = record {
  cycles = c.cycles;
  begun = c.begun;
  written = c.written;
  steps = c.steps;
  stop = λ k e. subst NumberTells e t;
  refusal = λ k e. refusal k (subst NumberTells e t);
}

as_it_was : (r : Report) (m m' : KeptMachine) (log log' : List ℕ) → AsItWas r m m' log log' → OfEveryRefusal r m m' log log'
as_it_was r m m' log log' a =
    record { same_machine = a.machine_kept; same_log = a.log_kept; counts = omega (arith, a.no_cycles, a.no_clocks, a.none_begun, a.none_written, a.no_steps) }

-- version 2 holds every state, and version 1 one whose count is 0
two_holds : (s : State) → version_number Two s ≡ 0
unfolding version_number
two_holds s = refl

one_holds : (s : State) → s.count ≡ 0 → version_number One s ≡ 0
unfolding version_number
one_holds s e = rw (eq-eqb s.count 0 e)

one_lacks : (s : State) → (s.count ≡ 0 → ⊥) → version_number One s ≡ 54
unfolding version_number
one_lacks s h = rw (ne_eqb s.count 0 h)

-- of an image of this version's length
restored_as : (sheet : Sheet) (v : Version) (image buffer : List ℕ) → Bytes image → (restore_answer (chip sheet) image).number ≡ 0
    → length image ≡ image_length v → image_length v ≤ length buffer
    → save_answer (chip sheet) v (restore_answer (chip sheet) image).state buffer
    ≡ record { number = 0; buffer = image ++ drop (image_length v) buffer }
restored_as sheet v image buffer b e w l =
    let same : version_of image ≡ v = version_by-length v image w in
    let saved : Version → SaveAnswer = λ x. save_answer (chip sheet) x (restore_answer (chip sheet) image).state buffer in
    subst (λ (x : Version). image_length x ≤ length buffer → saved x ≡ record { number = 0; buffer = image ++ drop (image_length x) buffer })
    same (restored_saves sheet image buffer b e) l

run_told : (sheet : Sheet) (c : BoardCall) → TellsItsRun (chip sheet) c → RunTold sheet c
run_told sheet c t = record { end = t.end; log = t.log; cycles = t.cycles; begun = t.begun; written = t.written; steps = t.steps }

pub facts : (sheet : Sheet) → CallFacts sheet
facts sheet = record {
  same = same (chip sheet) (jump_laws sheet);
  runs = λ kind rom sched s log n.
      run_facts log n _ (every_run_counts_within sheet kind rom sched s log n) (every_runs_number_tells sheet kind rom sched s log n);
  sound = every_run_keeps_the_state_sound sheet;
  records = every_run_writes_records sheet;
  saved = λ s buffer k v l. saved_restores sheet Two s buffer k v (two_holds s) l;
  saved_one = λ s buffer k v c l. saved_restores sheet One s buffer k v (one_holds s c) l;
  restored = λ image buffer b e w l. restored_as sheet Two image buffer b e w l;
  restored_one = λ image buffer b e w l. restored_as sheet One image buffer b e w l;
  accepted = accepted-exactly sheet;
  comes_back = every_version_one_image_comes_back sheet;
  converts_back = every_conversion_comes_back sheet;
  as_one = λ bytes buffer b e c l. every_image_written_as_version_one_restores sheet bytes buffer b e (one_holds _ c) l;
  converted_by = every_conversion_refuses_in_order sheet;
  by_54 = λ s buffer k v c. every_version_refuses_before_the_buffer One s buffer sheet 53 k v (one_lacks s c);
  refused_run = λ kind rom sched m log n r m' log' e y end.
      as_it_was r m m' log log' (refused_as_it_was kind rom sched m log n sheet r m' log' e y end);
  numbered_run = λ kind rom sched m log n r m' log' e k number.
      let a = numbered_as_it_was kind rom sched m log n sheet r m' log' e k number in (a.0, as_it_was r m m' log log' a.1);
  lists = λ rom sched s calls p v m.
      let e = every_list sheet rom sched s calls p v m in
      record {
        image = e.ends.image;
        call = e.call;
        next_run = e.goes_on.next_run;
        next_save = λ buffer l. e.goes_on.next_save Two buffer (two_holds _) l;
        next_save_one = λ buffer c l. e.goes_on.next_save One buffer (one_holds _ c) l;
        next_restore = e.goes_on.next_restore;
      };
  slices = every_list_of_slices sheet;
  calls = λ c. record {
    refused_by = every_call_is_refused_by_numbers sheet c;
    unchanged = every_refusal_changes_nothing sheet c;
    rewrites = every_finish_or_stop_rewrites sheet c;
    told = λ l h. run_told sheet c (every_call_tells_its_run sheet c l h);
  };
  call_lists = λ rom sched s calls p v m.
      let e = every_list_of_calls sheet rom sched s calls p v m in
      record { nothing = e.nothing; stops = e.ends.stops; next = e.goes_on };
  one_images = every_list_on_one_image sheet;
  accepted_images = λ rom sched image calls b p w e h.
      let long = current_long (chip sheet) image w in
      subst (λ (r : RestoreAnswer State). CallsEndAsOneRun chip sheet rom sched image r.state calls) long
      (every_accepted_image sheet rom sched image calls b p (ap (λ (r : RestoreAnswer State). r.number) long ∙ e) h);
}

pub any_machine : {S : Type 0} (M : Machine S) → OfAnyMachine M
any_machine M = record {
  same = same M;
  sound = runs_sound M;
  runs = λ L J N kind rom sched s log n.
      run_facts log n _ (counts_within M L kind rom sched s log n) (numbers_tell M J N kind rom sched s log n);
  rewrites = call_rewrites M;
  tells_run = λ L J N c l h. (call_tells_run M L J N c l h).end;
  refused_by = refused_by_numbers M;
  sheet_first = sheet_refuses_before_the_image M;
  unchanged = changes_nothing M;
  comes_back = forward_and_back M;
  converts_back = converted_forward_and_back M;
  as_one = written_as_one_restores M;
  converted_by = refuses_in_order M;
}

pub any_machines : {A S : Type 0} (M : A → Machine S) → OfAnyMachines M
any_machines M = record {
  meant = λ sheet rom sched s calls one given. record { one_sheet = one; given = given };
  lists = lists_end M;
  slices = slices_end M;
  version_first = version_refuses_before_the_buffer M;
  sheet_first = sheet_refuses_first M;
}

pub any_board : {S : Type 0} (M : Sheet → Machine S) → OfAnyBoard M
any_board M = record { call_lists = calls_end M; one_images = on_one_image M; accepted_images = accepted-end M }

pub laws : {S : Type 0} (M : Machine S) → OfEveryLaw M
laws M = record {
  all = λ c i j. record { cycles = c; images = i; jumps = j };
  cycled = λ s t w sound rises records. record { sound = sound; rises = rises; records = records };
  cycles = λ step one. record { step = step; begins_one = one };
  images = λ long accepted back two. record { image_length_is = long; image_accepted = accepted; image_back = back; two_holds_all = two };
  accepted = λ lengths exact. record { some_version = lengths; exact = exact };
  image_of_is = λ v bytes s sound held same. record { sound = sound; held = held; same = same };
  jumps = λ h. record { jump_within = h };
  numbers = λ stops own panels states images. record { stops = stops; own = own; panels = panels; states = states; images = images };
}
