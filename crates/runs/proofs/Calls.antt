-- One call: what refuses it, what it answers then, and what it answers where nothing does. Assumes nothing.
use mathlib.Core.Path.{◌≡◌, ◌∙◌, refl, sym, ap, subst}
use mathlib.Core.Bool.{Bool, true}
use mathlib.Core.List.{List, [], ◌∷◌}
use mathlib.Core.Option.{Option, none, some}
use Prim.Native.Nat.{ℕ, zero, suc, ◌+◌, ◌*◌, ◌≤◌}
use native.Mathlib.Omega.{arith}
use lib.Dec.{eqb, leb}
use lib.ListN.{length, take, drop}
use lib.Seq.{take-append_seam, take_at}
use borrow.Author.Tests.{eq-eqb, ne_eqb, eqb-true, le-leb, leb-true}
use Rattle.runs.specs.declared.Version.{Version}
use Rattle.runs.specs.declared.Version.TheVariants.{Two}
use Rattle.runs.specs.Machine.{Machine}
use Rattle.runs.specs.Reports.{clocks_per_cycle}
use Rattle.runs.specs.TwoRunners.{log_bound, RunAnswer, SaveAnswer, RestoreAnswer, refused_run, Ran, Stepped, end_with}
use Rattle.runs.specs.Refusals.{cycle_limit, first_of, unless}
use Rattle.runs.specs.TwoRunners.{unbroken, within, strides, run_number, told, stepwise, plain, skipping}
use Rattle.runs.specs.TwoRunners.{save_number, put, save_answer, got, restore_number, restore_answer, current_number, current_answer}
use Rattle.runs.specs.Laws.{Panel, ImageLaws, Laws}
use Rattle.runs.specs.Lists.{Kind, plain_one, skipping_one, Call, run, save, restore, refusal_of, run_answer, refusal, document_number}
use Rattle.runs.specs.Lists.{VersionRefusesBeforeTheBuffer, SheetRefusesFirst, ChangesNothing, WrittenBy, AnswersAs}
use Rattle.runs.proofs.Refusals.{first_at, first_past, first_under, first_is, passes}
use Rattle.runs.proofs.Iterate.{log_bound_lem}
use Rattle.runs.proofs.Cut.{roomy}
use Rattle.runs.proofs.Skipping.{strides-same}

-- a run that isn't refused
pub record Fit {S : Type 0} (M : Machine S) (rom sched : List ℕ) (s : S) (n : ℕ) : Type 0 where
  pub legal : M.own_number ≡ 0
  pub panel : M.panel_number rom sched ≡ 0
  pub state : M.state_number s ≡ 0
  pub limit : M.at s + n ≤ cycle_limit

module _ {S : Type 0} (M : Machine S) where
  -- By which numbers a call is refused.

  pub run_fit : (rom sched : List ℕ) (s : S) (n : ℕ) → run_number M rom sched s n ≡ 0 → Fit M rom sched s n
  unfolding run_number
  run_fit rom sched s n e = record {
    legal = first_at _ e 0;
    panel = first_at _ e 1;
    state = first_at _ e 2;
    limit = leb-true (M.at s + n) cycle_limit (passes (leb (M.at s + n) cycle_limit) 2 refl (first_at _ e 3));
  }

  pub fit_run : (rom sched : List ℕ) (s : S) (n : ℕ) → Fit M rom sched s n → run_number M rom sched s n ≡ 0
  unfolding run_number first_of
  fit_run rom sched s n f = rw (f.legal, f.panel, f.state, le-leb (M.at s + n) cycle_limit f.limit)

  pub save_fit : (v : Version) (s : S) (buffer : List ℕ) → save_number M v s buffer ≡ 0 → (M.state_number s ≡ 0) × (M.version_number v s ≡ 0)
  unfolding save_number
  save_fit v s buffer e = (first_at _ e 1, first_at _ e 2)

  pub fit_save : (v : Version) (s : S) (buffer : List ℕ) → M.own_number ≡ 0 → M.state_number s ≡ 0 → M.version_number v s ≡ 0
      → M.image_length v ≤ length buffer → save_number M v s buffer ≡ 0
  unfolding save_number first_of
  fit_save v s buffer o e f h = rw (o, e, f, le-leb (M.image_length v) (length buffer) h)

  told_number : (k : ℕ) (q : Stepped S) (s : S) (log : List ℕ) → refusal_of (told M k q s log).end ≡ k
  told_number zero q s log = ends q.ran.number
    where
      ends : (o : Option ℕ) → refusal_of (end_with o) ≡ 0
      ends none = refl
      ends (some k) = refl
  told_number (suc k) q s log = refl

  -- a run is refused by its number, and then changes nothing
  pub run_refusal : (kind : Kind) (rom sched : List ℕ) (s : S) (log : List ℕ) (n : ℕ)
      → refusal_of (run_answer M kind rom sched s log n).end ≡ run_number M rom sched s n
  unfolding plain skipping
  run_refusal plain_one rom sched s log n = told_number (run_number M rom sched s n) (stepwise M (within M rom sched (length log) n s)) s log
  run_refusal skipping_one rom sched s log n = told_number (run_number M rom sched s n) (strides M rom sched n (length log) n s) s log

  pub run_refused : (kind : Kind) (rom sched : List ℕ) (s : S) (log : List ℕ) (n k : ℕ) → run_number M rom sched s n ≡ suc k
      → run_answer M kind rom sched s log n ≡ refused_run (suc k) s log
  unfolding plain skipping
  run_refused plain_one rom sched s log n k e = ap (λ (j : ℕ). told M j (stepwise M (within M rom sched (length log) n s)) s log) e
  run_refused skipping_one rom sched s log n k e = ap (λ (j : ℕ). told M j (strides M rom sched n (length log) n s) s log) e

  put_number : (v : Version) (k : ℕ) (bytes buffer : List ℕ) → (put M v k bytes buffer).number ≡ k
  put_number v zero bytes buffer = refl
  put_number v (suc k) bytes buffer = refl

  pub got_number : (k : ℕ) (s : S) → (got M k s).number ≡ k
  got_number zero s = refl
  got_number (suc k) s = refl

  pub save_number_lem : (v : Version) (s : S) (buffer : List ℕ) → (save_answer M v s buffer).number ≡ save_number M v s buffer
  unfolding save_answer
  save_number_lem v s buffer = put_number v (save_number M v s buffer) (M.image v s) buffer

  pub restore-number : (bytes : List ℕ) → (restore_answer M bytes).number ≡ restore_number M bytes
  unfolding restore_answer
  restore-number bytes = got_number (restore_number M bytes) (M.of_image bytes)

  -- What a run answers that isn't refused.

  told_same : (q : Stepped S) (u : Ran S) (s : S) (log : List ℕ) → q.ran ≡ u → AnswersAs (told M zero q s log) u
  told_same q u s log e = record {
    end = ap (λ (r : Ran S). end_with r.number) e;
    state = ap (λ (r : Ran S). r.state) e;
    written = ap (λ (r : Ran S). length r.bytes) e;
    log = take-append_seam q.ran.bytes (drop (length q.ran.bytes) log) ∙ ap (λ (r : Ran S). r.bytes) e;
    cycles = ap (λ (r : Ran S). r.cycles) e;
    begun = ap (λ (r : Ran S). r.begun) e;
    clocks = ap (λ (r : Ran S). clocks_per_cycle * r.cycles) e;
  }

  -- on a log of 16n bytes, either runner answers what n cycles come to
  pub run_same : Laws M → (kind : Kind) (rom sched : List ℕ) (s : S) (log : List ℕ) (n : ℕ) → Panel M rom sched
      → M.state_number s ≡ 0 → M.at s + n ≤ cycle_limit → log_bound n ≤ length log
      → AnswersAs (run_answer M kind rom sched s log n) (unbroken M rom sched n s)
  unfolding plain skipping
  run_same L kind rom sched s log n p v h room = go kind
    where
      u : Ran S
      u = unbroken M rom sched n s

      fits : within M rom sched (length log) n s ≡ u
      fits = roomy M rom sched n (length log) s (omega (arith, log_bound_lem M L.cycles rom sched p n s v h))

      run_number_lem : run_number M rom sched s n ≡ 0
      run_number_lem = fit_run rom sched s n (record { legal = p.legal; panel = p.not_refused_is; state = v; limit = h })

      told_as : (a : RunAnswer S) (k : ℕ) (q : Stepped S) → a ≡ told M k q s log → k ≡ 0 → q.ran ≡ u → AnswersAs a u
      told_as a k q e z f =
          subst (λ (x : RunAnswer S). AnswersAs x u) (sym (e ∙ ap (λ (j : ℕ). told M j q s log) z)) (told_same q u s log f)

      go : (kind : Kind) → AnswersAs (run_answer M kind rom sched s log n) u
      go plain_one = told_as _ (run_number M rom sched s n) (stepwise M (within M rom sched (length log) n s)) refl run_number_lem fits
      go skipping_one =
          told_as _ (run_number M rom sched s n) (strides M rom sched n (length log) n s) refl run_number_lem
          (strides-same M L.jumps rom sched n n (length log) s (omega arith) ∙ fits)

  -- A restore of what a save wrote.

  -- what a save that isn't refused wrote
  record Wrote (v : Version) (s : S) (bytes : List ℕ) : Type 0 where
    sound : M.state_number s ≡ 0
    held : M.version_number v s ≡ 0
    image : bytes ≡ M.image v s

  wrote : ImageLaws M → (s : S) (bytes : List ℕ) → (w : WrittenBy M s bytes) → Wrote w.version s bytes
  unfolding save_answer
  wrote L s bytes w =
      let v : Version = w.version in
      let z : save_number M v s w.buffer ≡ 0 = sym (save_number_lem v s w.buffer) ∙ w.done in
      let f = save_fit v s w.buffer z in
      let x : save_answer M v s w.buffer ≡ put M v 0 (M.image v s) w.buffer = rw z in
      record {
        sound = f.0;
        held = f.1;
        image =
            w.same
            ∙ ap (λ (a : SaveAnswer). take (M.image_length v) a.buffer) x
            ∙ take_at (M.image v s) (drop (M.image_length v) w.buffer) (M.image_length v) (L.image_length_is v s f.0 f.1);
      }

  pub restore-fit : (bytes : List ℕ) → restore_number M bytes ≡ 0 → (M.own_number ≡ 0) × (M.image_number bytes ≡ 0)
  unfolding restore_number
  restore-fit bytes e = (first_at _ e 0, first_at _ e 1)

  pub fit_restore : (bytes : List ℕ) → M.own_number ≡ 0 → M.image_number bytes ≡ 0 → restore_number M bytes ≡ 0
  unfolding restore_number first_of
  fit_restore bytes o e = rw (o, e)

  pub restore_same : ImageLaws M → M.own_number ≡ 0 → (s : S) (bytes : List ℕ) → WrittenBy M s bytes
      → restore_answer M bytes ≡ record { number = 0; state = s }
  unfolding restore_answer
  restore_same L legal s bytes w =
      let f = wrote L s bytes w in
      let v : Version = w.version in
      let z : restore_number M bytes ≡ 0
      = fit_restore bytes legal (ap M.image_number f.image ∙ L.image_accepted v s f.sound f.held) in
      let back : M.of_image bytes ≡ s = ap M.of_image f.image ∙ L.image_back v s f.sound f.held in
      ap (λ (k : ℕ). got M k (M.of_image bytes)) z ∙ ap (λ (t : S). got M 0 t) back

  -- An image where version 2 is due.

  -- an image that isn't refused there
  pub record Current (bytes : List ℕ) : Type 0 where
    pub legal : M.own_number ≡ 0
    pub long : length bytes ≡ M.image_length Two
    pub accepted : M.image_number bytes ≡ 0

  pub current_fit : (bytes : List ℕ) → current_number M bytes ≡ 0 → Current bytes
  unfolding current_number
  current_fit bytes e =
      let z = first_at _ e in
      record {
        legal = z 0;
        long = eqb-true (length bytes) (M.image_length Two) (passes (eqb (length bytes) (M.image_length Two)) 31 refl (z 1));
        accepted = z 2;
      }

  -- of version 2's length it is restored as any image is, else it is 31, after 71
  pub current_long : (bytes : List ℕ) → length bytes ≡ M.image_length Two → current_answer M bytes ≡ restore_answer M bytes
  unfolding current_answer restore_answer current_number restore_number
  current_long bytes h =
      let within : (b : Bool) → b ≡ true
      → first_of (M.own_number ∷ unless b 31 ∷ M.image_number bytes ∷ []) ≡ first_of (M.own_number ∷ M.image_number bytes ∷ [])
      = λ b e. first_under M.own_number _ _ (first_past _ _ (ap (λ (x : Bool). unless x 31) e)) in
      ap (λ (k : ℕ). got M k (M.of_image bytes))
      (within (eqb (length bytes) (M.image_length Two)) (eq-eqb (length bytes) (M.image_length Two) h))

  pub current_other : (bytes : List ℕ) → M.own_number ≡ 0 → (length bytes ≡ M.image_length Two → ⊥)
      → current_answer M bytes ≡ record { number = 31; state = M.fresh }
  unfolding current_answer current_number first_of
  current_other bytes legal h = rw (legal, ne_eqb (length bytes) (M.image_length Two) h)

  -- the image of an accepted state isn't refused there
  pub image_current : ImageLaws M → M.own_number ≡ 0 → (s : S) → M.state_number s ≡ 0 → current_number M (M.image Two s) ≡ 0
  unfolding current_number first_of
  image_current L legal s e =
      let held : M.version_number Two s ≡ 0 = L.two_holds_all s in
      rw (legal, eq-eqb (length (M.image Two s)) (M.image_length Two) (L.image_length_is Two s e held), L.image_accepted Two s e held)

-- A CALL, made on the machine of its sheet

module _ {Sheet S : Type 0} (M : Sheet → Machine S) where
  -- a call is refused where the documents refuse it, and with their number
  pub by_number : (c : Call Sheet S) → refusal M c ≡ document_number M c
  by_number (run kind rom sched s log n sheet) = run_refusal (M sheet) kind rom sched s log n
  by_number (save v s buffer sheet) = save_number_lem (M sheet) v s buffer
  by_number (restore bytes sheet) = restore-number (M sheet) bytes

  -- a sheet that is refused refuses first
  pub sheet_refuses_first : SheetRefusesFirst M
  unfolding run_number save_number restore_number
  sheet_refuses_first (run kind rom sched s log n sheet) k e =
      by_number (run kind rom sched s log n sheet) ∙ first_is (M sheet).own_number k _ e
  sheet_refuses_first (save v s buffer sheet) k e = by_number (save v s buffer sheet) ∙ first_is (M sheet).own_number k _ e
  sheet_refuses_first (restore bytes sheet) k e = by_number (restore bytes sheet) ∙ first_is (M sheet).own_number k _ e

  pub version_refuses_before_the_buffer : VersionRefusesBeforeTheBuffer M
  unfolding save_number
  version_refuses_before_the_buffer v s buffer sheet k o e f =
      by_number (save v s buffer sheet)
      ∙ first_past (M sheet).own_number _ o
      ∙ first_past ((M sheet).state_number s) _ e
      ∙ first_is ((M sheet).version_number v s) k _ f

  -- What a refused call answers.

  refused-nothing : (c : Call Sheet S) (k : ℕ) → document_number M c ≡ k → ChangesNothing M k c
  unfolding save_answer restore_answer
  refused-nothing c zero e = tt
  refused-nothing (run kind rom sched s log n sheet) (suc k) e = run_refused (M sheet) kind rom sched s log n k e
  refused-nothing (save v s buffer sheet) (suc k) e = ap (λ (j : ℕ). put (M sheet) v j ((M sheet).image v s) buffer) e
  refused-nothing (restore bytes sheet) (suc k) e = ap (λ (j : ℕ). got (M sheet) j ((M sheet).of_image bytes)) e

  pub changes_nothing : (c : Call Sheet S) → ChangesNothing M (refusal M c) c
  changes_nothing c = refused-nothing c (refusal M c) (sym (by_number c))
