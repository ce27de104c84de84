-- What holds of every call of the board. Assumes nothing.
use mathlib.Core.Path.{◌≡◌, ◌∙◌, refl, sym, ap, subst}
use mathlib.Core.Bool.{Bool, true, false, cond}
use mathlib.Core.List.{List, [], ◌∷◌, append-nil}
use mathlib.Core.Option.{Option, none, some}
use Prim.Native.Nat.{ℕ, zero, suc, ◌^◌, ◌<◌, ◌≤◌}
use native.Mathlib.Nat.{le_of_eq}
use native.Mathlib.Omega.{arith}
use lib.ListN.{length, take, replicate, drop_of_length-le}
use lib.Dec.{eqb}
use borrow.Author.Tests.{le-leb}
use lib.Seq.{take_all}
use Rattle.runs.specs.declared.Version.TheVariants.{Two}
use Rattle.runs.specs.Machine.{Machine}
use Rattle.runs.specs.Refusals.{first_of, unless}
use Rattle.runs.specs.Numbers.{is_stop}
use Rattle.runs.specs.TwoRunners.{End, finished, stopped, refused, number_of_end, RunAnswer, SaveAnswer, RestoreAnswer, end_with}
use Rattle.runs.specs.TwoRunners.{within, strides, run_number, told, stepwise, plain, skipping, save_answer, got, restore_answer, current_number, current_answer}
use Rattle.runs.specs.Laws.{ImageLaws, JumpLaws, NumberLaws, Laws}
use Rattle.runs.specs.EveryRun.{CountsWithin, NumberTells}
use Rattle.runs.specs.Lists.{Kind, plain_one, skipping_one, refusal_of, run_answer, WrittenBy}
use Rattle.runs.proofs.Refusals.{first_at, first_past, first_is, last_one, passes}
use Rattle.runs.proofs.Calls.{run_fit, fit_save, got_number, run_refusal, fit_restore, restore_same, current_fit, current_long}
use Rattle.runs.proofs.EveryRun.{first_no_stop, unless_no_stop, runs_sound, counts_within, numbers_tell}
use Rattle.upd546.specs.Bytes.{number_at}
use Rattle.laws.proofs.Digits.{bytes_back}
use Rattle.calls.specs.Call.{BoardCall, BoardAnswer, kind_of, report_length, count_bytes, reported, long_enough, on_restored, image_run, run_of, ran_call, on_report, call_answer}
use Rattle.calls.specs.EveryCall.{end_by, refused_report, call_refusal, call_number, EveryCallIsRefusedByNumbers, SheetRefusesBeforeTheImage}
use Rattle.calls.specs.EveryCall.{Refuses, CallChangesNothing, EveryRefusalChangesNothing}
use Rattle.calls.specs.EveryCall.{TellsItsRun, EveryCallTellsItsRun, EveryFinishOrStopRewrites}
use Rattle.calls.proofs.Call.{NoRefusal, idle, ran_answer}

-- how a call ends: a report that is too short is refused with 1, else as the run ends
abbrev pub end_with_report : Bool → End → End
end_with_report false e = refused 1
end_with_report true e = e

module _ {S : Type 0} (M : Machine S) where
  -- WHAT REFUSES A CALL

  -- the number of the end that refuses it, else 0
  abbrev pub own_refusal : BoardCall → ℕ
  own_refusal c = refusal_of (end_with_report (long_enough c) (run_of M c).end)

  restored_number : (k : ℕ) (s : S) (kind : Kind) (rom sched log : List ℕ) (n : ℕ)
      → refusal_of (on_restored M (got M k s).number (got M k s).state kind rom sched log n).end ≡ first_of (k ∷ run_number M rom sched s n ∷ [])
  unfolding first_of
  restored_number zero s kind rom sched log n = run_refusal M kind rom sched s log n ∙ sym (last_one (run_number M rom sched s n))
  restored_number (suc k) s kind rom sched log n = refl

  run_number_lem : (c : BoardCall) → refusal_of (run_of M c).end ≡ first_of (current_number M c.image ∷ run_number M c.rom c.sched (M.of_image c.image) c.n ∷ [])
  unfolding image_run current_answer
  run_number_lem c = restored_number (current_number M c.image) (M.of_image c.image) (kind_of c.runner) c.rom c.sched c.log c.n

  -- it is the documents' number
  call_number_lem : (c : BoardCall) → own_refusal c ≡ call_number M c
  unfolding first_of
  call_number_lem c = go (long_enough c)
    where
      go : (b : Bool) → refusal_of (end_with_report b (run_of M c).end)
          ≡ first_of (unless b 1 ∷ current_number M c.image ∷ run_number M c.rom c.sched (M.of_image c.image) c.n ∷ [])
      go false = refl
      go true = run_number_lem c

  -- WHAT A REFUSED CALL LEAVES

  leaves : (c : BoardCall) (b : Bool) (e : End) (a : RunAnswer S) → long_enough c ≡ b → call_answer M c ≡ on_report M b c e a
      → CallChangesNothing M (refusal_of (end_with_report b e)) c
  leaves c false e a q h = record {
    number = ap (λ (z : BoardAnswer). z.number) h;
    image = ap (λ (z : BoardAnswer). z.image) h;
    log = ap (λ (z : BoardAnswer). z.log) h;
    report = ap (λ (z : BoardAnswer). z.report) h ∙ ap (λ (b : Bool). refused_report b c.report) (sym q);
  }
  leaves c true finished a q h = tt
  leaves c true (stopped k) a q h = tt
  leaves c true (refused zero) a q h = tt
  leaves c true (refused (suc k)) a q h = record {
    number = ap (λ (z : BoardAnswer). z.number) h;
    image = ap (λ (z : BoardAnswer). z.image) h;
    log = ap (λ (z : BoardAnswer). z.log) h;
    report = ap (λ (z : BoardAnswer). z.report) h ∙ ap (λ (b : Bool). refused_report b c.report) (sym q);
  }

  left : (c : BoardCall) → CallChangesNothing M (own_refusal c) c
  unfolding call_answer
  left c = leaves c (long_enough c) (run_of M c).end (run_of M c) refl refl

  -- A CALL THAT ISN'T REFUSED

  -- its sheet is legal, its image has version 2's length and is restored, its run is the run from there, which no number refuses,
  -- its report has 32 bytes, and it answers that run
  pub record Through (c : BoardCall) : Type 0 where
    pub legal : M.own_number ≡ 0
    pub long : length c.image ≡ M.image_length Two
    pub restored : restore_answer M c.image ≡ record { number = 0; state = M.of_image c.image }
    pub same_run : run_of M c ≡ run_answer M (kind_of c.runner) c.rom c.sched (restore_answer M c.image).state c.log c.n
    pub run_ok : run_number M c.rom c.sched (restore_answer M c.image).state c.n ≡ 0
    pub enough : long_enough c ≡ true
    pub answers : call_answer M c ≡ ran_call M c (number_of_end (run_of M c).end) (run_of M c)

  ends : (o : Option ℕ) → NoRefusal (end_with o)
  ends none = tt
  ends (some k) = tt

  run_ends : (kind : Kind) (rom sched : List ℕ) (s : S) (log : List ℕ) (n : ℕ) → run_number M rom sched s n ≡ 0 → NoRefusal (run_answer M kind rom sched s log n).end
  unfolding plain skipping
  run_ends plain_one rom sched s log n z =
      let q = stepwise M (within M rom sched (length log) n s) in
      subst (λ (k : ℕ). NoRefusal (told M k q s log).end) (sym z) (ends q.ran.number)
  run_ends skipping_one rom sched s log n z =
      let q = strides M rom sched n (length log) n s in
      subst (λ (k : ℕ). NoRefusal (told M k q s log).end) (sym z) (ends q.ran.number)

  pub through : (c : BoardCall) → own_refusal c ≡ 0 → Through c
  unfolding image_run restore_answer call_answer
  through c h =
      let z : call_number M c ≡ 0 = sym (call_number_lem c) ∙ h in
      let kind : Kind = kind_of c.runner in
      let s : S = (restore_answer M c.image).state in
      let current = current_fit M c.image (first_at _ z 1) in
      let restored : restore_answer M c.image ≡ record { number = 0; state = M.of_image c.image }
      = ap (λ (k : ℕ). got M k (M.of_image c.image)) (fit_restore M c.image current.legal current.accepted) in
      let same_state : s ≡ M.of_image c.image = ap (λ (r : RestoreAnswer S). r.state) restored in
      let ok : run_number M c.rom c.sched s c.n ≡ 0 = ap (λ (t : S). run_number M c.rom c.sched t c.n) same_state ∙ first_at _ z 2 in
      let same : run_of M c ≡ run_answer M kind c.rom c.sched s c.log c.n
      = ap (λ (r : RestoreAnswer S). on_restored M r.number r.state kind c.rom c.sched c.log c.n) (current_long M c.image current.long)
      ∙ ap (λ (r : RestoreAnswer S). on_restored M r.number s kind c.rom c.sched c.log c.n) restored in
      let ran : NoRefusal (run_of M c).end
      = subst (λ (a : RunAnswer S). NoRefusal a.end) (sym same) (run_ends kind c.rom c.sched s c.log c.n ok) in
      let enough : long_enough c ≡ true = passes (long_enough c) 1 refl (first_at _ z 0) in
      record {
        legal = current.legal;
        long = current.long;
        restored = restored;
        same_run = same;
        run_ok = ok;
        enough = enough;
        answers =
            ap (λ (b : Bool). on_report M b c (run_of M c).end (run_of M c)) enough
            ∙ ran_answer M c (run_of M c).end (run_of M c) ran;
      }

  -- IMAGES

  module _ (L : ImageLaws M) (legal : M.own_number ≡ 0) where
    -- a save over an image
    pub saves_over : (s : S) (b : List ℕ) → M.state_number s ≡ 0 → length b ≡ M.image_length Two
        → save_answer M Two s b ≡ record { number = 0; buffer = M.image Two s }
    unfolding save_answer
    saves_over s b v h =
        rw (
          fit_save M Two s b legal v (L.two_holds_all s) (le_of_eq (sym h)),
          drop_of_length-le b (le_of_eq h),
          append-nil (M.image Two s),
        )

    pub written : (s : S) → M.state_number s ≡ 0 → WrittenBy M s (M.image Two s)
    written s v =
        let long : length (M.image Two s) ≡ M.image_length Two = L.image_length_is Two s v (L.two_holds_all s) in
        let over = saves_over s (M.image Two s) v long in
        record {
          version = Two;
          buffer = M.image Two s;
          done = ap (λ (a : SaveAnswer). a.number) over;
          same =
              sym (take_all (M.image_length Two) (M.image Two s) (le_of_eq long))
              ∙ ap (λ (a : SaveAnswer). take (M.image_length Two) a.buffer) (sym over);
        }

    -- the image of an accepted state is restored to that state
    pub back : (s : S) (image : List ℕ) → M.state_number s ≡ 0 → image ≡ M.image Two s → restore_answer M image ≡ record { number = 0; state = s }
    back s image v e = restore_same M L legal s image (subst (λ (i : List ℕ). WrittenBy M s i) (sym e) (written s v))

-- WHAT THE NUMBER TELLS

module _ {S : Type 0} (M : Machine S) where
  restored_tells : JumpLaws M → NumberLaws M → (k : ℕ) (s : S) (kind : Kind) (rom sched log : List ℕ) (n : ℕ) → is_stop k ≡ false
      → NumberTells (on_restored M k s kind rom sched log n).end
  restored_tells J N zero s kind rom sched log n h = numbers_tell M J N kind rom sched s log n
  restored_tells J N (suc k) s kind rom sched log n h = h

  current_tells : NumberLaws M → (image : List ℕ) → is_stop (current_answer M image).number ≡ false
  unfolding current_answer current_number
  current_tells N image =
      ap is_stop (got_number M (current_number M image) (M.of_image image))
      ∙ first_no_stop _ (N.own, (unless_no_stop (eqb (length image) (M.image_length Two)) 31 refl, (N.images image, tt)))

  run_tells : JumpLaws M → NumberLaws M → (c : BoardCall) → NumberTells (run_of M c).end
  unfolding image_run
  run_tells J N c =
      restored_tells J N (current_answer M c.image).number (current_answer M c.image).state (kind_of c.runner) c.rom c.sched c.log c.n
      (current_tells N c.image)

  end_told : (c : BoardCall) (b : Bool) (e : End) (a : RunAnswer S) → NumberTells e → end_by (on_report M b c e a).number ≡ end_with_report b e
  end_told c false e a h = refl
  end_told c true finished a h = refl
  end_told c true (stopped zero) a h = cc
  end_told c true (stopped (suc k)) a h = ap (λ (t : Bool). cond t (stopped (suc k)) (refused (suc k))) h
  end_told c true (refused zero) a h = absurd h
  end_told c true (refused (suc k)) a h = ap (λ (t : Bool). cond t (stopped (suc k)) (refused (suc k))) h

  call_tells : JumpLaws M → NumberLaws M → (c : BoardCall) → end_by (call_answer M c).number ≡ end_with_report (long_enough c) (run_of M c).end
  unfolding call_answer
  call_tells J N c = end_told c (long_enough c) (run_of M c).end (run_of M c) (run_tells J N c)

  pub own_refusal_lem : JumpLaws M → NumberLaws M → (c : BoardCall) → own_refusal M c ≡ call_refusal M c
  own_refusal_lem J N c = sym (ap refusal_of (call_tells J N c))

  pub refused_by_numbers : JumpLaws M → NumberLaws M → EveryCallIsRefusedByNumbers M
  refused_by_numbers J N c = sym (own_refusal_lem J N c) ∙ call_number_lem M c

  -- 71 refuses where the report is long enough
  pub sheet_refuses_before_the_image : JumpLaws M → NumberLaws M → SheetRefusesBeforeTheImage M
  unfolding current_number
  sheet_refuses_before_the_image J N c k long e =
      refused_by_numbers J N c
      ∙ first_past _ _ (ap (λ (b : Bool). unless b 1) (le-leb report_length (length c.report) long))
      ∙ first_is _ k _ (first_is M.own_number k _ e)

  pub changes_nothing : JumpLaws M → NumberLaws M → EveryRefusalChangesNothing M
  changes_nothing J N c = subst (λ (k : ℕ). CallChangesNothing M k c) (own_refusal_lem J N c) (left M c)

-- "a finish or a stop rewrites it", whatever the log's length
pub call_rewrites : {S : Type 0} (M : Machine S) → (M.own_number ≡ 0 → Laws M) → JumpLaws M → NumberLaws M → EveryFinishOrStopRewrites M
call_rewrites {S} M laws J N c br bs h =
    let t = through M c (own_refusal_lem M J N c ∙ h) in
    let images : ImageLaws M = (laws t.legal).images in
    let s : S = (restore_answer M c.image).state in
    let kind : Kind = kind_of c.runner in
    let f = run_fit M c.rom c.sched s c.n t.run_ok in
    let sound : M.state_number (run_of M c).state ≡ 0
    = ap (λ (a : RunAnswer S). M.state_number a.state) t.same_run
    ∙ runs_sound M laws kind c.rom c.sched s c.log c.n br bs f.state in
    let over = saves_over M images t.legal (run_of M c).state c.image sound t.long in
    let left : (call_answer M c).image ≡ M.image Two (run_of M c).state
    = ap (λ (z : BoardAnswer). z.image) t.answers ∙ ap (λ (z : SaveAnswer). z.buffer) over in
    record {
      saved = ap (λ (z : SaveAnswer). z.number) over;
      image = left;
      restores = back M images t.legal (run_of M c).state (call_answer M c).image sound left;
    }

-- WHAT A CALL TELLS OF ITS RUN

-- an end that refuses, by its number
refused_end : (e : End) (k : ℕ) → refusal_of e ≡ suc k → e ≡ refused (suc k)
refused_end finished k h = cc
refused_end (stopped j) k h = cc
refused_end (refused j) k h = ap refused h

module _ {S : Type 0} (M : Machine S) (laws : M.own_number ≡ 0 → Laws M) (J : JumpLaws M) (N : NumberLaws M) where
  end_as : (c : BoardCall) → long_enough c ≡ true → end_by (call_answer M c).number ≡ (run_of M c).end
  end_as c enough = call_tells M J N c ∙ ap (λ (b : Bool). end_with_report b (run_of M c).end) enough

  -- a call that isn't refused, whose log bytes stand in eight bytes
  pub ran_tells : (c : BoardCall) → own_refusal M c ≡ 0 → (run_of M c).written < 2 ^ 64 → TellsItsRun M c
  ran_tells c h small =
      let t = through M c h in
      let s : S = (restore_answer M c.image).state in
      let a : RunAnswer S = run_of M c in
      let f = run_fit M c.rom c.sched s c.n t.run_ok in
      let w : CountsWithin c.log c.n a
      = subst (CountsWithin c.log c.n) (sym t.same_run)
      (counts_within M laws (kind_of c.runner) c.rom c.sched s c.log c.n) in
      let told : (call_answer M c).report ≡ reported (count_bytes a.cycles a.begun a.written a.steps) c.report
      = ap (λ (z : BoardAnswer). z.report) t.answers in
      let cycles : a.cycles < 256 ^ 8 = omega (arith, w.cycles, f.limit) in
      let begun : a.begun < 256 ^ 8 = omega (arith, w.begun, cycles) in
      let written : a.written < 256 ^ 8 = omega (arith, small) in
      let steps : a.steps < 256 ^ 8 = omega (arith, w.steps, cycles) in
      record {
        end = end_as c t.enough;
        log = ap (λ (z : BoardAnswer). z.log) t.answers;
        cycles = ap (λ (l : List ℕ). number_at l 0 8) told ∙ bytes_back 8 a.cycles cycles;
        begun = ap (λ (l : List ℕ). number_at l 8 8) told ∙ bytes_back 8 a.begun begun;
        written = ap (λ (l : List ℕ). number_at l 16 8) told ∙ bytes_back 8 a.written written;
        steps = ap (λ (l : List ℕ). number_at l 24 8) told ∙ bytes_back 8 a.steps steps;
      }

  refused-tells : (c : BoardCall) (k : ℕ) → report_length ≤ length c.report → own_refusal M c ≡ suc k → TellsItsRun M c
  refused-tells c k long h =
      let enough : long_enough c ≡ true = le-leb report_length (length c.report) long in
      let same : Refuses M (suc k) c = subst (λ (j : ℕ). CallChangesNothing M j c) h (left M c) in
      let number : refusal_of (run_of M c).end ≡ suc k
      = sym (ap (λ (b : Bool). refusal_of (end_with_report b (run_of M c).end)) enough) ∙ h in
      let none = idle M c k (refused_end (run_of M c).end k number) in
      let zeros : (call_answer M c).report ≡ reported (replicate report_length 0) c.report
      = same.report ∙ ap (λ (b : Bool). refused_report b c.report) enough in
      record {
        end = end_as c enough;
        log = same.log ∙ sym none.log;
        cycles = ap (λ (l : List ℕ). number_at l 0 8) zeros ∙ sym none.cycles;
        begun = ap (λ (l : List ℕ). number_at l 8 8) zeros ∙ sym none.begun;
        written = ap (λ (l : List ℕ). number_at l 16 8) zeros ∙ sym none.written;
        steps = ap (λ (l : List ℕ). number_at l 24 8) zeros ∙ sym none.steps;
      }

  pub call_tells_run : EveryCallTellsItsRun M
  call_tells_run c small long = go (own_refusal M c) refl
    where
      fits : own_refusal M c ≡ 0 → (run_of M c).written < 2 ^ 64
      fits h =
          let w : CountsWithin c.log c.n (run_of M c)
          = subst (CountsWithin c.log c.n) (sym (through M c h).same_run)
          (counts_within M laws (kind_of c.runner) c.rom c.sched (restore_answer M c.image).state c.log c.n) in
          omega (arith, w.written, small)

      go : (k : ℕ) → own_refusal M c ≡ k → TellsItsRun M c
      go zero h = ran_tells c h (fits h)
      go (suc k) h = refused-tells c k long h
