-- The power-off guarantee over lists of the board's call: each stands for a restore, a run and a save. Assumes nothing.
use mathlib.Core.Path.{◌≡◌, ◌∙◌, refl, sym, ap, ap₂, subst}
use mathlib.Core.Bool.{Bool, true, false, cond}
use mathlib.Core.Logic.{◌↔◌}
use mathlib.Core.List.{List, [], ◌∷◌, ◌++◌, map}
use mathlib.Core.Option.{Option, some}
use Prim.Native.Nat.{ℕ, zero, suc, ◌+◌, ◌^◌, ◌<◌, ◌≤◌}
use native.Mathlib.Nat.{zero-add}
use native.Mathlib.Omega.{arith}
use lib.ListN.{length, take, replicate}
use borrow.Author.Tests.{le-leb}
use Rattle.runs.specs.declared.Version.TheVariants.{Two}
use Rattle.runs.specs.Machine.{Machine}
use Rattle.runs.specs.Numbers.{is_stop}
use Rattle.runs.specs.Refusals.{cycle_limit, unless}
use Rattle.runs.specs.TwoRunners.{finished, stopped, refused, RunAnswer, SaveAnswer, RestoreAnswer, unbroken, run_number, save_answer, got, restore_answer, current_number, current_answer}
use Rattle.runs.specs.Laws.{Panel, JumpLaws, NumberLaws, Laws, LegalLaws}
use Rattle.runs.specs.Lists.{Kind, Call, run, save, restore, sheet_of, Each, refusal_of, run_answer, not_refused, last, WrittenBy, Lent, AllGet, Meant}
use Rattle.runs.specs.Lists.{runs, run_log, joined_log, cycle_total, begun_total, AllFinish, StopsHave, asked, EndsAs, GoesOn, EndsAsOneRun}
use Rattle.runs.specs.Versions.{ImageOf, AcceptedLaws}
use Rattle.runs.proofs.Refusals.{first_past, last_one}
use Rattle.runs.proofs.Iterate.{log_bound_lem}
use Rattle.runs.proofs.Calls.{run_fit, got_number, by_number, current_fit, image_current}
use Rattle.runs.proofs.Lists.{each, keeps, advances, lists_end}
use Rattle.upd546.specs.Bytes.{number_at}
use Rattle.upd546.specs.declared.Sheet.{Sheet}
use Rattle.calls.specs.Call.{BoardCall, BoardAnswer, kind_of, report_length, reported, call_answer, board_answer}
use Rattle.calls.specs.EveryCall.{end_by, refused_report, call_refusal, call_number, CallChangesNothing, figure_at, TellsItsRun}
use Rattle.calls.specs.Lists.{keep_call, calls_not_refused, PanelLent, OnOneImage, image_after, call_logs, figure_total, joined, calls_ask, EveryListOnOneImageIsMeant, CallsEndAs, SameFigures, CallsEndAsOneRun, EveryListOfCallsEndsAsOneRun, EveryAcceptedImageEndsAsOneRun}
use Rattle.calls.proofs.EveryCall.{own_refusal, own_refusal_lem, refused_by_numbers, changes_nothing, through, saves_over, written, back, ran_tells}

-- WHAT CALLS TELL OF RUNS

-- a number that is a finish's
by_finish : (k : ℕ) → end_by k ≡ finished → k ≡ 0
by_finish zero e = refl
by_finish (suc k) e = go (is_stop (suc k)) e
  where
    go : (b : Bool) → cond b (stopped (suc k)) (refused (suc k)) ≡ finished → suc k ≡ 0
    go true e = cc
    go false e = cc

-- any other that is no refusal's
by_stop : (k : ℕ) → refusal_of (end_by (suc k)) ≡ 0 → end_by (suc k) ≡ stopped (suc k)
by_stop k e = go (is_stop (suc k)) e
  where
    go : (b : Bool) → refusal_of (cond b (stopped (suc k)) (refused (suc k))) ≡ 0 → cond b (stopped (suc k)) (refused (suc k)) ≡ stopped (suc k)
    go true e = refl
    go false e = absurd (omega (arith, e))

module _ {S : Type 0} (M : Sheet → Machine S) where
  -- a call that isn't refused, and a run: what it tells is that run
  record Tells (c : BoardCall) (a : RunAnswer S) : Type 0 where
    taken : call_refusal (M c.sheet) c ≡ 0
    end : end_by (board_answer M c).number ≡ a.end
    log : take (figure_at (M c.sheet) 16 c) (board_answer M c).log ≡ run_log a
    cycles : figure_at (M c.sheet) 0 c ≡ a.cycles
    begun : figure_at (M c.sheet) 8 c ≡ a.begun

  abbrev AllTell : List BoardCall → List (RunAnswer S) → Type 0
  AllTell [] [] = Unit {0}
  AllTell [] (a ∷ rs) = ⊥
  AllTell (c ∷ cs) [] = ⊥
  AllTell (c ∷ cs) (a ∷ rs) = Tells c a × AllTell cs rs

  same_logs : (cs : List BoardCall) (rs : List (RunAnswer S)) → AllTell cs rs → call_logs M cs ≡ map run_log rs
  same_logs [] [] h = refl
  same_logs [] (a ∷ rs) h = absurd h
  same_logs (c ∷ cs) [] h = absurd h
  same_logs (c ∷ cs) (a ∷ rs) h = ap₂ (λ (l : List ℕ) (ls : List (List ℕ)). l ∷ ls) h.0.log (same_logs cs rs h.1)

  joined_log_is : (rs : List (RunAnswer S)) → joined (map run_log rs) ≡ joined_log rs
  joined_log_is [] = refl
  joined_log_is (a ∷ rs) = ap (λ (l : List ℕ). run_log a ++ l) (joined_log_is rs)

  same_cycles : (cs : List BoardCall) (rs : List (RunAnswer S)) → AllTell cs rs → figure_total M 0 cs ≡ cycle_total rs
  same_cycles [] [] h = refl
  same_cycles [] (a ∷ rs) h = absurd h
  same_cycles (c ∷ cs) [] h = absurd h
  same_cycles (c ∷ cs) (a ∷ rs) h = ap₂ ◌+◌ h.0.cycles (same_cycles cs rs h.1)

  same_begun : (cs : List BoardCall) (rs : List (RunAnswer S)) → AllTell cs rs → figure_total M 8 cs ≡ begun_total rs
  same_begun [] [] h = refl
  same_begun [] (a ∷ rs) h = absurd h
  same_begun (c ∷ cs) [] h = absurd h
  same_begun (c ∷ cs) (a ∷ rs) h = ap₂ ◌+◌ h.0.begun (same_begun cs rs h.1)

  all_finish : (cs : List BoardCall) (rs : List (RunAnswer S)) → AllTell cs rs → Each (λ c. (board_answer M c).number ≡ 0) cs ↔ AllFinish rs
  all_finish [] [] h = (λ f. tt, λ f. tt)
  all_finish [] (a ∷ rs) h = absurd h
  all_finish (c ∷ cs) [] h = absurd h
  all_finish (c ∷ cs) (a ∷ rs) h =
      let rest = all_finish cs rs h.1 in (
        λ f. (sym h.0.end ∙ ap end_by f.0, rest.0 f.1),
        λ f. (by_finish (board_answer M c).number (h.0.end ∙ f.0), rest.1 f.1),
      )

  all_stops : (o : Option ℕ) (cs : List BoardCall) (rs : List (RunAnswer S)) → AllTell cs rs → StopsHave o rs
      → Each (λ c. (k : ℕ) → (board_answer M c).number ≡ suc k → o ≡ some (suc k)) cs
  all_stops o [] [] h f = tt
  all_stops o [] (a ∷ rs) h f = absurd h
  all_stops o (c ∷ cs) [] h f = absurd h
  all_stops o (c ∷ cs) (a ∷ rs) h f = (
    λ k e.
        let ran : refusal_of (end_by (suc k)) ≡ 0 = ap (λ (j : ℕ). refusal_of (end_by j)) (sym e) ∙ h.0.taken in
        f.0 (suc k) (sym h.0.end ∙ ap end_by e ∙ by_stop k ran),
    all_stops o cs rs h.1 f.1,
  )

-- THE CALLS THAT A LIST STANDS FOR

module _ {S : Type 0} (M : Sheet → Machine S) where
  -- "each call standing for a slice": the restore, the run and the save that a call is
  abbrev pub slices_of : List BoardCall → List (Call Sheet S)
  slices_of [] = []
  slices_of (c ∷ cs) =
      let s = (restore_answer (M c.sheet) c.image).state in
      let answer = run_answer (M c.sheet) (kind_of c.runner) c.rom c.sched s c.log c.n in
      restore c.image c.sheet
      ∷ run (kind_of c.runner) c.rom c.sched s c.log c.n c.sheet
      ∷ save Two answer.state c.image c.sheet
      ∷ slices_of cs

  AllTaken : List BoardCall → Type 0
  AllTaken = Each (λ c. call_refusal (M c.sheet) c ≡ 0)

  all_taken : (calls : List BoardCall) → AllTaken (calls_not_refused M calls)
  unfolding AllTaken
  all_taken [] = tt
  all_taken (c ∷ cs) = go (call_refusal (M c.sheet) c) refl (all_taken cs)
    where
      go : (k : ℕ) → call_refusal (M c.sheet) c ≡ k → AllTaken (calls_not_refused M cs) → AllTaken (keep_call k c (calls_not_refused M cs))
      go zero e h = (e, h)
      go (suc k) e h = h

-- what is asked of the machines of a family
module _ {S : Type 0} (M : Sheet → Machine S) (laws : LegalLaws M) (J : (sheet : Sheet) → JumpLaws (M sheet))
    (N : (sheet : Sheet) → NumberLaws (M sheet))
    (rom sched : List ℕ) where
  -- calls on the image of the state held, none of them refused
  record RunThrough (sheet : Sheet) (held : S) (cs : List BoardCall) : Type 0 where
    all : not_refused M (slices_of M cs) ≡ slices_of M cs
    one_sheet : Each (λ x. sheet_of x ≡ sheet) (slices_of M cs)
    given : AllGet M sheet rom sched held (slices_of M cs)
    asks : asked M (slices_of M cs) ≡ calls_ask cs
    tell : AllTell M cs (runs M (slices_of M cs))
    image : image_after M ((M sheet).image Two held) cs ≡ (M sheet).image Two (last M held (slices_of M cs))
    sound : (M sheet).state_number (last M held (slices_of M cs)) ≡ 0

  -- A call on the panel, by the machine of its own sheet.
  module _ (c : BoardCall) (p : Panel (M c.sheet) rom sched) (taken : call_refusal (M c.sheet) c ≡ 0)
      (lent : PanelLent c.sheet rom sched c) where
    free : own_refusal (M c.sheet) c ≡ 0
    free = own_refusal_lem (M c.sheet) (J c.sheet) (N c.sheet) c ∙ taken

    abbrev from : S
    from = (restore_answer (M c.sheet) c.image).state

    abbrev its_run : RunAnswer S
    its_run = run_answer (M c.sheet) (kind_of c.runner) c.rom c.sched from c.log c.n

    on_panel : Lent rom sched from c.rom c.sched from c.log c.n
    on_panel = record { same_rom = lent.same_rom; same_sched = lent.same_sched; same_state = refl; room = lent.room }

    -- it tells the run that it is: n cycles write so few bytes that eight hold their count
    tells : Tells M c its_run
    tells =
        let m = M c.sheet in
        let L : Laws m = laws c.sheet p.legal in
        let y = through m c free in
        let x = advances m L rom sched p from (kind_of c.runner) c.rom c.sched from c.log c.n on_panel y.run_ok in
        let f = run_fit m c.rom c.sched from c.n y.run_ok in
        let bound = log_bound_lem m L.cycles rom sched p c.n from f.state f.limit in
        let few : its_run.written < 2 ^ 64 = omega (arith, x.answers.written, bound, f.limit) in
        let t : TellsItsRun m c
        = ran_tells m (laws c.sheet) (J c.sheet) (N c.sheet) c free
        (subst (λ (z : RunAnswer S). z.written < 2 ^ 64) (sym y.same_run) few) in
        subst (λ (z : RunAnswer S). Tells M c z) y.same_run
        (record { taken = taken; end = t.end; log = ap₂ take t.written t.log; cycles = t.cycles; begun = t.begun })

    -- and where calls on the image that it leaves run through, they do with it in front
    before : (cs : List BoardCall) (held : S) → (M c.sheet).state_number held ≡ 0 → c.image ≡ (M c.sheet).image Two held
        → ((next : S) → (M c.sheet).state_number next ≡ 0 → (board_answer M c).image ≡ (M c.sheet).image Two next
        → RunThrough c.sheet next cs)
        → RunThrough c.sheet held (c ∷ cs)
    before cs held v same rest =
        let m = M c.sheet in
        let L : Laws m = laws c.sheet p.legal in
        let wrote : WrittenBy m held c.image
        = subst (λ (i : List ℕ). WrittenBy m held i) (sym same) (written m L.images p.legal held v) in
        let y = through m c free in
        let x = advances m L rom sched p from (kind_of c.runner) c.rom c.sched from c.log c.n on_panel y.run_ok in
        let over : save_answer m Two its_run.state c.image ≡ record { number = 0; buffer = m.image Two its_run.state }
        = saves_over m L.images p.legal its_run.state c.image x.sound y.long in
        let left : (board_answer M c).image ≡ m.image Two its_run.state =
        ap (λ (z : BoardAnswer). z.image) y.answers
        ∙ ap (λ (z : RunAnswer S). (save_answer m Two z.state c.image).buffer) y.same_run
        ∙ ap (λ (z : SaveAnswer). z.buffer) over in
        let ih : RunThrough c.sheet its_run.state cs = rest its_run.state x.sound left in
        let tail : List (Call Sheet S) = slices_of M cs in
        let the_run : Call Sheet S = run (kind_of c.runner) c.rom c.sched from c.log c.n c.sheet in
        let the_save : Call Sheet S = save Two its_run.state c.image c.sheet in
        record {
          all =
              keeps M (restore c.image c.sheet) (the_run ∷ the_save ∷ tail) (the_run ∷ the_save ∷ tail)
              (ap (λ (z : RestoreAnswer S). z.number) y.restored)
              (keeps M the_run (the_save ∷ tail) (the_save ∷ tail) (by_number M the_run ∙ y.run_ok)
              (keeps M the_save tail tail (ap (λ (z : SaveAnswer). z.number) over) ih.all));
          one_sheet = (refl, (refl, (refl, ih.one_sheet)));
          given = (wrote, (on_panel, (refl, ih.given)));
          asks = ap (λ (z : ℕ). c.n + z) ih.asks;
          tell = (tells, ih.tell);
          image = ap (λ (i : List ℕ). image_after M i cs) left ∙ ih.image;
          sound = ih.sound;
        }

  run_through : (sheet : Sheet) → Panel (M sheet) rom sched → (cs : List BoardCall) (held : S) → (M sheet).state_number held ≡ 0
      → AllTaken M cs
      → OnOneImage M sheet rom sched ((M sheet).image Two held) cs → RunThrough sheet held cs
  unfolding AllTaken
  run_through sheet p [] held v t g = record { all = refl; one_sheet = tt; given = tt; asks = refl; tell = tt; image = refl; sound = v }
  run_through sheet p (c ∷ cs) held v t g =
      let lent : PanelLent sheet rom sched c = g.0.lent t.0 in
      let own : PanelLent c.sheet rom sched c
      = record { same_sheet = refl; same_rom = lent.same_rom; same_sched = lent.same_sched; room = lent.room } in
      subst (λ (i : Sheet). Panel (M i) rom sched → (M i).state_number held ≡ 0 → c.image ≡ (M i).image Two held
      → ((next : S) → (M i).state_number next ≡ 0 → (board_answer M c).image ≡ (M i).image Two next → RunThrough i next cs)
      → RunThrough i held (c ∷ cs))
      lent.same_sheet (λ q w e rest. before c q t.0 own cs held w e rest) p v g.0.same_image
      (λ next w e. run_through sheet p cs next w t.1 (subst (λ (i : List ℕ). OnOneImage M sheet rom sched i cs) e g.1))

  module _ (sheet : Sheet) (p : Panel (M sheet) rom sched) (s : S) (v : (M sheet).state_number s ≡ 0) (cs : List BoardCall)
      (r : RunThrough sheet s cs) where
    meant : Meant M sheet rom sched s (slices_of M cs)
    meant = record {
      one_sheet = subst (λ (z : List (Call Sheet S)). Each (λ x. sheet_of x ≡ sheet) z) (sym r.all) r.one_sheet;
      given = subst (λ (z : List (Call Sheet S)). AllGet M sheet rom sched s z) (sym r.all) r.given;
    }

    one_run : EndsAsOneRun M sheet rom sched s (slices_of M cs)
    one_run = lists_end M laws sheet rom sched s (slices_of M cs) p v meant

    ends : CallsEndAs M sheet ((M sheet).image Two s) cs (unbroken (M sheet) rom sched (calls_ask cs) s)
    ends =
        let m = M sheet in
        let whole : EndsAs M sheet s (slices_of M cs) (unbroken m rom sched (asked M (slices_of M cs)) s)
        = subst (λ (z : List (Call Sheet S)). EndsAs M sheet s z (unbroken m rom sched (asked M z) s)) r.all one_run.ends in
        let e : EndsAs M sheet s (slices_of M cs) (unbroken m rom sched (calls_ask cs) s)
        = subst (λ (z : ℕ). EndsAs M sheet s (slices_of M cs) (unbroken m rom sched z s)) r.asks whole in
        let u = unbroken m rom sched (calls_ask cs) s in
        let rs : List (RunAnswer S) = runs M (slices_of M cs) in
        let image : image_after M (m.image Two s) cs ≡ m.image Two u.state = r.image ∙ ap (λ (t : S). m.image Two t) e.state in
        let sound : m.state_number u.state ≡ 0 = sym (ap (λ (t : S). m.state_number t) e.state) ∙ r.sound in
        let finish = all_finish M cs rs r.tell in
        record {
          image = image;
          state = back m (laws sheet p.legal).images p.legal u.state (image_after M (m.image Two s) cs) sound image;
          log = ap joined (same_logs M cs rs r.tell) ∙ joined_log_is M rs ∙ e.log;
          cycles = same_cycles M cs rs r.tell ∙ e.cycles;
          begun = same_begun M cs rs r.tell ∙ e.begun;
          finish = (λ h. e.finish.0 (finish.0 h), λ h. finish.1 (e.finish.1 h));
          stops = all_stops M u.number cs rs r.tell e.stops;
        }

    goes_on : (c : BoardCall) → c.image ≡ image_after M ((M sheet).image Two s) cs → PanelLent sheet rom sched c
        → report_length ≤ length c.report
        → (M sheet).at s + (calls_ask cs + c.n) ≤ cycle_limit → call_refusal (M c.sheet) c ≡ 0
    goes_on c same lent h limit =
        let m = M sheet in
        let images = (laws sheet p.legal).images in
        let held : S = last M s (slices_of M cs) in
        let kind : Kind = kind_of c.runner in
        let bytes : c.image ≡ m.image Two held = same ∙ r.image in
        let accepted : current_number m c.image ≡ 0 = ap (current_number m) bytes ∙ image_current m images p.legal held r.sound in
        let state : m.of_image c.image ≡ held
        = ap (λ (i : List ℕ). m.of_image i) bytes ∙ images.image_back Two held r.sound (images.two_holds_all held) in
        let on = subst (λ (z : List (Call Sheet S)). GoesOn M sheet rom sched (m.at s) (asked M z) (last M s z)) r.all
        one_run.goes_on in
        let next : run_number m rom sched held c.n ≡ 0
        = sym (by_number M (run kind rom sched held c.log c.n sheet)) ∙ on.next_run kind c.log c.n (omega (arith, r.asks)) in
        let run_ok : run_number m c.rom c.sched (m.of_image c.image) c.n ≡ 0
        = rw (lent.same_rom, lent.same_sched, state) next in
        let number : call_number m c ≡ 0
        = first_past _ _ (ap (λ (b : Bool). unless b 1) (le-leb report_length (length c.report) h))
        ∙ first_past _ _ accepted
        ∙ last_one _
        ∙ run_ok in
        refused_by_numbers (M c.sheet) (J c.sheet) (N c.sheet) c
        ∙ ap (λ (i : Sheet). call_number (M i) c) lent.same_sheet
        ∙ number

-- REFUSED CALLS COUNTED IN

module _ {S : Type 0} (M : Sheet → Machine S) (J : (sheet : Sheet) → JumpLaws (M sheet)) (N : (sheet : Sheet) → NumberLaws (M sheet)) where
  unchanged : (c : BoardCall) → CallChangesNothing (M c.sheet) (call_refusal (M c.sheet) c) c
  unchanged c = changes_nothing (M c.sheet) (J c.sheet) (N c.sheet) c

  by_numbers : (c : BoardCall) → call_refusal (M c.sheet) c ≡ call_number (M c.sheet) c
  by_numbers c = refused_by_numbers (M c.sheet) (J c.sheet) (N c.sheet) c

  -- "zeros on a refusal"
  zeros : (c : BoardCall) (k : ℕ) → report_length ≤ length c.report → CallChangesNothing (M c.sheet) (suc k) c
      → (board_answer M c).report ≡ reported (replicate report_length 0) c.report
  zeros c k long r = r.report ∙ ap (λ (b : Bool). refused_report b c.report) (le-leb report_length (length c.report) long)

  counts_nothing : (calls : List BoardCall) → Each (λ c. report_length ≤ length c.report) calls → SameFigures M calls (calls_not_refused M calls)
  counts_nothing [] h = record { log = refl; cycles = refl; begun = refl }
  counts_nothing (c ∷ cs) h = go (call_refusal (M c.sheet) c) (unchanged c) (counts_nothing cs h.1)
    where
      go : (k : ℕ) → CallChangesNothing (M c.sheet) k c → SameFigures M cs (calls_not_refused M cs)
          → SameFigures M (c ∷ cs) (keep_call k c (calls_not_refused M cs))
      go zero q r = record {
        log = ap (λ (l : List ℕ). take (figure_at (M c.sheet) 16 c) (board_answer M c).log ++ l) r.log;
        cycles = ap (λ (n : ℕ). figure_at (M c.sheet) 0 c + n) r.cycles;
        begun = ap (λ (n : ℕ). figure_at (M c.sheet) 8 c + n) r.begun;
      }
      go (suc k) q r =
          let z = zeros c k h.0 q in
          record {
            log = ap (λ (l : List ℕ). take (number_at l 16 8) (board_answer M c).log ++ joined (call_logs M cs)) z ∙ r.log;
            cycles = ap (λ (l : List ℕ). number_at l 0 8 + figure_total M 0 cs) z ∙ zero-add _ ∙ r.cycles;
            begun = ap (λ (l : List ℕ). number_at l 8 8 + figure_total M 8 cs) z ∙ zero-add _ ∙ r.begun;
          }

-- THE POWER-OFF GUARANTEE over lists of the board's call
module _ {S : Type 0} (M : Sheet → Machine S) (laws : LegalLaws M) (J : (sheet : Sheet) → JumpLaws (M sheet))
    (N : (sheet : Sheet) → NumberLaws (M sheet)) where
  pub calls_end : EveryListOfCallsEndsAsOneRun M
  calls_end sheet rom sched s calls p v g =
      let cs = calls_not_refused M calls in
      let r = run_through M laws J N rom sched sheet p cs s v (all_taken M calls) g in
      record {
        ends = ends M laws J N rom sched sheet p s v cs r;
        nothing = counts_nothing M J N calls;
        refusals = each (λ c. call_refusal (M c.sheet) c ≡ call_number (M c.sheet) c) (by_numbers M J N) calls;
        unchanged = each (λ c. CallChangesNothing (M c.sheet) (call_refusal (M c.sheet) c) c) (unchanged M J N) calls;
        goes_on = goes_on M laws J N rom sched sheet p s v cs r;
      }

  -- bytes that a restore accepts where version 2 is due are the version 2 image of the state that it answers
  pub accepted-end : ((sheet : Sheet) → AcceptedLaws (M sheet)) → EveryAcceptedImageEndsAsOneRun M
  unfolding current_answer
  accepted-end A sheet rom sched image calls b p e g =
      let m = M sheet in
      let number : current_number m image ≡ 0 = sym (got_number m (current_number m image) (m.of_image image)) ∙ e in
      let current = current_fit m image number in
      let s : S = (current_answer m image).state in
      let same : m.of_image image ≡ s = ap (λ (k : ℕ). (got m k (m.of_image image)).state) (sym number) in
      let o : ImageOf m Two image s
      = subst (λ (t : S). ImageOf m Two image t) same ((A sheet).exact Two image b current.long current.accepted) in
      subst (λ (i : List ℕ). CallsEndAsOneRun M sheet rom sched i s calls) (sym o.same)
      (calls_end sheet rom sched s calls p o.sound
      (subst (λ (i : List ℕ). OnOneImage M sheet rom sched i (calls_not_refused M calls)) o.same g))

  -- Calls that aren't refused stand for a list of demand 3: it asks for as many cycles, and its runs write the logs that the board
  -- gets.
  pub record StandFor (sheet : Sheet) (rom sched : List ℕ) (s : S) (cs : List BoardCall) : Type 0 where
    pub meant : Meant M sheet rom sched s (slices_of M cs)
    pub asks : asked M (not_refused M (slices_of M cs)) ≡ calls_ask cs
    pub logs : call_logs M cs ≡ map run_log (runs M (not_refused M (slices_of M cs)))

  pub calls_stand : (sheet : Sheet) (rom sched : List ℕ) (s : S) (calls : List BoardCall) → Panel (M sheet) rom sched
      → (M sheet).state_number s ≡ 0
      → OnOneImage M sheet rom sched ((M sheet).image Two s) (calls_not_refused M calls) → StandFor sheet rom sched s (calls_not_refused M calls)
  calls_stand sheet rom sched s calls p v g =
      let cs = calls_not_refused M calls in
      let r = run_through M laws J N rom sched sheet p cs s v (all_taken M calls) g in
      record {
        meant = meant M laws J N rom sched sheet p s v cs r;
        asks = ap (λ (z : List (Call Sheet S)). asked M z) r.all ∙ r.asks;
        logs = same_logs M cs (runs M (slices_of M cs)) r.tell ∙ ap (λ (z : List (Call Sheet S)). map run_log (runs M z)) (sym r.all);
      }

-- LISTS ON ONE IMAGE, refused calls too

module _ {S : Type 0} (M : Sheet → Machine S) (J : (sheet : Sheet) → JumpLaws (M sheet)) (N : (sheet : Sheet) → NumberLaws (M sheet)) where
  -- the calls not refused are on one image, and leave the same one
  abbrev OneImage : Sheet → (rom sched image : List ℕ) (calls rest : List BoardCall) → Type 0
  OneImage sheet rom sched image calls rest = OnOneImage M sheet rom sched image rest × (image_after M image calls ≡ image_after M image rest)

  -- since a refused call leaves the image
  pub on_one_image : EveryListOnOneImageIsMeant M
  on_one_image sheet rom sched image [] h = (tt, refl)
  on_one_image sheet rom sched image (c ∷ cs) h =
      go (on_one_image sheet rom sched (board_answer M c).image cs h.1) (call_refusal (M c.sheet) c) (unchanged M J N c)
    where
      go : OneImage sheet rom sched (board_answer M c).image cs (calls_not_refused M cs) → (k : ℕ) → CallChangesNothing (M c.sheet) k c
          → OneImage sheet rom sched image (c ∷ cs) (keep_call k c (calls_not_refused M cs))
      go ih zero q = ((h.0, ih.0), ih.1)
      go ih (suc k) q =
          let same : (board_answer M c).image ≡ image = q.image ∙ h.0.same_image in (
            subst (λ (i : List ℕ). OnOneImage M sheet rom sched i (calls_not_refused M cs)) same ih.0,
            ih.1 ∙ ap (λ (i : List ℕ). image_after M i (calls_not_refused M cs)) same,
          )
