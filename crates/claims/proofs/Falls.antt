-- A fall of INT within a string of loads is kept, and accepted behind it. Assumes nothing.
use mathlib.Core.Path.{◌≡◌, ◌∙◌, refl, sym, ap, subst}
use mathlib.Core.Bool.{Bool, true, false, cond, not}
use mathlib.Core.List.{List, [], ◌∷◌, map}
use mathlib.Core.Option.{Option, none}
use Prim.Native.Nat.{ℕ, zero, suc, ◌+◌, ◌*◌, ◌/◌, ◌%◌, ◌<◌, ◌≤◌}
use native.Mathlib.Omega.{arith}
use lib.Dec.{eqb, ltb}
use lib.ListN.{take, drop}
use lib.Seq.{set-get_or}
use borrow.Author.Tests.{eqb-true}
use Rattle.runs.specs.Machine.{Out, stop, went}
use Rattle.runs.specs.TwoRunners.{Ran, still, begins, on_out, unbroken}
use Rattle.runs.specs.Refusals.{first_of}
use Rattle.runs.proofs.Cut.{first_stop, unbroken-cut}
use Rattle.upd546.specs.declared.Core.{Core}
use Rattle.upd546.specs.declared.Interrupt.{Interrupt}
use Rattle.upd546.specs.declared.Lines.{Lines}
use Rattle.upd546.specs.declared.State.{State}
use Rattle.upd546.specs.declared.Sheet.{Sheet}
use Rattle.upd546.specs.TheSheet.{sheet_number, in_rom}
use Rattle.upd546.specs.TheMachine.{byte_at, follows, past, pushed, newest, mark_ldi, mark_li, reset_count}
use Rattle.upd546.specs.Parts.{set_mark, set_owed, set_acc, set_dph, set_dpl, set_pc}
use Rattle.upd546.specs.Sequences.{all_of}
use Rattle.upd546.specs.TheLineSchedule.{lines_at}
use Rattle.upd546.specs.Instructions as codes
use Rattle.upd546.specs.Instructions.{Given, Instruction, instruction}
use Rattle.upd546.specs.OneMachineCycle.{blocks, accepts, accepted, taken, ticked, given, instruction_stop, passed_over, core_after, begun, on_stop, execute, ordinary_cycle}
use Rattle.upd546.specs.TwoRunners.{chip}
use Rattle.laws.specs.Ordinary.{steps_of, ordinary}
use Rattle.laws.specs.Reset.{count_after, no_reset, SameButCount}
use Rattle.laws.specs.Writes.{All, none as no_more, ◌▹◌}
use Rattle.laws.proofs.Codes.{instructions, all_same, every_code}
use Rattle.laws.proofs.Jump.{double, double_is}
use Rattle.laws.proofs.Lists.{and_left}
use Rattle.laws.proofs.Reset.{unreset_run}
use Rattle.laws.proofs.Sheets.{legal_sheet}
use Rattle.claims.specs.Strings.{Stand, FallsIn, cycles_on, Followed, AcceptedBehind, FallKept, LoadStringsKeepFalls}
use Rattle.claims.proofs.Interval.{ticked_keeps}
use Rattle.claims.proofs.Strings.{marks_hold_back, lined, after, due, li_cycle, ldi_cycle, owed_cycle, stays_set}

-- ONE CYCLE: the lines are taken, and INT isn't taken back

record Took (sched : List ℕ) (s t : State) : Type 0 where
  rises : t.cycle.0 ≡ s.cycle.0 + 1
  level : t.core.interrupt.level ≡ (lines_at sched s.cycle.0).int
  int : t.core.interrupt.int ≡ cond (ltb (lines_at sched s.cycle.0).int s.core.interrupt.level) 1 s.core.interrupt.int
  inte : t.core.interrupt.inte ≡ s.core.interrupt.inte

ticked_interrupt : (c : Core) → (ticked c).interrupt ≡ c.interrupt
ticked_interrupt = ticked_keeps (λ c. c.interrupt) (λ c t. refl)

took : (sched : List ℕ) (s : State) (d : Core) → d.interrupt ≡ (lined sched s).interrupt → Took sched s (after s d)
unfolding taken
took sched s d e =
    let same : (ticked d).interrupt ≡ (lined sched s).interrupt = ticked_interrupt d ∙ e in
    record {
      rises = refl;
      level = ap (λ (i : Interrupt). i.level) same;
      int = ap (λ (i : Interrupt). i.int) same;
      inte = ap (λ (i : Interrupt). i.inte) same;
    }

-- SO MANY CYCLES

record Keeps (sched : List ℕ) (n to kind : ℕ) (s : State) (r : Ran State) : Type 0 where
  number : r.number ≡ none
  cycles : r.cycles ≡ n
  pc : r.state.core.flow.pc ≡ to
  mark : r.state.core.mark ≡ kind
  owed : r.state.core.owed ≡ 0
  inte : r.state.core.interrupt.inte ≡ s.core.interrupt.inte
  set : s.core.interrupt.int ≡ 1 → r.state.core.interrupt.int ≡ 1
  fall : (m : ℕ) → m < n → FallsIn sched s m → r.state.core.interrupt.int ≡ 1

no_cycle : (sched : List ℕ) (mark : ℕ) (s : State) → s.core.owed ≡ 0 → s.core.mark ≡ mark
    → Keeps sched 0 s.core.flow.pc mark s (still s none)
no_cycle sched mark s o m = record {
  number = refl;
  cycles = refl;
  pc = refl;
  mark = m;
  owed = o;
  inte = refl;
  set = λ h. h;
  fall = λ i h f. absurd (omega arith);
}

module _ (sched : List ℕ) (s t : State) (e : Took sched s t) where
  line : (x y : ℕ) → x ≡ y → (lines_at sched x).int ≡ (lines_at sched y).int
  line x y p = ap (λ (n : ℕ). (lines_at sched n).int) p

  -- a fall in a later cycle is one of those from the next state on
  seen : (m : ℕ) → FallsIn sched s (suc m) → FallsIn sched t m
  seen zero f =
      let now : s.cycle.0 ≡ s.cycle.0 + 0 = omega arith in
      let next : t.cycle.0 + 0 ≡ s.cycle.0 + 1 = omega (arith, e.rises) in
      (e.level ∙ line _ _ now ∙ f.0, line _ _ next ∙ f.1)
  seen (suc m) f =
      let before : t.cycle.0 + m ≡ s.cycle.0 + suc m = omega (arith, e.rises) in
      let now : t.cycle.0 + suc m ≡ s.cycle.0 + suc (suc m) = omega (arith, e.rises) in
      (line _ _ before ∙ f.0, line _ _ now ∙ f.1)

  kept_set : s.core.interrupt.int ≡ 1 → t.core.interrupt.int ≡ 1
  kept_set h = e.int ∙ stays_set (ltb (lines_at sched s.cycle.0).int s.core.interrupt.level) s.core.interrupt.int h

  sets : FallsIn sched s 0 → t.core.interrupt.int ≡ 1
  sets f =
      let now : s.cycle.0 ≡ s.cycle.0 + 0 = omega arith in
      let low : (lines_at sched s.cycle.0).int ≡ 0 = line _ _ now ∙ f.1 in
      let high : s.core.interrupt.level ≡ 1 = f.0 in
      e.int ∙ rw (low, high) refl

  -- a cycle before others
  before : (b n to mark : ℕ) (w : List ℕ) (r : Ran State) → Keeps sched n to mark t r → Keeps sched (suc n) to mark s (begins w b r)
  before b n to mark w r p = record {
    number = p.number;
    cycles = ap suc p.cycles;
    pc = p.pc;
    mark = p.mark;
    owed = p.owed;
    inte = p.inte ∙ e.inte;
    set = λ h. p.set (kept_set h);
    fall = fall;
  }
    where
      fall : (m : ℕ) → m < suc n → FallsIn sched s m → r.state.core.interrupt.int ≡ 1
      fall zero h f = p.set (sets f)
      fall (suc m) h f = p.fall m (omega arith) (seen m f)

-- THE LOADS

module _ (sheet : Sheet) (rom : List ℕ) (l : Lines) (s : State) (c : Core) (here : in_rom sheet c.flow.pc ≡ true) where
  -- a load that isn't passed over
  execute_li_acts : eqb c.mark mark_li ≡ false → instruction (byte_at rom c.flow.pc) ≡ codes.li
      → execute sheet rom l s c
      ≡ went (after s (set_owed 0 (set_mark mark_li (set_acc (byte_at rom c.flow.pc % 16) (set_pc (follows c.flow.pc) c))))) [] 1
  unfolding execute given instruction_stop passed_over begun past first_of
  execute_li_acts m i = rw (i, here, m, set-get_or)

  -- the core that LDI loads
  abbrev loaded : Core
  loaded =
      let second = byte_at rom (follows c.flow.pc) in
      set_dph (second % 128 / 16) (set_dpl (second % 16) (set_pc (follows (follows c.flow.pc)) c))

  execute_ldi_acts : eqb c.mark mark_ldi ≡ false → instruction (byte_at rom c.flow.pc) ≡ codes.ldi
      → in_rom sheet (follows c.flow.pc) ≡ true → execute sheet rom l s c ≡ went (after s (set_owed 1 (set_mark mark_ldi loaded))) [] 1
  unfolding execute given instruction_stop passed_over begun past first_of
  execute_ldi_acts m i there = rw (i, here, there, m, set-get_or)

-- from the second on
li_on : (sheet : Sheet) (rom sched : List ℕ) (k : ℕ) (s : State) → s.core.owed ≡ 0 → s.core.mark ≡ mark_li
    → Stand sheet rom codes.li k s.core.flow.pc
    → Keeps sched k (past k s.core.flow.pc) mark_li s (unbroken (ordinary sheet) rom sched k s)
unfolding unbroken past ticked taken
li_on sheet rom sched zero s o m l = no_cycle sched mark_li s o m
li_on sheet rom sched (suc k) s o m l =
    let to = follows s.core.flow.pc in
    let c = set_owed 0 (set_mark mark_li (set_pc to (lined sched s))) in
    rw (li_cycle sheet rom sched s o m l.0 l.1)
    (before sched s (after s c) (took sched s c refl) 1 k (past k to) mark_li [] (unbroken (ordinary sheet) rom sched k (after s c))
    (li_on sheet rom sched k (after s c) refl refl l.3))

-- the first, whatever the mark is
li_all : (sheet : Sheet) (rom sched : List ℕ) (k : ℕ) (s : State) → s.core.owed ≡ 0 → accepts s.core ≡ false
    → Stand sheet rom codes.li (suc k) s.core.flow.pc
    → Keeps sched (suc k) (past (suc k) s.core.flow.pc) mark_li s (unbroken (ordinary sheet) rom sched (suc k) s)
unfolding unbroken past ticked taken
li_all sheet rom sched k s o a l = go (eqb s.core.mark mark_li) refl
  where
    go : (b : Bool) → eqb s.core.mark mark_li ≡ b
        → Keeps sched (suc k) (past (suc k) s.core.flow.pc) mark_li s (unbroken (ordinary sheet) rom sched (suc k) s)
    go true e = li_on sheet rom sched (suc k) s o (eqb-true _ _ e) l
    go false e =
        let to = follows s.core.flow.pc in
        let c = set_owed 0 (set_mark mark_li (set_acc (byte_at rom s.core.flow.pc % 16) (set_pc to (lined sched s)))) in
        rw (due sheet rom sched s o a, execute_li_acts sheet rom (lines_at sched s.cycle.0) s (lined sched s) l.1 e l.0)
        (before sched s (after s c) (took sched s c refl) 1 k (past k to) mark_li [] (unbroken (ordinary sheet) rom sched k (after s c))
        (li_on sheet rom sched k (after s c) refl refl l.3))

ldi_on : (sheet : Sheet) (rom sched : List ℕ) (k : ℕ) (s : State) → s.core.owed ≡ 0 → s.core.mark ≡ mark_ldi
    → Stand sheet rom codes.ldi k s.core.flow.pc
    → Keeps sched (double k) (past (double k) s.core.flow.pc) mark_ldi s (unbroken (ordinary sheet) rom sched (double k) s)
unfolding unbroken past ticked taken
ldi_on sheet rom sched zero s o m l = no_cycle sched mark_ldi s o m
ldi_on sheet rom sched (suc k) s o m l =
    let to = follows (follows s.core.flow.pc) in
    let c = set_owed 1 (set_mark mark_ldi (set_pc to (lined sched s))) in
    let t = after s c in
    let d = set_owed 0 (lined sched t) in
    let n = double k in
    rw (ldi_cycle sheet rom sched s o m l.0 l.1 l.2, owed_cycle sheet rom sched t 0 refl)
    (before sched s t (took sched s c refl) 1 (suc n) (past n to) mark_ldi []
    (begins [] 0 (unbroken (ordinary sheet) rom sched n (after t d)))
    (before sched t (after t d) (took sched t d refl) 0 n (past n to) mark_ldi [] (unbroken (ordinary sheet) rom sched n (after t d))
    (ldi_on sheet rom sched k (after t d) refl refl l.3)))

ldi_all : (sheet : Sheet) (rom sched : List ℕ) (k : ℕ) (s : State) → s.core.owed ≡ 0 → accepts s.core ≡ false
    → Stand sheet rom codes.ldi (suc k) s.core.flow.pc
    → Keeps sched (double (suc k)) (past (double (suc k)) s.core.flow.pc) mark_ldi s
    (unbroken (ordinary sheet) rom sched (double (suc k)) s)
unfolding unbroken past ticked taken
ldi_all sheet rom sched k s o a l = go (eqb s.core.mark mark_ldi) refl
  where
    go : (b : Bool) → eqb s.core.mark mark_ldi ≡ b
        → Keeps sched (double (suc k)) (past (double (suc k)) s.core.flow.pc) mark_ldi s
        (unbroken (ordinary sheet) rom sched (double (suc k)) s)
    go true e = ldi_on sheet rom sched (suc k) s o (eqb-true _ _ e) l
    go false e =
        let to = follows (follows s.core.flow.pc) in
        let l0 = lines_at sched s.cycle.0 in
        let c = set_owed 1 (set_mark mark_ldi (loaded sheet rom l0 s (lined sched s) l.1)) in
        let t = after s c in
        let d = set_owed 0 (lined sched t) in
        let n = double k in
        rw (
          due sheet rom sched s o a,
          execute_ldi_acts sheet rom l0 s (lined sched s) l.1 e l.0 l.2,
          owed_cycle sheet rom sched t 0 refl,
        )
        (before sched s t (took sched s c refl) 1 (suc n) (past n to) mark_ldi []
        (begins [] 0 (unbroken (ordinary sheet) rom sched n (after t d)))
        (before sched t (after t d) (took sched t d refl) 0 n (past n to) mark_ldi [] (unbroken (ordinary sheet) rom sched n (after t d))
        (ldi_on sheet rom sched k (after t d) refl refl l.3)))

-- THE INSTRUCTION BEHIND: none but TIT takes INT back

abbrev KeepsInt : Instruction → Type 0
KeepsInt i = (i ≡ codes.tit → ⊥) → (g : Given) → (i.effect g).core.interrupt.int ≡ g.core.interrupt.int

abbrev left : Instruction → Given → ℕ
left i g = (i.effect g).core.interrupt.int

abbrev was : Instruction → Given → ℕ
was i g = g.core.interrupt.int

same : (n : ℕ) {l : List Instruction} → map left (take n l) ≡ map was (take n l) → All KeepsInt (drop n l) → All KeepsInt l
same = all_same KeepsInt left was (λ i e n g. ap (λ (f : Given → ℕ). f g) e)

keeps_tit : KeepsInt codes.tit
keeps_tit n g = absurd (n refl)

-- a load leaves one of two cores, by the mark before
loads_int : (b : Bool) (mark x : ℕ) (c d : Core) → c.interrupt.int ≡ x → d.interrupt.int ≡ x
    → (set_mark mark (cond b c d)).interrupt.int ≡ x
loads_int true mark x c d e f = e
loads_int false mark x c d e f = f

keeps_ldi : KeepsInt codes.ldi
keeps_ldi n g = loads_int (eqb g.core.mark mark_ldi) mark_ldi _ _ _ refl refl

keeps_li : KeepsInt codes.li
keeps_li n g = loads_int (eqb g.core.mark mark_li) mark_li _ _ _ refl refl

each : All KeepsInt instructions
each = same 3 refl (keeps_tit ▹ same 17 refl (keeps_ldi ▹ same 50 refl (keeps_li ▹ same 4 refl no_more)))

keeps_int : (code : ℕ) → KeepsInt (instruction code)
keeps_int = every_code KeepsInt each

-- INT is 1 where a cycle leads to, if it isn't a stop
abbrev Sets : Out State → Type 0
Sets (stop k) = Unit
Sets (went t w b) = t.core.interrupt.int ≡ 1

on_stop_lem : (k : ℕ) (o : Out State) → Sets o → Sets (on_stop k o)
on_stop_lem zero o h = h
on_stop_lem (suc k) o h = tt

module _ (sheet : Sheet) (rom : List ℕ) (l : Lines) (s : State) (c : Core) where
  execute-sets : (instruction (byte_at rom c.flow.pc) ≡ codes.tit → ⊥) → c.interrupt.int ≡ 1 → Sets (execute sheet rom l s c)
  unfolding execute begun given
  execute-sets n h =
      let g = given sheet rom l s c in
      let i = instruction (byte_at rom c.flow.pc) in
      let e = i.effect g in
      on_stop_lem (instruction_stop i g e) (begun i g e (passed_over rom e) s)
      (ap (λ (x : Interrupt). x.int) (ticked_interrupt (core_after i e (passed_over rom e)))
      ∙ keeps_int (byte_at rom c.flow.pc) n g ∙ h)

-- r and then q
joined_none : (o p : Option ℕ) → o ≡ none → p ≡ none → first_stop o p ≡ none
joined_none o p e f = rw (e, f)

-- what is behind a run that finished
behind_none : (o p : Option ℕ) → o ≡ none → first_stop o p ≡ none → p ≡ none
behind_none o p e f = sym (ap (λ (x : Option ℕ). first_stop x p) e) ∙ f

-- a push to a level that exists
newest_pushed : (levels a : ℕ) (stack : List ℕ) → 1 ≤ levels → newest (pushed levels a stack) ≡ a
newest_pushed zero a stack h = absurd (omega arith)
newest_pushed (suc n) a stack h = refl

module _ (sheet : Sheet) (legal : sheet_number sheet ≡ 0) (rom sched : List ℕ) where
  next_sets : (t : State) → t.core.owed ≡ 0 → accepts t.core ≡ false → (instruction (byte_at rom t.core.flow.pc) ≡ codes.tit → ⊥)
      → t.core.interrupt.int ≡ 1 → Sets (steps_of sheet rom sched t)
  unfolding taken
  next_sets t o a n h =
      rw (due sheet rom sched t o a)
      (execute-sets sheet rom (lines_at sched t.cycle.0) t (lined sched t) n
      (stays_set (ltb (lines_at sched t.cycle.0).int t.core.interrupt.level) t.core.interrupt.int h))

  one_more : (t : State) → t.core.interrupt.int ≡ 1 → Sets (steps_of sheet rom sched t)
      → (unbroken (ordinary sheet) rom sched 1 t).state.core.interrupt.int ≡ 1
  unfolding unbroken
  one_more t h e = go (steps_of sheet rom sched t) e
    where
      go : (o : Out State) → Sets o → (on_out o t (λ u. still u none)).state.core.interrupt.int ≡ 1
      go (stop k) e = h
      go (went u w b) e = e

  -- ITS OWED CYCLES
  record Paid (u : State) (r : Ran State) : Type 0 where
    number : r.number ≡ none
    pc : r.state.core.flow.pc ≡ u.core.flow.pc
    mark : r.state.core.mark ≡ u.core.mark
    owed : r.state.core.owed ≡ 0
    inte : r.state.core.interrupt.inte ≡ u.core.interrupt.inte
    int : u.core.interrupt.int ≡ 1 → r.state.core.interrupt.int ≡ 1

  pays : (q : ℕ) (u : State) → u.core.owed ≡ q → Paid u (unbroken (ordinary sheet) rom sched q u)
  unfolding unbroken taken
  pays zero u o = record { number = refl; pc = refl; mark = refl; owed = o; inte = refl; int = λ h. h }
  pays (suc q) u o =
      let c = set_owed q (lined sched u) in
      let e = took sched u c refl in
      let p = pays q (after u c) (ticked_keeps (λ d. d.owed) (λ d t. refl) c) in
      rw (owed_cycle sheet rom sched u q o)
      (record {
        number = p.number;
        pc = p.pc ∙ ticked_keeps (λ d. d.flow.pc) (λ d t. refl) c;
        mark = p.mark ∙ ticked_keeps (λ d. d.mark) (λ d t. refl) c;
        owed = p.owed;
        inte = p.inte ∙ e.inte;
        int = λ h. p.int (kept_set sched u (after u c) e h);
      })

  -- THE ACCEPTANCE
  takes_it : (v : State) → accepts v.core ≡ true → AcceptedBehind v.core.flow.pc (unbroken (ordinary sheet) rom sched 1 v)
  unfolding unbroken ordinary_cycle accepted taken ticked
  takes_it v a =
      let c = v.core.flow in
      let back : newest (pushed sheet.levels c.pc c.stack) ≡ c.pc =
      newest_pushed sheet.levels c.pc c.stack (legal_sheet sheet legal).level_some in
      rw a (record { number = refl; pc = refl; return = back; inte = refl })

  accepts-now : (c : Core) → c.owed ≡ 0 → c.interrupt.inte ≡ 1 → c.interrupt.int ≡ 1 → blocks c.mark ≡ false → accepts c ≡ true
  unfolding accepts all_of
  accepts-now c o e i m = rw (o, e, i, m)

  -- ALL THREE, where the instruction at t leaves the core c
  behind : (t : State) (c : Core) → t.core.owed ≡ 0 → accepts t.core ≡ false → t.core.interrupt.int ≡ 1
      → (instruction (byte_at rom t.core.flow.pc) ≡ codes.tit → ⊥)
      → (unbroken (ordinary sheet) rom sched 1 t).number ≡ none → (unbroken (ordinary sheet) rom sched 1 t).state.core ≡ c
      → c.interrupt.inte ≡ 1 → blocks c.mark ≡ false
      → AcceptedBehind c.flow.pc (unbroken (ordinary sheet) rom sched (1 + c.owed + 1) t)
  behind t c o a h other done leaves inte mark =
      let q = c.owed in
      let u : State = (unbroken (ordinary sheet) rom sched 1 t).state in
      let v : State = (unbroken (ordinary sheet) rom sched (1 + q) t).state in
      let w : State = (unbroken (ordinary sheet) rom sched q u).state in
      let p = pays q u (ap (λ (x : Core). x.owed) leaves) in
      let cut_v = unbroken-cut (ordinary sheet) rom sched 1 q t in
      let at_v : v ≡ w = ap (λ (r : Ran State). r.state) cut_v in
      let now : accepts w.core ≡ true =
      accepts-now w.core p.owed (p.inte ∙ ap (λ (x : Core). x.interrupt.inte) leaves ∙ inte)
      (p.int (one_more t h (next_sets t o a other h)))
      (ap blocks p.mark ∙ ap (λ (x : Core). blocks x.mark) leaves ∙ mark) in
      let e = takes_it v (subst (λ (x : State). accepts x.core ≡ true) (sym at_v) now) in
      let number_v : (unbroken (ordinary sheet) rom sched (1 + q) t).number ≡ none =
      ap (λ (r : Ran State). r.number) cut_v ∙ joined_none _ _ done p.number in
      let back : v.core.flow.pc ≡ c.flow.pc =
      ap (λ (x : State). x.core.flow.pc) at_v ∙ p.pc ∙ ap (λ (x : Core). x.flow.pc) leaves in
      subst (λ (r : Ran State). AcceptedBehind c.flow.pc r) (sym (unbroken-cut (ordinary sheet) rom sched (1 + q) 1 t))
      (record {
        number = joined_none _ _ number_v e.number;
        pc = e.pc;
        return = e.return ∙ back;
        inte = e.inte;
      })

-- THE CHIP: where no cycle is a reset cycle it does the same, whatever it counts

same_keeps : (sched : List ℕ) (n to mark : ℕ) (s : State) (r q : Ran State) → SameButCount r q → Keeps sched n to mark s q
    → Keeps sched n to mark s r
same_keeps sched n to mark s r q e p =
    let core : r.state.core ≡ q.state.core = ap (λ (t : State). t.core) e.state in
    let int = ap (λ (c : Core). c.interrupt.int) core in
    record {
      number = e.number ∙ p.number;
      cycles = e.cycles ∙ p.cycles;
      pc = ap (λ (c : Core). c.flow.pc) core ∙ p.pc;
      mark = ap (λ (c : Core). c.mark) core ∙ p.mark;
      owed = ap (λ (c : Core). c.owed) core ∙ p.owed;
      inte = ap (λ (c : Core). c.interrupt.inte) core ∙ p.inte;
      set = λ h. int ∙ p.set h;
      fall = λ m h f. int ∙ p.fall m h f;
    }

same_accepted : (back : ℕ) (r q : Ran State) → SameButCount r q → AcceptedBehind back q → AcceptedBehind back r
same_accepted back r q e p =
    let core : r.state.core ≡ q.state.core = ap (λ (t : State). t.core) e.state in
    record {
      number = e.number ∙ p.number;
      pc = ap (λ (c : Core). c.flow.pc) core ∙ p.pc;
      return = ap (λ (c : Core). newest c.flow.stack) core ∙ p.return;
      inte = ap (λ (c : Core). c.interrupt.inte) core ∙ p.inte;
    }

-- the first cycle of some
first_no_reset : (sched : List ℕ) (q n count : ℕ) → no_reset sched (1 + q + 1) n count ≡ true → no_reset sched 1 n count ≡ true
unfolding no_reset
first_no_reset sched q n count z =
    let e : 1 + q + 1 ≡ suc (q + 1) = omega arith in
    let f : no_reset sched (suc (q + 1)) n count ≡ true = rw e at z in
    rw (and_left (not (eqb (count_after sched n count) reset_count)) (no_reset sched (q + 1) (n + 1) (count_after sched n count)) f)

module _ (sheet : Sheet) (legal : sheet_number sheet ≡ 0) (rom sched : List ℕ) (n : ℕ) (s : State) where
  chip_behind : (unbroken (chip sheet) rom sched n s).number ≡ none → (cycles_on sheet rom sched n s).core.owed ≡ 0
      → accepts (cycles_on sheet rom sched n s).core ≡ false → (cycles_on sheet rom sched n s).core.interrupt.int ≡ 1
      → Followed sheet rom sched n s
      → AcceptedBehind (cycles_on sheet rom sched (n + 1) s).core.flow.pc
      (unbroken (chip sheet) rom sched (n + 1 + (cycles_on sheet rom sched (n + 1) s).core.owed + 1) s)
  chip_behind done o a h f =
      let t : State = cycles_on sheet rom sched n s in
      let c : Core = (cycles_on sheet rom sched (n + 1) s).core in
      let q = c.owed in
      let cut = unbroken-cut (chip sheet) rom sched n 1 s in
      let one = unreset_run sheet rom sched 1 t t.count (first_no_reset sched q t.cycle.0 t.count f.no_reset_is) in
      let finishes : (unbroken (ordinary sheet) rom sched 1 t).number ≡ none =
      sym one.number ∙ behind_none _ _ done (sym (ap (λ (r : Ran State). r.number) cut) ∙ f.number) in
      let leaves : (unbroken (ordinary sheet) rom sched 1 t).state.core ≡ c =
      sym (ap (λ (x : State). x.core) one.state) ∙ sym (ap (λ (r : Ran State). r.state.core) cut) in
      let all = unreset_run sheet rom sched (1 + q + 1) t t.count f.no_reset_is in
      let e : AcceptedBehind c.flow.pc (unbroken (chip sheet) rom sched (1 + q + 1) t) =
      same_accepted c.flow.pc _ _ all (behind sheet legal rom sched t c o a h f.other finishes leaves f.inte f.mark) in
      let far : n + (1 + q + 1) ≡ n + 1 + q + 1 = omega arith in
      subst (λ (m : ℕ). AcceptedBehind c.flow.pc (unbroken (chip sheet) rom sched m s)) far
      (subst (λ (r : Ran State). AcceptedBehind c.flow.pc r) (sym (unbroken-cut (chip sheet) rom sched n (1 + q + 1) s))
      (record { number = joined_none _ _ done e.number; pc = e.pc; return = e.return; inte = e.inte }))

-- BOTH

not_accepted : (c : Core) → c.interrupt.int ≡ 0 → accepts c ≡ false
unfolding accepts all_of
not_accepted c e = rw e (go (eqb c.owed 0) (eqb c.interrupt.inte 1))
  where
    go : (a b : Bool) → all_of (a ∷ b ∷ false ∷ not (blocks c.mark) ∷ []) ≡ false
    go false b = refl
    go true false = refl
    go true true = refl

module _ (sheet : Sheet) (legal : sheet_number sheet ≡ 0) (rom sched : List ℕ) (s : State) where
  kept : (mark n to m : ℕ) → ((c : Core) → c.mark ≡ mark → accepts c ≡ false)
      → Keeps sched n to mark s (unbroken (ordinary sheet) rom sched n s)
      → m < n → FallsIn sched s m → no_reset sched n s.cycle.0 s.count ≡ true → FallKept sheet rom sched n to s
  kept mark n to m hold q h f z =
      let p =
      same_keeps sched n to mark s (unbroken (chip sheet) rom sched n s) (unbroken (ordinary sheet) rom sched n s)
      (unreset_run sheet rom sched n s s.count z) q in
      let int = p.fall m h f in
      let held = hold (cycles_on sheet rom sched n s).core p.mark in
      record {
        behind = record { number = p.number; cycles = p.cycles; pc = p.pc; int = int; inte = p.inte; held = held };
        accepted = chip_behind sheet legal rom sched n s p.number p.owed held int;
      }

  li_kept : (k m : ℕ) → s.core.owed ≡ 0 → s.core.interrupt.int ≡ 0 → Stand sheet rom codes.li k s.core.flow.pc
      → m < k → FallsIn sched s m → no_reset sched k s.cycle.0 s.count ≡ true
      → FallKept sheet rom sched k (past k s.core.flow.pc) s
  li_kept zero m o i l h f z = absurd (omega arith)
  li_kept (suc k) m o i l h f z =
      kept mark_li (suc k) (past (suc k) s.core.flow.pc) m (λ c. (marks_hold_back c).li)
      (li_all sheet rom sched k s o (not_accepted s.core i) l) h f z

  ldi_kept : (k m : ℕ) → s.core.owed ≡ 0 → s.core.interrupt.int ≡ 0 → Stand sheet rom codes.ldi k s.core.flow.pc
      → m < double k → FallsIn sched s m → no_reset sched (double k) s.cycle.0 s.count ≡ true
      → FallKept sheet rom sched (double k) (past (double k) s.core.flow.pc) s
  ldi_kept zero m o i l h f z = absurd (omega arith)
  ldi_kept (suc k) m o i l h f z =
      kept mark_ldi (double (suc k)) (past (double (suc k)) s.core.flow.pc) m (λ c. (marks_hold_back c).ldi)
      (ldi_all sheet rom sched k s o (not_accepted s.core i) l) h f z

-- "cases for an edge between two loads"
pub load_strings_keep_falls : LoadStringsKeepFalls
load_strings_keep_falls = record {
  li = λ sheet rom sched k m s legal o i l h f z.
      let e : 1 * k ≡ k = omega arith in
      let none : no_reset sched k s.cycle.0 s.count ≡ true = rw e at z in
      subst (λ (n : ℕ). FallKept sheet rom sched n (past n s.core.flow.pc) s) (sym e)
      (li_kept sheet legal rom sched s k m o i l (omega arith) f none);
  ldi = λ sheet rom sched k m s legal o i l h f z.
      let none : no_reset sched (double k) s.cycle.0 s.count ≡ true = rw (← double_is k) at z in
      subst (λ (n : ℕ). FallKept sheet rom sched n (past n s.core.flow.pc) s) (double_is k)
      (ldi_kept sheet legal rom sched s k m o i l (omega (arith, double_is k)) f none);
}
