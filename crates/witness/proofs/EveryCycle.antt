-- The theorems about the machine cycle, each at variables. Assumes nothing.
use mathlib.Core.Path.{◌≡◌, ◌∙◌, refl, sym, ap}
use mathlib.Core.Bool.{false}
use mathlib.Core.List.{List, []}
use Prim.Native.Nat.{ℕ, zero, suc, ◌+◌, min, max, ◌<◌, ◌≤◌}
use native.Mathlib.Omega.{arith}
use lib.Dec.{lit<, lit≤}
use lib.ListN.{get_or}
use borrow.Author.Tests.{ne_eqb}
use Rattle.runs.specs.Machine.{went}
use Rattle.runs.specs.TwoRunners.{Ran, unbroken}
use Rattle.upd546.specs.declared.State.{State}
use Rattle.upd546.specs.declared.Sheet.{Sheet}
use Rattle.upd546.specs.Bytes.{bit_at}
use Rattle.upd546.specs.TheSheet.{upd546_sheet}
use Rattle.upd546.specs.TheMachine.{byte_at, fresh}
use Rattle.upd546.specs.Parts.{set_int, set_inte}
use Rattle.upd546.specs.TheLineSchedule.{lines_at}
use Rattle.upd546.specs.Instructions as codes
use Rattle.upd546.specs.Instructions.{Given, Instruction, instruction}
use Rattle.upd546.specs.OneMachineCycle.{blocks, counted, cycle}
use Rattle.upd546.specs.BenchCases.{from}
use Rattle.upd546.specs.StateImage.{state_number}
use Rattle.upd546.specs.TwoRunners.{chip, upd546}
use Rattle.laws.specs.Reading.{ReadsEither}
use Rattle.laws.specs.Reset.{Counts, no_reset}
use Rattle.claims.specs.Strings.{Stand, Passed, FallsIn, FallKept}
use Rattle.claims.specs.Interval.{StmDue, without_stm}
use Rattle.laws.proofs.Reading.{c_and_d_read_back}
use Rattle.claims.proofs.Strings.{marks_hold_back, load_strings_hold_together}
use Rattle.claims.proofs.Falls.{load_strings_keep_falls}
use Rattle.claims.proofs.Interval.{tm_set_after_stm}
use Rattle.laws.proofs.Sound.{accepted-valid, valid_accepted}
use Rattle.laws.proofs.Cycle.{cycle_keeps}
use Rattle.laws.proofs.Stops.{begins_one}
use Rattle.laws.proofs.Reset.{every_cycle_counts_res, every_run_counts_res}
use Rattle.laws.proofs.Lines.{lines_same}
use Rattle.laws.proofs.Timer.{register_at, position_at, tick_left, running_left}
use Rattle.laws.proofs.Jump.{jump_unbroken, jump_in_room}
use Rattle.witness.specs.Calls as calls
use Rattle.witness.specs.EveryCycle.{OfEveryString, OfEveryFall, OfEveryReset, OfEveryCount, Widths, CycleFacts, loads, edge, edge_lines, edge_after, waits, after, panel_at, panel_from, CycleFigures}
use Rattle.witness.proofs.Opened.{opened}

greater : (x y z : ℕ) → x < 2 → y < 2 → (x ≡ 1 → z ≡ 1) → (y ≡ 1 → z ≡ 1) → (x ≡ 0 → y ≡ 0 → z ≡ 0) → z ≡ max x y
greater zero zero z p q a b c = c refl refl
greater zero (suc zero) z p q a b c = b refl
greater zero (suc (suc y)) z p q a b c = absurd (omega arith)
greater (suc zero) zero z p q a b c = a refl
greater (suc zero) (suc zero) z p q a b c = a refl
greater (suc zero) (suc (suc y)) z p q a b c = absurd (omega arith)
greater (suc (suc x)) y z p q a b c = absurd (omega arith)

either : (line latch read k : ℕ) → ReadsEither line latch read k → bit_at read k ≡ max (bit_at line k) (bit_at latch k)
either line latch read k e = greater (bit_at line k) (bit_at latch k) (bit_at read k) (omega arith) (omega arith) e.by_line e.by_latch e.by_none

string : (k n to : ℕ) (s : State) (r : Ran State) → Passed k n to s r → OfEveryString k n to s r
string k n to s r p = record {
  whole = λ i. record {
    state = record {
      core = record {
        registers = p.registers i;
        flow = record { pc = p.pc i; stack = p.stack i };
        interrupt = record { int = r.state.core.interrupt.int; inte = p.inte i; level = r.state.core.interrupt.level };
        timer = r.state.core.timer;
        mark = p.mark i;
        owed = p.owed i;
      };
      ports = p.ports i;
      ram = p.ram i;
      count = r.state.count;
      cycle = r.state.cycle;
    };
    bytes = p.bytes i;
    cycles = p.cycles i;
    begun = p.begun i;
    number = p.number i;
  };
  int = p.int;
}

-- a mark that is none of the three
none_blocks : (mark : ℕ) → (mark ≡ 1 → ⊥) → (mark ≡ 2 → ⊥) → (mark ≡ 4 → ⊥) → blocks mark ≡ false
none_blocks mark a b c = rw (ne_eqb mark 1 a, ne_eqb mark 2 b, ne_eqb mark 4 c)

fall : (sheet : Sheet) (rom sched : List ℕ) (n to : ℕ) (s : State) → FallKept sheet rom sched n to s → OfEveryFall sheet rom sched n to s
fall sheet rom sched n to s p = record {
  number = p.behind.number;
  cycles = p.behind.cycles;
  pc = p.behind.pc;
  int = p.behind.int;
  inte = p.behind.inte;
  held = p.behind.held;
  accepted = λ v u r d e f z g i t l x y.
      let q = p.accepted (record {
        no_reset_is = rw (← d, ← e) z;
        number = g;
        other = λ h. i (ap (λ (a : ℕ). instruction (byte_at rom a)) (sym p.behind.pc) ∙ h);
        inte = ap (λ (v : State). v.core.interrupt.inte) (sym e) ∙ t;
        mark = ap (λ (v : State). blocks v.core.mark) (sym e) ∙ none_blocks u.core.mark l x y;
      }) in
      let back : r ≡ unbroken (chip sheet) rom sched (n + 1 + (unbroken (chip sheet) rom sched (n + 1) s).state.core.owed + 1) s =
      f ∙ ap (λ (v : State). unbroken (chip sheet) rom sched (n + 1 + v.core.owed + 1) s) e in (
        ap (λ (a : Ran State). a.number) back ∙ q.number,
        ap (λ (a : Ran State). a.state.core.flow.pc) back ∙ q.pc,
        ap (λ (a : Ran State). get_or a.state.core.flow.stack 0 0) back ∙ q.return ∙ ap (λ (v : State). v.core.flow.pc) (sym e),
        ap (λ (a : Ran State). a.state.core.interrupt.inte) back ∙ q.inte,
      );
}

-- a reset cycle: its parts make up the whole state
reset : (sched : List ℕ) (s t : State) (w : List ℕ) (b : ℕ) → Counts sched s t w b → t.count ≡ 4 → OfEveryReset (lines_at sched s.cycle.0) s t w b
reset sched s t w b c e =
    let r = c.resets e in
    record {
      state = λ i. record {
        core = record {
          registers = r.registers i;
          flow = record { pc = r.pc i; stack = r.stack i };
          interrupt = record { int = r.int i; inte = r.inte i; level = r.level i };
          timer = r.timer i;
          mark = r.mark i;
          owed = r.owed i;
        };
        ports = r.ports i;
        ram = r.ram i;
        count = e i;
        cycle = record { 0 = c.rises i };
      };
      begins_none = r.begins_none;
      reaching = r.reaching;
      staying = r.staying;
    }

counts : (sheet : Sheet) (rom sched : List ℕ) (s t : State) (w : List ℕ) (b : ℕ) → cycle sheet rom sched s ≡ went t w b
    → OfEveryCount (lines_at sched s.cycle.0) s t w b
counts sheet rom sched s t w b e =
    let c = every_cycle_counts_res sheet rom sched s t w b e in
    record {
      rises = c.rises;
      low = λ z. c.count ∙ ap (λ (res : ℕ). counted res s.count) z;
      high = λ z. c.count ∙ ap (λ (res : ℕ). counted res s.count) z;
      reset = reset sched s t w b c;
    }

widths : (sheet : Sheet) (s : State) → state_number sheet s ≡ 0 → Widths s
widths sheet s e =
    let v = accepted-valid sheet s e in
    let c = v.core.scalars in
    record {
      numbers = (
        c.acc,
        (c.carry, (c.saved, (c.dph, (c.dpl, (c.pc, (c.int, (c.inte, (c.level, (c.tm, (c.register, (c.counter, (omega (arith, c.mark), (omega (arith, c.owed), (v.ports.last, (omega (arith, v.count), (omega (arith, v.cycle), tt)))))))))))))))),
      );
      stopped = c.stopped;
      stack = (v.core.stack.depth, v.core.stack.below);
      latches = (v.ports.count, v.ports.below);
      ram = (v.ram.count, v.ram.below);
    }

pub facts : (sheet : Sheet) → CycleFacts sheet
facts sheet = record {
  ports = λ l latches.
      let r = c_and_d_read_back l latches in
      record { a = r.a; b = r.b; c = λ k. either _ _ _ k (r.c k); d = λ k. either _ _ _ k (r.d k); others = r.others };
  marks = λ c. let h = marks_hold_back c in record { ldi = h.ldi; ei = h.ei; li = h.li };
  li = λ rom sched k s o m l n. string _ _ _ s _ (load_strings_hold_together.li sheet rom sched k s o m l n);
  ldi = λ rom sched k s o m l n. string _ _ _ s _ (load_strings_hold_together.ldi sheet rom sched k s o m l n);
  li_falls = λ rom sched k m s v o i l h f z.
      fall sheet rom sched _ _ s (load_strings_keep_falls.li sheet rom sched k m s v o i l h f z);
  ldi_falls = λ rom sched k m s v o i l h f z.
      fall sheet rom sched _ _ s (load_strings_keep_falls.ldi sheet rom sched k m s v o i l h f z);
  tm = λ rom sched s i k d w.
      let t = tm_set_after_stm sheet rom sched s i k d w in
      record { cycles = t.cycles; before = t.before; from = t.from };
  accepted = widths sheet;
  valid = valid_accepted sheet;
  keeps = λ few rom sched s t w b br bs p v h e.
      let c = cycle_keeps sheet few rom sched s t w b br bs p v h e in
      (c.valid, c.rises, c.records, c.levels, c.rows);
  begins_one = begins_one sheet;
  counts = counts sheet;
  runs_count = every_run_counts_res sheet;
  lines = lines_same;
  register_at = register_at;
  position_at = position_at;
  tick_left = tick_left;
  running_left = running_left;
  jump_unbroken = jump_unbroken sheet;
  jump_in_room = jump_in_room sheet;
}

-- IN FIGURES

-- RES is high for k cycles from cycle 1 on, where k is 5 at most
res_high : (k : ℕ) → k ≤ 5 → (i : ℕ) → i < k → (lines_at calls.sched (1 + i)).res ≡ 1
unfolding opened
res_high k h zero l = refl
res_high k h (suc zero) l = refl
res_high k h (suc (suc zero)) l = refl
res_high k h (suc (suc (suc zero))) l = refl
res_high k h (suc (suc (suc (suc zero)))) l = refl
res_high k h (suc (suc (suc (suc (suc i))))) l = absurd (omega arith)

counted-high : (k : ℕ) → k ≤ 5 → (panel_from 1 k).cycles ≡ k → (panel_from 1 k).state.count ≡ min 4 (0 + k)
unfolding opened
counted-high k h e = (facts upd546_sheet).runs_count calls.rom calls.sched k (panel_at 1) (lit≤ tt) e (res_high k h)

-- cycle k of that panel
abbrev OfPanel : ℕ → Type 0
OfPanel k =
    OfEveryCount (lines_at calls.sched (panel_at k).cycle.0) (panel_at k) (panel_from k 1).state (panel_from k 1).bytes (panel_from k 1).begun

panel_counts : (k : ℕ)
    → cycle upd546_sheet calls.rom calls.sched (panel_at k) ≡ went (panel_from k 1).state (panel_from k 1).bytes (panel_from k 1).begun
    → OfPanel k
panel_counts k e = (facts upd546_sheet).counts calls.rom calls.sched _ _ _ _ e

li_stands : Stand upd546_sheet loads codes.li 2 1
unfolding opened
li_stands = (refl, refl, refl, (refl, refl, refl, tt))

ldi_stands : Stand upd546_sheet loads codes.ldi 1 5
unfolding opened
ldi_stands = (refl, refl, refl, tt)

edge_stands : Stand upd546_sheet edge codes.li 2 0
unfolding opened
edge_stands = (refl, refl, refl, (refl, refl, refl, tt))

edge_falls : FallsIn edge_lines (from (set_inte 1)) 1
unfolding opened
edge_falls = (refl, refl)

-- NOP isn't TIT: it leaves an INT that is set
nop_other : codes.nop ≡ codes.tit → ⊥
nop_other e =
    let g : Given = record {
      core = (from (set_int 1)).core;
      after = 0;
      code = 0;
      second = 0;
      word = 0;
      lines = lines_at [] 0;
      ports = [];
      sheet = upd546_sheet;
    } in
    let z : ◌≡◌ {A = ℕ} 1 0 = ap (λ (i : Instruction). (i.effect g).core.interrupt.int) e in
    absurd (omega arith)

due : StmDue upd546_sheet waits [] fresh 0
unfolding opened no_reset
due = record { no_reset_is = refl; owed = refl; free = refl; code_in = refl; code = refl; second_in = refl; operand = refl }

pub figures : CycleFigures
unfolding opened no_reset without_stm
figures =
    let li = (facts upd546_sheet).li loads [] 2 (after loads 1) refl refl li_stands refl in
    let ldi = (facts upd546_sheet).ldi loads [] 1 (after loads 5) refl refl ldi_stands refl in
    let kept = (facts upd546_sheet).li_falls edge edge_lines 2 1 (from (set_inte 1)) refl refl refl edge_stands (lit< tt) edge_falls refl in
    let accepted =
    kept.accepted (edge_after 2) (edge_after 3) (unbroken upd546 edge edge_lines 4 (from (set_inte 1))) refl refl refl refl refl nop_other refl
    (λ e. omega arith) (λ e. omega arith) (λ e. omega arith) in
    let reached = (panel_counts 4 refl).reset refl in
    record {
      li_9 = ap (λ (r : Ran State). r.state.core.registers.acc) li.whole;
      ldi_45 = ap (λ (r : Ran State). r.state.core.registers.dpl) ldi.whole;
      ldi_begun = ap (λ (r : Ran State). r.begun) ldi.whole;
      edge_kept = kept.int;
      edge_accepted = accepted.1;
      edge_return = accepted.2;
      count_3 = counted-high 3 (lit≤ tt) refl;
      count_4 = counted-high 5 (lit≤ tt) refl;
      reset_record = reached.reaching (λ e. omega arith);
      reset_begun = reached.begins_none;
      reset_latch = ap (λ (t : State). get_or t.ports 2 0) reached.state;
      reset_acc = ap (λ (t : State). t.core.registers.acc) reached.state;
      held_bytes = ((panel_counts 5 refl).reset refl).staying refl;
      tm_before = ((facts upd546_sheet).tm waits [] fresh 0 62 due refl).before (lit< tt);
      tm_from = ((facts upd546_sheet).tm waits [] fresh 0 63 due refl).from (lit≤ tt);
    }
