-- The theorems about sheets at variables, and the figures of the lists whose sheets differ, clause by clause from the theorems. Assumes
-- nothing.
use mathlib.Core.Path.{◌≡◌, ◌∙◌, refl, sym, ap}
use mathlib.Core.Bool.{Bool, true, false, ◌||◌}
use mathlib.Core.List.{List, [], ◌∷◌}
use mathlib.Core.Option.{some}
use Prim.Native.Nat.{ℕ, zero, suc, ◌+◌, ◌-◌, ◌*◌, ◌<◌, ◌≤◌}
use native.Mathlib.Omega.{arith}
use lib.Dec.{lit<, lit≤}
use lib.ListN.{length, get_or, drop, replicate}
use lib.Seq.{get_or-take, get_or-drop}
use borrow.Author.Tests.{lt-ltb, le-leb}
use Rattle.runs.specs.declared.Version.TheVariants.{Two}
use Rattle.runs.specs.Refusals.{unless}
use Rattle.runs.specs.TwoRunners.{RunAnswer, RestoreAnswer, stopped, log_bound}
use Rattle.runs.specs.Laws.{Panel}
use Rattle.runs.specs.Lists.{plain_one, run, Each, WrittenBy, Lent, Meant, runs, StopsHave, EndsAsOneRun}
use Rattle.upd546.specs.declared.State.{State}
use Rattle.upd546.specs.declared.Sheet.{Sheet}
use Rattle.upd546.specs.Bytes.{bit_at, part}
use Rattle.upd546.specs.Sequences.{all_of, all_below}
use Rattle.upd546.specs.TheSheet.{legal, sheet_number, upd546_sheet, row_exists}
use Rattle.upd546.specs.TheMachine.{stored_rows, place_of, fresh}
use Rattle.upd546.specs.StateImage.{rows_zero, absent_zero, state_number}
use Rattle.upd546.specs.BenchCases.{smaller}
use Rattle.upd546.specs.TwoRunners.{chip}
use Rattle.laws.proofs.Lists.{and_left, and_right, below_all}
use Rattle.laws.proofs.Sheets.{legal_sheet}
use Rattle.laws.proofs.Sound.{accepted-absent}
use Rattle.laws.proofs.Images.{accepted-exactly}
use Rattle.laws.proofs.Chip.{every_sheet_takes_the_fresh_state}
use Rattle.laws.proofs.Demand3.{every_list, every_sheet_refuses_first, every_run_keeps_the_state_sound}
use Rattle.calls.specs.Call.{BoardCall, image_run, call_answer}
use Rattle.calls.specs.Lists.{PanelLent, CallLent, CallsEndAsOneRun}
use Rattle.calls.proofs.Chip.{every_sheet_refuses_before_the_image, every_list_of_calls}
use Rattle.witness.specs.Sheets.{Zeros, OfEverySheet, illegal, rom, cut, kept, calls, carried_out, start, first_call, between, second_call, no_image, board_calls, old, old_image, SheetFigures}
use Rattle.witness.proofs.Opened.{opened}
use Rattle.witness.proofs.Calls as lists
use Rattle.witness.proofs.Board as board

-- WHAT IS ABSENT

module _ (sheet : Sheet) (ram : List ℕ) where
  -- the row exists, or its words are zero
  abbrev zero_unless : ℕ → Bool
  zero_unless r = row_exists sheet r || all_below 1 (part ram (place_of (16 * r)) 16)

  pick : (rs : List ℕ) → rows_zero sheet rs ram ≡ true → (k : ℕ) → k < length rs → zero_unless (get_or rs k 0) ≡ true
  pick [] e k h = absurd (omega arith)
  pick (r ∷ rs) e zero h = and_left (zero_unless r) (rows_zero sheet rs ram) e
  pick (r ∷ rs) e (suc k) h = pick rs (and_right (zero_unless r) (rows_zero sheet rs ram) e) k (omega arith)

  absent : (r : ℕ) → r < 5 → bit_at sheet.rows r ≡ 0 → row_exists sheet r ≡ false
  unfolding row_exists
  absent r h e = rw (lt-ltb r 5 h, e)

  row_zero : (r i : ℕ) → r < 5 → bit_at sheet.rows r ≡ 0 → i < 16 → place_of (16 * r) ≡ 16 * r
      → zero_unless r ≡ true → get_or ram (16 * r + i) 0 ≡ 0
  row_zero r i h e l at z =
      let below : all_below 1 (part ram (place_of (16 * r)) 16) ≡ true
      = ap (λ (b : Bool). b || all_below 1 (part ram (place_of (16 * r)) 16)) (sym (absent r h e)) ∙ z in
      let word : get_or (part ram (place_of (16 * r)) 16) i 0 ≡ get_or ram (place_of (16 * r) + i) 0
      = get_or-take 16 (drop (place_of (16 * r)) ram) i 0 l ∙ get_or-drop (place_of (16 * r)) ram i 0 in
      let small = below_all 1 (part ram (place_of (16 * r)) 16) (lit< tt) below i in
      ap (λ (k : ℕ). get_or ram (k + i) 0) (sym at) ∙ omega (arith, word, small)

  zero_rows : rows_zero sheet stored_rows ram ≡ true → (r i : ℕ) → r < 5 → bit_at sheet.rows r ≡ 0 → i < 16 → get_or ram (16 * r + i) 0 ≡ 0
  unfolding place_of
  zero_rows z zero i h e l = row_zero 0 i h e l refl (pick stored_rows z 0 (lit< tt))
  zero_rows z (suc zero) i h e l = row_zero 1 i h e l refl (pick stored_rows z 1 (lit< tt))
  zero_rows z (suc (suc zero)) i h e l = row_zero 2 i h e l refl (pick stored_rows z 2 (lit< tt))
  zero_rows z (suc (suc (suc zero))) i h e l = row_zero 3 i h e l refl (pick stored_rows z 3 (lit< tt))
  zero_rows z (suc (suc (suc (suc zero)))) i h e l = row_zero 4 i h e l refl (pick stored_rows z 4 (lit< tt))
  zero_rows z (suc (suc (suc (suc (suc r))))) i h e l = absurd (omega arith)

zero_levels : (levels : ℕ) (stack : List ℕ) → all_below 1 (drop levels stack) ≡ true → (i : ℕ) → levels ≤ i → get_or stack i 0 ≡ 0
zero_levels levels stack z i h =
    let at : i ≡ levels + (i - levels) = omega arith in
    let small = below_all 1 (drop levels stack) (lit< tt) z (i - levels) in
    ap (λ (k : ℕ). get_or stack k 0) at ∙ omega (arith, get_or-drop levels stack (i - levels) 0, small)

zeros : (sheet : Sheet) (s : State) → state_number sheet s ≡ 0 → Zeros sheet s
unfolding absent_zero
zeros sheet s e =
    let z = accepted-absent sheet s e in
    let levels = all_below 1 (drop sheet.levels s.core.flow.stack) in
    let rows = rows_zero sheet stored_rows s.ram in
    record {
      rows = zero_rows sheet s.ram (and_right levels rows z);
      levels = zero_levels sheet.levels s.core.flow.stack (and_left levels rows z);
    }

-- EVERY SHEET

-- a sheet that is refused is refused with 71
by_71 : (sheet : Sheet) → (sheet_number sheet ≡ 0 → ⊥) → sheet_number sheet ≡ 71
unfolding sheet_number
by_71 sheet = go (legal sheet)
  where
    go : (b : Bool) → (unless b 71 ≡ 0 → ⊥) → unless b 71 ≡ 71
    go true n = absurd (n refl)
    go false n = refl

within : (sheet : Sheet) → 1 ≤ sheet.rom → sheet.rom ≤ 2000 → sheet.rows ≤ 31 → 1 ≤ sheet.levels → sheet.levels ≤ 3
    → sheet_number sheet ≡ 0
unfolding sheet_number legal all_of
within sheet a b c d e = rw (le-leb _ _ a, le-leb _ _ b, le-leb _ _ c, le-leb _ _ d, le-leb _ _ e)

pub facts : (sheet : Sheet) → OfEverySheet sheet
facts sheet = record {
  limits = λ e.
      let l = legal_sheet sheet e in
      (l.rom_some, l.rom_most, l.rows, l.level_some, l.level_most);
  legal = within sheet;
  first = λ c same n. every_sheet_refuses_first c 70 (ap sheet_number same ∙ by_71 sheet n);
  before_the_image = λ c long n. every_sheet_refuses_before_the_image sheet c 70 long (by_71 sheet n);
  takes_fresh = every_sheet_takes_the_fresh_state sheet;
  zeros = zeros sheet;
  keeps_zeros = λ kind rom sched s log n br bs v. zeros sheet _ (every_run_keeps_the_state_sound sheet kind rom sched s log n br bs v);
}

-- THE LIST

panel : Panel (chip smaller) rom []
unfolding opened
panel = record { legal = refl; rom_bytes = below_all 256 rom (lit< tt) refl; sched_bytes = λ i. lit< tt; not_refused_is = refl }

sound : state_number smaller fresh ≡ 0
sound = every_sheet_takes_the_fresh_state smaller

lent : (held : State) (log : List ℕ) (n : ℕ) → log_bound n ≤ length log → Lent rom [] held rom [] held log n
lent held log n room = record { same_rom = refl; same_sched = refl; same_state = refl; room = room }

written : WrittenBy (chip smaller) cut kept
unfolding opened
written = record { version = Two; buffer = replicate 82 9; done = refl; same = refl }

meant : Meant chip smaller rom [] fresh calls
unfolding opened
meant = record {
  one_sheet = (refl, (refl, (refl, (refl, tt))));
  given = (lent _ _ _ (lit≤ tt), (refl, (written, (lent _ _ _ (lit≤ tt), tt))));
}

-- DEMAND 3, of this list
one_run : EndsAsOneRun chip smaller rom [] fresh calls
one_run = every_list smaller rom [] fresh calls panel sound meant

all_22 : (l : List (RunAnswer State)) → StopsHave (some 22) l → Each (λ a. (k : ℕ) → a.end ≡ stopped k → k ≡ 22) l
all_22 [] h = tt
all_22 (a ∷ l) h = (λ k e. let same = h.0 k e in cc, all_22 l h.1)

-- BY THE BOARD'S CALL

on_panel : (c : BoardCall) → c.sheet ≡ smaller → c.rom ≡ rom → c.sched ≡ [] → log_bound c.n ≤ length c.log
    → PanelLent smaller rom [] c
on_panel c a b d room = record { same_sheet = a; same_rom = b; same_sched = d; room = room }

lent_first : CallLent chip smaller rom [] start first_call
lent_first = record { same_image = refl; lent = λ e. on_panel first_call refl refl refl (lit≤ tt) }

lent_second : CallLent chip smaller rom [] between second_call
lent_second = record { same_image = refl; lent = λ e. on_panel second_call refl refl refl (lit≤ tt) }

on_board : CallsEndAsOneRun chip smaller rom [] start fresh board_calls
unfolding opened image_run call_answer
on_board = every_list_of_calls smaller rom [] fresh board_calls panel sound (lent_first, (lent_second, tt))

-- THE FIGURES

no_sheet : sheet_number illegal ≡ 0 → ⊥
unfolding opened
no_sheet e = omega (arith, e)

lost : Zeros smaller cut
lost = (facts smaller).keeps_zeros plain_one rom [] fresh (replicate 160 7) 10 panel.rom_bytes panel.sched_bytes sound

pub figures : SheetFigures
unfolding opened image_run call_answer
figures = record {
  pc = ap (λ (s : State). s.core.flow.pc) one_run.ends.state;
  stack = ap (λ (s : State). s.core.flow.stack) one_run.ends.state;
  each_stop = all_22 (runs chip carried_out) one_run.ends.stops;
  log = one_run.nothing.log ∙ one_run.ends.log;
  cycles = one_run.nothing.cycles ∙ one_run.ends.cycles;
  begun = one_run.nothing.begun ∙ one_run.ends.begun;
  call = λ kind. (one_run.call (lit≤ tt) kind (replicate 320 0) (lit≤ tt)).end;
  numbers = lists.by_numbers calls one_run.refusals;
  run_71 = one_run.unchanged.0;
  save_71 = one_run.unchanged.1.1.1.1.0;
  restore_71 = one_run.unchanged.1.1.1.1.1.1.0;
  run_34 = one_run.unchanged.1.1.1.0;
  restore_34 = one_run.unchanged.1.1.1.1.1.1.1.0;
  board_pc = ap (λ (r : RestoreAnswer State). r.state.core.flow.pc) on_board.ends.state;
  board_log = on_board.ends.log;
  board_numbers = board.by_numbers board_calls on_board.refusals;
  board_71 = board.whole illegal 71 no_image on_board.unchanged.1.0;
  first_71 = (facts illegal).first (run plain_one [] (1 ∷ []) old [] 281474976710656 illegal) refl no_sheet;
  image_71 = (facts illegal).before_the_image no_image (lit≤ tt) no_sheet;
  row_lost = lost.rows 4 3 (lit< tt) refl (lit< tt);
  level_lost = lost.levels 2 (lit≤ tt);
  row_stored = refl;
  level_kept = refl;
  of_old = (accepted-exactly upd546_sheet old_image refl (below_all 256 old_image (lit< tt) refl)).0 refl;
  not_of_smaller = λ one.
      let zero : ◌≡◌ {A = ℕ} 34 0 = (accepted-exactly smaller old_image refl (below_all 256 old_image (lit< tt) refl)).1 one in
      omega (arith, zero);
}
