-- Three panels, of which one stops and one is refused, and rounds with refused ones among them. Assumes nothing.
use mathlib.Core.Path.{◌≡◌, ◌∙◌, refl, sym, ap, subst}
use mathlib.Core.List.{List, [], ◌∷◌, map}
use mathlib.Core.Option.{Option, none, some}
use Prim.Native.Nat.{ℕ, zero, suc, ◌+◌, ◌<◌, ◌≤◌}
use native.Mathlib.Omega.{arith}
use lib.Dec.{lit<, lit≤}
use lib.ListN.{length, replicate}
use Rattle.runs.specs.Refusals.{cycle_limit}
use Rattle.runs.specs.TwoRunners.{finished, log_bound, unbroken}
use Rattle.runs.specs.Laws.{Panel}
use Rattle.runs.specs.Lists.{Kind, Each, run_answer}
use Rattle.upd546.specs.declared.State.{State}
use Rattle.upd546.specs.TheMachine.{fresh}
use Rattle.upd546.specs.StateImage.{state_number}
use Rattle.upd546.specs.TwoRunners.{chip}
use Rattle.laws.proofs.Lists.{below_all}
use Rattle.waiting.specs.declared.Reading.{Reading}
use Rattle.panels.specs.Round.{RoundAnswer}
use Rattle.rounds.specs.Rounds.{Round, after, afterwards, grant_in, OutsideRecords, PanelsOnTheirOwn, SameFor, ComeOutTheSame}
use Rattle.rounds.specs.Lists.{rounds_not_refused, OnOneBank, turns_taken, HasItsParts, RoundsMeant, total, grants_together, PanelEndsAsOneRun, PanelReportsAsOneRun}
use Rattle.rounds.specs.Figures.{six, lamp, halt, high, bank, first, bank_then, short, crowded, no_chip, second, rounds, alone, sound, OneRound, both, third, ManyRounds}
use Rattle.rounds.proofs.Opened.{opened}
use Rattle.rounds.proofs.Rounds.{every_panel_is_on_its_own, others_affect_nothing_else, stops_hold_up_nobody}
use Rattle.rounds.proofs.Rounds.{every_round_is_refused_by_numbers, sheet_refuses_the_round_first, refused_round_changes_nothing, empty_bank_does_nothing}
use Rattle.rounds.proofs.Lists.{every_list_of_rounds, every_list_of_rounds_reports, every_list_on_one_bank}

-- THE FIRST ROUND

first_taken : (after first).number ≡ 0
unfolding opened
first_taken = refl

own : PanelsOnTheirOwn first
own = every_panel_is_on_its_own first first_taken

-- byte 24 stands behind the first panel's records and before the other parts; byte 189 behind all of them
outside_24 : (i : ℕ) → i < 3 → OutsideRecords 24 i first
unfolding opened
outside_24 zero h q = lit≤ tt
outside_24 (suc zero) h q = absurd (omega (arith, q))
outside_24 (suc (suc zero)) h q = absurd (omega (arith, q))
outside_24 (suc (suc (suc i))) h q = absurd (omega arith)

outside_189 : (i : ℕ) → i < 3 → OutsideRecords 189 i first
unfolding opened
outside_189 zero h q = lit≤ tt
outside_189 (suc zero) h q = lit≤ tt
outside_189 (suc (suc zero)) h q = lit≤ tt
outside_189 (suc (suc (suc i))) h q = absurd (omega arith)

alone_taken : (after alone).number ≡ 0
unfolding opened
alone_taken = refl

sound_taken : (after sound).number ≡ 0
unfolding opened
sound_taken = refl

same_alone : SameFor 0 first 0 alone
unfolding opened
same_alone = record { sheet = refl; state = refl; needs = refl; rom = refl; schedule = refl; log = refl }

same_sound : SameFor 0 first 0 sound
unfolding opened
same_sound = record { sheet = refl; state = refl; needs = refl; rom = refl; schedule = refl; log = refl }

with_nobody : ComeOutTheSame 0 first 0 alone
unfolding opened
with_nobody = others_affect_nothing_else first alone 0 0 first_taken alone_taken (lit< tt) (lit< tt) same_alone refl

with_sound : ComeOutTheSame 0 first 0 sound
unfolding opened
with_sound = stops_hold_up_nobody first sound 0 first_taken sound_taken (lit< tt) refl refl same_sound

numbers : map (λ r. (after r).number) rounds ≡ 0 ∷ 62 ∷ 61 ∷ 71 ∷ 0 ∷ []
unfolding opened bank_then
numbers = refl

short_refused : (after short).number ≡ 62
unfolding opened bank_then
short_refused = refl

pub one_round : OneRound
unfolding opened
one_round = record {
  grant_0 = (own.own 0 (lit< tt)).grant;
  grant_1 = (own.own 1 (lit< tt)).grant;
  grant_2 = (own.own 2 (lit< tt)).grant;
  place = (own.own 2 (lit< tt)).place;
  state = ap (λ (s : State). s.cycle.0) (own.own 0 (lit< tt)).state;
  last = (own.own 0 (lit< tt)).last;
  log = (own.own 0 (lit< tt)).log;
  needs = (own.own 0 (lit< tt)).needs;
  stops = (own.own 1 (lit< tt)).last;
  refused = (own.own 2 (lit< tt)).last;
  behind = own.outside 24 (λ i h. outside_24 i h);
  past = own.outside 189 (λ i h. outside_189 i h);
  row = own.row;
  buffer = own.buffer;
  with_nobody = with_nobody;
  with_sound = with_sound;
  numbers = numbers;
  by_61 = every_round_is_refused_by_numbers crowded;
  by_71 = sheet_refuses_the_round_first no_chip 70 refl;
  unchanged = refused_round_changes_nothing short 61 short_refused;
  empty = λ roms schedules logs t.
      empty_bank_does_nothing (record { bank = []; roms = roms; schedules = schedules; logs = logs; t = t; sheet = six }) refl;
}

-- THE LIST

not_refused_is : rounds_not_refused rounds ≡ both
unfolding opened bank_then
not_refused_is = refl

-- of a panel that has the same parts in both rounds
panel_0 : Panel (chip six) lamp []
unfolding opened
panel_0 = record { legal = refl; rom_bytes = below_all 256 lamp (lit< tt) refl; sched_bytes = below_all 256 [] (lit< tt) refl; not_refused_is = refl }

panel_1 : Panel (chip six) halt high
unfolding opened
panel_1 = record { legal = refl; rom_bytes = below_all 256 halt (lit< tt) refl; sched_bytes = below_all 256 high (lit< tt) refl; not_refused_is = refl }

fresh_sound : state_number six fresh ≡ 0
unfolding opened
fresh_sound = refl

one_bank : OnOneBank bank (rounds_not_refused rounds)
unfolding opened bank_then
one_bank = (refl, (refl, tt))

meant_0 : RoundsMeant six lamp [] bank 0 rounds
unfolding opened bank_then
meant_0 = record {
  one_bank = one_bank;
  own_parts = (
    record { same_sheet = refl; same_rom = refl; same_sched = refl; room = lit≤ tt },
    (record { same_sheet = refl; same_rom = refl; same_sched = refl; room = lit≤ tt }, tt),
  );
}

meant_1 : RoundsMeant six halt high bank 1 rounds
unfolding opened bank_then
meant_1 = record {
  one_bank = one_bank;
  own_parts = (
    record { same_sheet = refl; same_rom = refl; same_sched = refl; room = lit≤ tt },
    (record { same_sheet = refl; same_rom = refl; same_sched = refl; room = lit≤ tt }, tt),
  );
}

run_0 : PanelEndsAsOneRun six lamp [] bank 0 (rounds_not_refused rounds) (unbroken (chip six) lamp [] (grants_together 0 (rounds_not_refused rounds)) fresh)
run_0 = every_list_of_rounds six lamp [] bank 0 rounds (lit< tt) panel_0 fresh_sound meant_0

run_1 : PanelEndsAsOneRun six halt high bank 1 (rounds_not_refused rounds) (unbroken (chip six) halt high (grants_together 1 (rounds_not_refused rounds)) fresh)
run_1 = every_list_of_rounds six halt high bank 1 rounds (lit< tt) panel_1 fresh_sound meant_1

-- the same of the two rounds, with their grants as figures
abbrev Ended : ℕ → List ℕ → List ℕ → List Round → ℕ → Type 0
Ended i rom sched rs n = PanelEndsAsOneRun six rom sched bank i rs (unbroken (chip six) rom sched n fresh)

asked_0 : grants_together 0 both ≡ 14
unfolding opened bank_then
asked_0 = refl

asked_1 : grants_together 1 both ≡ 4
unfolding opened bank_then
asked_1 = refl

ended_0 : Ended 0 lamp [] both 14
ended_0 =
    subst (Ended 0 lamp [] both) asked_0
    (subst (λ (rs : List Round). Ended 0 lamp [] rs (grants_together 0 rs)) not_refused_is run_0)

ended_1 : Ended 1 halt high both 4
ended_1 =
    subst (Ended 1 halt high both) asked_1
    (subst (λ (rs : List Round). Ended 1 halt high rs (grants_together 1 rs)) not_refused_is run_1)

-- neither panel is refused in either round, the third in both
taken_0 : turns_taken 0 both ≡ both
unfolding opened bank_then
taken_0 = refl

taken_1 : turns_taken 1 both ≡ both
unfolding opened bank_then
taken_1 = refl

taken_2 : turns_taken 2 both ≡ []
unfolding opened bank_then
taken_2 = refl

-- the third ends as a run of no cycle
meant_2 : RoundsMeant six lamp [] bank 2 rounds
unfolding opened bank_then
meant_2 = record { one_bank = one_bank; own_parts = subst (λ (rs : List Round). Each (HasItsParts six lamp [] 2) (turns_taken 2 rs)) (sym not_refused_is) (subst (Each (HasItsParts six lamp [] 2)) (sym taken_2) tt) }

run_2 : PanelEndsAsOneRun six lamp [] bank 2 (rounds_not_refused rounds) (unbroken (chip six) lamp [] (grants_together 2 (rounds_not_refused rounds)) fresh)
run_2 = every_list_of_rounds six lamp [] bank 2 rounds (lit< tt) panel_0 fresh_sound meant_2

ended_2 : Ended 2 lamp [] both 0
ended_2 =
    subst (Ended 2 lamp [] both) (ap (total (grant_in 2)) taken_2)
    (subst (λ (rs : List Round). Ended 2 lamp [] rs (grants_together 2 rs)) not_refused_is run_2)

-- the first panel's day
reports_0 : PanelReportsAsOneRun 0 both (unbroken (chip six) lamp [] 14 fresh)
reports_0 =
    let limit : fresh.cycle.0 + grants_together 0 (rounds_not_refused rounds) ≤ cycle_limit
    = subst (λ (rs : List Round). 0 + grants_together 0 rs ≤ cycle_limit) (sym not_refused_is) (subst (λ (n : ℕ). 0 + n ≤ cycle_limit) (sym asked_0) (lit≤ tt)) in
    let day = every_list_of_rounds_reports six lamp [] bank 0 rounds (lit< tt) panel_0 fresh_sound meant_0 limit in
    subst (λ (n : ℕ). PanelReportsAsOneRun 0 both (unbroken (chip six) lamp [] n fresh)) asked_0
    (subst (λ (rs : List Round). PanelReportsAsOneRun 0 rs (unbroken (chip six) lamp [] (grants_together 0 both) fresh)) taken_0
    (subst (λ (rs : List Round). PanelReportsAsOneRun 0 (turns_taken 0 rs) (unbroken (chip six) lamp [] (grants_together 0 rs) fresh)) not_refused_is day))

-- THE FIGURES

-- what the run of 14 cycles comes to, and the one that stops
run_14 : (unbroken (chip six) lamp [] 14 fresh).number ≡ none
unfolding opened
run_14 = refl

run_4 : (unbroken (chip six) halt high 4 fresh).number ≡ some 23
unfolding opened
run_4 = refl

third_taken : (after third).number ≡ 0
unfolding opened bank_then
third_taken = refl

third_parts : HasItsParts six lamp [] 0 third
unfolding opened bank_then
third_parts = record { same_sheet = refl; same_rom = refl; same_sched = refl; room = lit≤ tt }

third_limit : 0 + (grants_together 0 both + grant_in 0 third) ≤ cycle_limit
unfolding opened bank_then
third_limit = lit≤ tt

-- a stop's number is 23
each_23 : (rs : List Round) → Each (λ r. (k : ℕ) → (afterwards 1 r).last.number ≡ suc k → some 23 ≡ some (suc k)) rs
    → Each (λ r. (k : ℕ) → (afterwards 1 r).last.number ≡ suc k → suc k ≡ 23) rs
each_23 [] h = tt
each_23 (r ∷ rs) h = (λ k e. let same = h.0 k e in cc, each_23 rs h.1)

stops_23 : Each (λ r. (k : ℕ) → (afterwards 1 r).last.number ≡ suc k → suc k ≡ 23) both
stops_23 =
    each_23 both (subst (λ (o : Option ℕ). Each (λ r. (k : ℕ) → (afterwards 1 r).last.number ≡ suc k → o ≡ some (suc k)) both) run_4
    (subst (Each (λ (r : Round). (k : ℕ) → (afterwards 1 r).last.number ≡ suc k → (unbroken (chip six) halt high 4 fresh).number ≡ some (suc k))) taken_1
    ended_1.ends.stops))

all_finish : Each (λ r. (afterwards 0 r).last.number ≡ 0) both
all_finish = subst (Each (λ (r : Round). (afterwards 0 r).last.number ≡ 0)) taken_0 (ended_0.ends.finish.1 run_14)

-- one call for all of them, by either runner
call_14 : (kind : Kind) → (run_answer (chip six) kind lamp [] fresh (replicate 224 0) 14).end ≡ finished
unfolding opened
call_14 kind =
    let limit : 0 + grants_together 0 both ≤ cycle_limit = subst (λ (n : ℕ). 0 + n ≤ cycle_limit) (sym asked_0) (lit≤ tt) in
    let log : List ℕ = replicate 224 0 in
    let room : log_bound (grants_together 0 both) ≤ length log = subst (λ (n : ℕ). log_bound n ≤ length log) (sym asked_0) (lit≤ tt) in
    ap (λ (n : ℕ). (run_answer (chip six) kind lamp [] fresh log n).end) (sym asked_0) ∙ (ended_0.call limit kind log room).end

-- rounds on one bank, a refused one between them
short_leaves : (after short).panels ≡ bank_then
short_leaves = ap (λ (a : RoundAnswer). a.panels) (refused_round_changes_nothing short 61 short_refused)

threaded : OnOneBank bank (first ∷ short ∷ second ∷ [])
unfolding bank_then
threaded = (refl, (refl, (sym short_leaves, tt)))

pub many_rounds : ManyRounds
unfolding opened
many_rounds = record {
  not_refused_is = not_refused_is;
  asked = asked_0;
  pc = ap (λ (s : State). s.core.flow.pc) ended_0.ends.state;
  cycle = ap (λ (s : State). s.cycle.0) ended_0.ends.state;
  log = ended_0.ends.log;
  cycles = ended_0.ends.cycles;
  begun = ended_0.ends.begun;
  written = ended_0.ends.written;
  finish = all_finish;
  call = λ kind. call_14 kind;
  needs = ended_0.needs;
  goes_on = ended_0.goes_on third refl third_taken third_parts third_limit;
  stop_cycles = ended_1.ends.cycles;
  stop_again = stops_23;
  none_taken = taken_2;
  as_it_was = ended_2.ends.state;
  read = reports_0.accepted;
  day = ap (λ (r : Reading). r.carried) reports_0.report;
  one_bank = (every_list_on_one_bank bank (first ∷ short ∷ second ∷ []) threaded).0;
}
