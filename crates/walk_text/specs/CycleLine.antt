-- The line of a walked machine cycle: what it did, the state after it, the ports that it wrote and the lines that changed.
-- Assumes nothing: these are definitions.
use Rattle.std.specs.Prelude.{ℕ, zero, suc, ◌+◌, ◌-◌, ◌*◌, ◌%◌, ◌≡◌, ◌≢◌, cond, List, [], ◌∷◌, ◌++◌, eqb, ltb, get_or, replicate, Result, Ok, Err, IfOk, IfErr}
use Rattle.runs.specs.Numbers.{end_number}
use Rattle.runs.specs.TwoRunners.{RunAnswer, number_of_end, plain}
use Rattle.upd546.specs.declared.State.{State}
use Rattle.upd546.specs.declared.Lines.{Lines}
use Rattle.upd546.specs.TheMachine.{byte_at, follows, reset_count}
use Rattle.upd546.specs.TheLineSchedule.{quiet_lines, lines_at}
use Rattle.upd546.specs.OneMachineCycle.{accepts}
use Rattle.upd546.specs.Instructions.{instruction}
use Rattle.upd546.specs.Ports.{log_record_length}
use Rattle.upd546.specs.Reports.{newline}
use Rattle.upd546.specs.TwoRunners.{upd546}
use Rattle.text.specs.Writing.{Appended}
use Rattle.mnemonics.specs.Mnemonics.{instruction_text}
use Rattle.walk_text.specs.declared.Walked.{Walked}
use Rattle.walk_text.specs.declared.Done.{Done}
use Rattle.walk_text.specs.declared.Halt.{Halt}
use Rattle.walk_text.specs.declared.Kind.{Kind}
use Rattle.walk_text.specs.declared.Kind.TheVariants.{Reset, Accepts, Owed, Skipped, Begins}
use Rattle.walk_text.specs.Fields.{digit_of, cycle_column, timer_column, address_column, mark_column, register_columns, interrupt_columns, owed_column}

-- What a cycle did. R-8: a cycle that "brings or finds the count at 4 is a reset cycle"; else, in the order of "One machine cycle n",
-- it accepted an interrupt, or passed a cycle that was owed, by a skip or by the instruction itself, or began an instruction.
unfoldable pub doing_of : Walked → Kind
doing_of w =
    cond (eqb w.after.count reset_count) Reset
    (cond (accepts w.before.core) Accepts
    (cond (eqb w.before.core.owed 0) Begins
    (cond (ltb w.over w.before.core.owed) Owed Skipped)))

-- how many of the cycles owed after it are those of a skip: "owed becomes its cycles less 1", and a skip "costs its bytes (1 or 2) in
-- further cycles"
unfoldable pub over_after : List ℕ → Walked → ℕ
over_after rom w =
    cond (eqb w.before.core.owed 0)
    (w.after.core.owed - ((instruction (byte_at rom w.before.core.flow.pc)).cycles - 1))
    w.over

-- where PC stood; of a cycle that was owed nothing, as PC is already ahead
abbrev pub place_by : Kind → ℕ → List ℕ
place_by Owed pc = (32 ∷ 32 ∷ 32 ∷ 32 ∷ 32 ∷ [])
place_by Skipped pc = (32 ∷ 32 ∷ 32 ∷ 32 ∷ 32 ∷ [])
place_by Reset pc = address_column pc
place_by Accepts pc = address_column pc
place_by Begins pc = address_column pc

-- what it did, in words; of an instruction NEC's mnemonic and operand
abbrev pub words_by : Kind → List ℕ → ℕ → List ℕ
words_by Reset rom pc = (114 ∷ 101 ∷ 115 ∷ 101 ∷ 116 ∷ 32 ∷ 32 ∷ 32 ∷ [])
words_by Accepts rom pc = (97 ∷ 99 ∷ 99 ∷ 101 ∷ 112 ∷ 116 ∷ 115 ∷ 32 ∷ [])
words_by Owed rom pc = (111 ∷ 119 ∷ 101 ∷ 100 ∷ 32 ∷ 32 ∷ 32 ∷ 32 ∷ [])
words_by Skipped rom pc = (115 ∷ 107 ∷ 105 ∷ 112 ∷ 112 ∷ 101 ∷ 100 ∷ 32 ∷ [])
words_by Begins rom pc = instruction_text pc (byte_at rom pc) (byte_at rom (follows pc))

-- the cycle, where PC stood and what was done
abbrev pub head_text : List ℕ → Walked → List ℕ
head_text rom w =
    cycle_column w.before.cycle.0
    ++ place_by (doing_of w) w.before.core.flow.pc
    ++ words_by (doing_of w) rom w.before.core.flow.pc

-- mark, owed and the timer
abbrev pub marks_text : State → List ℕ
marks_text s = mark_column s.core.mark ++ owed_column s ++ timer_column s.core.timer

-- a port that was written, by record i of the cycle's log; the record of a reset, port 0, isn't told twice
unfoldable pub out_text : List ℕ → ℕ → List ℕ
out_text log i =
    let port = get_or log (log_record_length * i + 6) 0 in
    cond (eqb port 0) []
    ((32 ∷ 111 ∷ 117 ∷ 116 ∷ 32 ∷ []) ++ ((65 + port % 16) ∷ 61 ∷ digit_of (get_or log (log_record_length * i + 7) 0) ∷ []))

-- "8 or 16 bytes" of a cycle's log: none, one or two records
unfoldable pub outs_text : List ℕ → ℕ → List ℕ
outs_text log written =
    cond (ltb written 8) [] (out_text log 0 ++ cond (ltb written 16) [] (out_text log 1))

-- a line that changed
unfoldable pub change_text : List ℕ → ℕ → ℕ → List ℕ
change_text name last new = cond (eqb last new) [] ((32 ∷ 108 ∷ 105 ∷ 110 ∷ 101 ∷ 32 ∷ []) ++ name ++ (61 ∷ digit_of new ∷ []))

-- those that changed
unfoldable pub changes_text : Lines → Lines → List ℕ
changes_text last new =
    change_text (65 ∷ []) last.a new.a
    ++ change_text (66 ∷ []) last.b new.b
    ++ change_text (67 ∷ []) last.c new.c
    ++ change_text (68 ∷ []) last.d new.d
    ++ change_text (73 ∷ 78 ∷ 84 ∷ []) last.int new.int
    ++ change_text (82 ∷ 69 ∷ 83 ∷ []) last.res new.res

-- the line, with so many bytes of log
unfoldable pub line_text : List ℕ → Walked → List ℕ → ℕ → List ℕ
line_text rom w log written =
    head_text rom w
    ++ (register_columns w.after ++ interrupt_columns w.after)
    ++ marks_text w.after
    ++ outs_text log written
    ++ changes_text w.last w.lines
    ++ newline

-- the lines of the cycle before cycle n; before cycle 0 none has changed yet: "with none, ports 0 and INT high"
abbrev pub lines_before : List ℕ → ℕ → Lines
lines_before sched zero = quiet_lines
lines_before sched (suc n) = lines_at sched n

-- a cycle of a panel from this state, which leads to that one
abbrev pub walked_by : List ℕ → State → State → ℕ → Walked
walked_by sched before after over = record {
  before = before;
  after = after;
  last = lines_before sched before.cycle.0;
  lines = lines_at sched before.cycle.0;
  over = over;
}

-- one cycle by the plain runner, on a log that has room for its records
abbrev pub one_cycle : List ℕ → List ℕ → State → RunAnswer State
one_cycle rom sched s = plain upd546 rom sched s (replicate 16 0) 1

-- the number that a step comes to, 0 where the cycle was done, and the state
abbrev pub step_number : Result Done Halt → ℕ
step_number (Ok d) = 0
step_number (Err h) = end_number h.end

abbrev pub step_state : Result Done Halt → State
step_state (Ok d) = d.state
step_state (Err h) = h.state

-- What a walked cycle answers is what the definition's cycle comes to; and where that was done, its line stands at the front of the buffer.
-- Where it wasn't, it has a number, and the buffer is as before.
pub record Stepped (rom sched : List ℕ) (s : State) (over : ℕ) (before after : List ℕ) (r : Result Done Halt) : Type 0 where
  pub number : step_number r ≡ number_of_end (one_cycle rom sched s).end
  pub state : step_state r ≡ (one_cycle rom sched s).state
  pub over_next : IfOk r (λ d. d.over ≡ over_after rom (walked_by sched s (one_cycle rom sched s).state over))
  pub line : IfOk r
      (λ d.
      Appended before 0 (line_text rom (walked_by sched s (one_cycle rom sched s).state over) (one_cycle rom sched s).log (one_cycle rom sched s).written) after d.size)
  pub halted : IfErr r (λ h. (end_number h.end ≢ 0) × (after ≡ before))
