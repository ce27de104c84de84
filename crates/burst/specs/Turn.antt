-- A turn of the loop: what it asks, and what it comes to. Assumes nothing: these are definitions.
use Rattle.std.specs.Prelude.{◌≡◌, Bool, true, false, cond, ◌&&◌, List, ◌++◌, ℕ, ◌+◌, ◌-◌, ◌<◌, ◌≤◌, min, eqb, length, take, drop}
use Rattle.std.proofs.Math.Option.{some}
use Rattle.std.specs.Prelude.{Option, Some, None}
use Rattle.runs.specs.declared.Stop.{Stop}
use Rattle.runs.specs.Numbers.{stop_number}
use Rattle.runs.specs.Refusals.{cycle_limit}
use Rattle.runs.specs.TwoRunners.{still, within}
use Rattle.runs.specs.OneByOne.{OneByOne}
use Rattle.runs.specs.Laws.{Panel}
use Rattle.upd546.specs.declared.Core.{Core}
use Rattle.upd546.specs.declared.Interrupt.{Interrupt}
use Rattle.upd546.specs.declared.Lines.{Lines}
use Rattle.upd546.specs.declared.Sheet.{Sheet}
use Rattle.upd546.specs.declared.State.{State}
use Rattle.upd546.specs.declared.Timer.{Timer}
use Rattle.upd546.specs.TheMachine.{mark_stm}
use Rattle.upd546.specs.Parts.{set_owed}
use Rattle.upd546.specs.TheLineSchedule.{lines_at}
use Rattle.upd546.specs.Timer.{ticks_left}
use Rattle.upd546.specs.OneMachineCycle.{accepts}
use Rattle.upd546.specs.TwoRunners.{wait_length}
use Rattle.laws.specs.Ordinary.{ordinary}
use Rattle.laws.specs.Burst.{forward}
use Rattle.laws.specs.Stops.{StopNumber}
use Rattle.laws.specs.Valid.{Valid}
use Rattle.tables.specs.Tables.{instruction_table, row_table, position_table}
use Rattle.upd546.specs.Parts.{state_of}
use Rattle.jump.specs.Boundary.{watch_code}
use Rattle.burst.specs.declared.Stretch.{Stretch}
use Rattle.burst.specs.declared.Late.{Late}
use Rattle.burst.specs.declared.Events.{Events}

-- WHAT IS ASKED

-- what a run is lent: a sheet, a ROM and a schedule that aren't refused, and the tables
pub record Lent (sheet : Sheet) (rom sched table rows positions : List ℕ) : Type 0 where
  pub panel : Panel (ordinary sheet) rom sched
  pub instructions : table ≡ instruction_table
  pub row_table_is : rows ≡ row_table sheet
  pub position_table_is : positions ≡ position_table

-- at the boundary before the state's cycle: the state is all that is in core, RAM, latches and cycle number, the lines are l up to the limit, and the runner doesn't jump here, were the limit the
-- end of the run. The log is empty from `at` on, and so many instructions were begun.
pub record Turn (sheet : Sheet) (skips : Bool) (rom sched table rows positions : List ℕ) (l : Lines) (limit : ℕ) (s : State) (log : List ℕ) (at begun : ℕ) : Type 0 where
  pub lent : Lent sheet rom sched table rows positions
  pub parts : s ≡ state_of s.core s.ram s.ports s.cycle.0
  pub lines : (n : ℕ) → s.cycle.0 ≤ n → n < limit → lines_at sched n ≡ l
  pub ahead : s.cycle.0 < limit
  pub in_limit : limit ≤ cycle_limit
  pub valid : Valid s
  pub no_jump : skips ≡ true → wait_length sheet rom sched s (limit - s.cycle.0) ≡ 0
  pub place : at ≤ length log
  pub few : begun ≤ s.cycle.0

-- an instruction is due there
pub record Due (s : State) : Type 0 where
  pub not_accepted : accepts s.core ≡ false
  pub none_owed : s.core.owed ≡ 0

-- THE NEXT EVENT

-- h is no later than the next event after the boundary before cycle n: the limit, the timer's last tick
pub record Horizon (timer : Timer) (n limit h : ℕ) : Type 0 where
  pub some : n < h
  pub in_limit : h ≤ limit
  pub before_tick : 0 < timer.register → h ≤ n + ticks_left timer

-- an interrupt is due, unless the mark keeps it back
abbrev pub may_be_due : Interrupt → Bool
may_be_due i = eqb i.int 1 && eqb i.inte 1

-- the cycle from which on instructions aren't begun one after the other
abbrev pub nearest_of : Interrupt → (h : ℕ) → ℕ
nearest_of i h = cond (may_be_due i) 0 h

-- what an instruction that ends before cycle `done` with this core makes of the next event h, of `since`, the cycle in which the timer
-- was last set, and of the code that is watched for: STM sets the timer. An event that has come stays.
pub record Moved (core : Core) (done limit : ℕ) (skips : Bool) (h since watch h' since' watch' : ℕ) : Type 0 where
  pub stays : (core.mark ≡ mark_stm → done < h → ⊥) → (h' ≡ h) × (since' ≡ since) × (watch' ≡ watch)
  pub sets : core.mark ≡ mark_stm → done < h → Horizon core.timer done limit h' × (since' ≡ done) × (watch' ≡ watch_code skips)

-- and of all events, where it is EI or STM
pub record Moves (core : Core) (done limit : ℕ) (skips : Bool) (h since watch : ℕ) (e : Events) : Type 0 where
  pub moved : Moved core done limit skips h since watch e.horizon e.since e.watch
  pub near_is : e.near ≡ nearest_of core.interrupt e.horizon

-- WHAT IT COMES TO

-- no cycle is begun: its number, and nothing has changed
pub record Held (sheet : Sheet) (rom sched : List ℕ) (s : State) (log : List ℕ) (at number : ℕ) (ram ports log' : List ℕ) : Type 0 where
  pub stops : within (ordinary sheet) rom sched (length log - at) 1 s ≡ still s (some number)
  pub some_number : number ≡ 0 → ⊥
  pub known : (number ≡ 3 → ⊥) → StopNumber number
  pub ram_is : ram ≡ s.ram
  pub ports_is : ports ≡ s.ports
  pub log_is : log' ≡ log

-- the log with w at its place
abbrev pub appended : List ℕ → (at : ℕ) → List ℕ → List ℕ
appended log at w = take at log ++ w ++ drop (at + length w) log

-- d cycles, one by one, lead to this core, RAM and latches before cycle n, append w to the log and begin b instructions
pub record Went (sheet : Sheet) (skips : Bool) (rom sched : List ℕ) (limit : ℕ) (s : State) (log : List ℕ) (at begun : ℕ)
    (core : Core) (n begun' at' : ℕ) (ram ports log' : List ℕ) : Type 0 where
  pub d : ℕ
  pub b : ℕ
  pub w : List ℕ
  pub some_cycles : 1 ≤ d
  pub steps : OneByOne (ordinary sheet) rom sched skips (length log - at) (limit - s.cycle.0) s (state_of core ram ports n) w d b
  pub cycle_is : n ≡ s.cycle.0 + d
  pub begun_is : begun' ≡ begun + b
  pub at_is : at' ≡ at + length w
  pub log_is : log' ≡ appended log at w

-- the number of a stop; 0 where there is none
abbrev pub number_of : Option Stop → ℕ
number_of None = 0
number_of (Some s) = stop_number s

-- what a turn comes to
pub record Turned (sheet : Sheet) (skips : Bool) (rom sched : List ℕ) (limit : ℕ) (s : State) (log : List ℕ) (at begun : ℕ) (r : Stretch) (ram ports log' : List ℕ) : Type 0 where
  pub held : (number_of r.stop ≡ 0 → ⊥) → Held sheet rom sched s log at (number_of r.stop) ram ports log'
  pub went : number_of r.stop ≡ 0 → Went sheet skips rom sched limit s log at begun r.core r.cycle r.begun r.at ram ports log'

-- a timer that may be brought forward by so many cycles
pub record Forwards (core : Core) (cycles : ℕ) : Type 0 where
  pub register : core.timer.register < 64
  pub ticks_left_is : (core.mark ≡ mark_stm → ⊥) → 0 < core.timer.register → cycles ≤ ticks_left core.timer

-- what a burst comes to: the same, with the timer behind
pub record Bursts (sheet : Sheet) (skips : Bool) (rom sched : List ℕ) (limit : ℕ) (s : State) (log : List ℕ) (at begun : ℕ) (r : Late) (ram ports log' : List ℕ) : Type 0 where
  pub held : r.stretch.cycle ≡ s.cycle.0 → Held sheet rom sched s log at (number_of r.stretch.stop) ram ports log'
  pub went : (r.stretch.cycle ≡ s.cycle.0 → ⊥)
      → Went sheet skips rom sched limit s log at begun (forward r.late r.stretch.core) r.stretch.cycle r.stretch.begun r.stretch.at ram ports log'
  pub forwards : Forwards r.stretch.core r.late

abbrev pub stretch_of : Core → (n begun at : ℕ) → Option Stop → Stretch
stretch_of c n begun at stop = record { core = c; cycle = n; begun = begun; at = at; stop = stop }

-- where a burst ends whose last instruction ends before cycle `done`: at the event h, with the rest owed; the timer was set in cycle
-- `since`
abbrev pub ended_at : Core → (done begun at h since : ℕ) → Late
ended_at c done begun at h since = record { stretch = stretch_of (set_owed (done - h) c) (min done h) begun at None; late = min done h - since }
