-- "The board's driver keeps one machine and lends it for a run, which brings it forward": which run, and what it answers.
-- Assumes nothing: these are definitions.
use Rattle.std.specs.Prelude.{ℕ, ◌≡◌, List, ◌++◌, take}
use Rattle.runs.specs.TwoRunners.{RunAnswer}
use Rattle.runs.specs.Numbers.{end_of}
use Rattle.runs.specs.Lists.{Kind, plain_one, skipping_one}
use Rattle.upd546.specs.declared.State.{State}
use Rattle.driver.specs.declared.KeptMachine.{KeptMachine}
use Rattle.driver.specs.declared.Report.{Report}
use Rattle.driver.specs.declared.Runner.{Runner}
use Rattle.driver.specs.declared.Runner.TheVariants.{Plain, Skipping}

-- "by the plain or the timer-skipping runner"
abbrev pub runner_kind : Runner → Kind
runner_kind Plain = plain_one
runner_kind Skipping = skipping_one

-- A run's report, with the machine and the lent log as they stand when the run returns, in the terms of the definitions.
abbrev pub brought_to : Report → KeptMachine → List ℕ → RunAnswer State
brought_to r m log = record {
  end = end_of r.end;
  state = m.state;
  cycles = r.cycles.0;
  clocks = r.clocks.0;
  begun = r.begun;
  written = r.written;
  steps = r.steps;
  log = log;
}

-- "the mutable log from its write place on is lent to the output instruction and to later slices": what a run answers that was
-- lent a log from a place on, with the whole log. What stands before that place is as it was.
abbrev pub kept_before : ℕ → List ℕ → RunAnswer State → RunAnswer State
kept_before at log a = record {
  end = a.end;
  state = a.state;
  cycles = a.cycles;
  clocks = a.clocks;
  begun = a.begun;
  written = a.written;
  steps = a.steps;
  log = take at log ++ a.log;
}

-- "These change nothing, with all counts 0": the machine and the log after a refused run, and its report.
pub record AsItWas (r : Report) (m m' : KeptMachine) (log log' : List ℕ) : Type 0 where
  pub machine_kept : m' ≡ m
  pub log_kept : log' ≡ log
  pub no_cycles : r.cycles.0 ≡ 0
  pub no_clocks : r.clocks.0 ≡ 0
  pub none_begun : r.begun ≡ 0
  pub none_written : r.written ≡ 0
  pub no_steps : r.steps ≡ 0
