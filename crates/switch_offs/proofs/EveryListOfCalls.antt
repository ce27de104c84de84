-- The board's calls report as one run reports: they stand for a list of demand 3. Assumes nothing.
use mathlib.Core.Path.{◌≡◌, ◌∙◌, refl, sym, ap, subst}
use mathlib.Core.List.{List, [], ◌∷◌, map}
use Prim.Native.Nat.{ℕ}
use native.Mathlib.Omega.{arith}
use Rattle.runs.specs.Machine.{Machine}
use Rattle.runs.specs.TwoRunners.{RunAnswer, unbroken}
use Rattle.runs.specs.Laws.{JumpLaws, NumberLaws, LegalLaws}
use Rattle.runs.specs.Lists.{not_refused, runs, run_log}
use Rattle.upd546.specs.declared.Sheet.{Sheet}
use Rattle.upd546.specs.TwoRunners.{chip}
use Rattle.laws.proofs.Numbers.{number_laws}
use Rattle.laws.proofs.Demand3.{jump_laws, laws}
use Rattle.calls.specs.Lists.{calls_not_refused, call_logs}
use Rattle.calls.proofs.Lists.{slices_of, calls_stand}
use Rattle.waiting.specs.WaitingTimes.{start_of_day, waiting_times}
use Rattle.waiting.specs.EveryList.{AllAccepted, carried_on, logs_of, list_logs, EveryListReportsAsOneRun}
use Rattle.switch_offs.specs.EveryListOfCalls.{EveryListOfCallsReportsAsOneRun}
use Rattle.switch_offs.proofs.EveryList.{every_list_reports_as_one_run}

logs_of_lem : {S : Type 0} (rs : List (RunAnswer S)) → map run_log rs ≡ logs_of rs
logs_of_lem [] = refl
logs_of_lem (a ∷ rs) = ap (λ (ls : List (List ℕ)). run_log a ∷ ls) (logs_of_lem rs)

-- Of a machine no more is seen than its laws and what is promised of its lists of runs, saves and restores.
pub calls_report_as_one_run : {S : Type 0} (M : Sheet → Machine S) → LegalLaws M → ((sheet : Sheet) → JumpLaws (M sheet))
    → ((sheet : Sheet) → NumberLaws (M sheet)) → EveryListReportsAsOneRun M → EveryListOfCallsReportsAsOneRun M
calls_report_as_one_run M laws J N R sheet rom sched s calls p v g limit =
    let cs = calls_not_refused M calls in
    let t = calls_stand M laws J N sheet rom sched s calls p v g in
    let r = R sheet rom sched s (slices_of M cs) p v t.meant (omega (arith, t.asks)) in
    let logs : call_logs M cs ≡ list_logs M (slices_of M cs) = t.logs ∙ logs_of_lem (runs M (not_refused M (slices_of M cs))) in
    record {
      accepted = subst (λ (ls : List (List ℕ)). AllAccepted start_of_day ls) (sym logs) r.accepted;
      report =
          ap (λ (ls : List (List ℕ)). record { number = 0; carried = carried_on start_of_day ls }) logs
          ∙ r.report
          ∙ ap (λ (n : ℕ). waiting_times (unbroken (M sheet) rom sched n s).bytes start_of_day) t.asks;
    }

pub every_list_of_calls_reports_as_one_run : EveryListOfCallsReportsAsOneRun chip
every_list_of_calls_reports_as_one_run = calls_report_as_one_run chip laws jump_laws number_laws every_list_reports_as_one_run
