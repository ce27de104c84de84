-- One cycle of a panel: what it answers is what the definition's cycle comes to. Assumes nothing.
use mathlib.Core.Path.{◌≡◌, ◌∙◌, refl, sym, ap, subst}
use mathlib.Core.List.{List, []}
use Prim.Native.Nat.{ℕ, zero, suc, ◌-◌}
use native.Mathlib.Omega.{arith}
use lib.ListN.{replicate}
use Rattle.runs.proofs.Refusals.{refusal-some}
use Rattle.runs.specs.declared.RunEnd.{RunEnd}
use Rattle.runs.specs.declared.RunEnd.TheVariants.{Finished, Stopped, Refused}
use Rattle.runs.specs.declared.Stop.{Stop}
use Rattle.runs.specs.declared.Stop.TheVariants.{LogFull, RomEnd, NoInstruction}
use Rattle.runs.specs.Numbers.{stop_number, end_number, end_of}
use Rattle.runs.specs.TwoRunners as runners
use Rattle.runs.specs.TwoRunners.{number_of_end, run_number, told, within, stepwise, plain}
use Rattle.upd546.specs.declared.RunAnswer.{RunAnswer}
use Rattle.upd546.specs.declared.Sheet.{Sheet}
use Rattle.upd546.specs.declared.State.{State}
use Rattle.upd546.specs.TheSheet.{upd546_sheet}
use Rattle.runs.specs.Refusals.{first_of}
use Rattle.upd546.specs.TheLineSchedule.{quiet_lines, lines_among, lines_at, records_number, schedule_number}
use Rattle.upd546.specs.TwoRunners.{chip, upd546, answer_of}
use Rattle.turns.proofs.Taken.{run_taken}
use Rattle.text.specs.declared.Text.{Text}
use Rattle.text.specs.Writing.{Pushed}
use Rattle.text.proofs.Writing.{at_front}
use Rattle.text.proofs.Writing as writing
use Rattle.std.specs.Prelude.{Ok, Err}
use Rattle.walk_text.specs.declared.Walked.{Walked}
use Rattle.walk_text.specs.CycleLine.{over_after, line_text, lines_before, walked_by, one_cycle, Stepped}

-- THE LINES BEFORE A CYCLE

-- those of an empty schedule
pub empty_sound : schedule_number [] ≡ 0
unfolding schedule_number records_number first_of
empty_sound = refl

pub empty_lines : lines_at [] 0 ≡ quiet_lines
unfolding lines_at lines_among
empty_lines = refl

pub before_none : (sched : List ℕ) (n : ℕ) → n ≡ 0 → quiet_lines ≡ lines_before sched n
before_none sched zero e = refl
before_none sched (suc n) e = absurd (omega arith)

pub before_some : (sched : List ℕ) (n : ℕ) → (n ≡ 0 → ⊥) → lines_at sched (n - 1) ≡ lines_before sched n
before_some sched zero h = absurd (h refl)
before_some sched (suc n) h = let less : suc n - 1 ≡ n = omega arith in rw less

-- ENDS

stop_some : (s : Stop) → stop_number s ≡ 0 → ⊥
stop_some LogFull = λ (z : ◌≡◌ {A = ℕ} 3 0). omega arith
stop_some RomEnd = λ (z : ◌≡◌ {A = ℕ} 22 0). omega arith
stop_some NoInstruction = λ (z : ◌≡◌ {A = ℕ} 23 0). omega arith

-- a stop and a refusal have numbers
end_some : (e : RunEnd) → (e ≡ Finished → ⊥) → end_number e ≡ 0 → ⊥
end_some Finished h z = h refl
end_some (Stopped s) h z = stop_some s z
end_some (Refused r) h z = refusal-some r z

end_same : (e : RunEnd) → end_number e ≡ number_of_end (end_of e)
end_same Finished = refl
end_same (Stopped s) = refl
end_same (Refused r) = refl

module _ (rom sched : List ℕ) (s : State) where
  pub as_one : {sheet : Sheet} {a : runners.RunAnswer State} → sheet ≡ upd546_sheet → a ≡ plain (chip sheet) rom sched s (replicate 16 0) 1
      → a ≡ one_cycle rom sched s
  as_one {sheet} {a} e p = subst (λ (z : Sheet). a ≡ plain (chip z) rom sched s (replicate 16 0) 1) e p

  module _ (a : RunAnswer) (log : List ℕ) (one : answer_of a log ≡ one_cycle rom sched s) where
    ended : end_number a.end ≡ number_of_end (one_cycle rom sched s).end
    ended = end_same a.end ∙ ap (λ (z : runners.RunAnswer State). number_of_end z.end) one

    -- a cycle that is done wasn't refused
    pub accepted : a.end ≡ Finished → schedule_number sched ≡ 0
    unfolding plain
    accepted e =
        (run_taken upd546_sheet rom sched s 1
        (go (run_number upd546 rom sched s 1) (sym ended ∙ ap end_number e))).schedule
      where
        go : (k : ℕ) → number_of_end (told upd546 k (stepwise upd546 (within upd546 rom sched 16 1 s)) s (replicate 16 0)).end ≡ 0 → k ≡ 0
        go zero x = refl
        go (suc k) x = absurd (omega (arith, x))

    pub not_done : (over : ℕ) (b : List ℕ) → (a.end ≡ Finished → ⊥) → Stepped rom sched s over b b (Err (record { end = a.end; state = a.state }))
    not_done over b h = record {
      number = ended;
      state = ap (λ (z : runners.RunAnswer State). z.state) one;
      over_next = tt;
      line = tt;
      halted = (end_some a.end h, refl);
    }

    pub done : (over : ℕ) {b : List ℕ} {t u : Text} {w : Walked} {size next : ℕ} → a.end ≡ Finished → w ≡ walked_by sched s a.state over
        → t.buffer.now ≡ b → t.size ≡ 0 → Pushed t (line_text rom w log a.written) u → size ≡ u.size → next ≡ over_after rom w
        → Stepped rom sched s over b u.buffer.now (Ok (record { state = a.state; over = next; size = size }))
    done over e v f z p l q =
        let state = ap (λ (z : runners.RunAnswer State). z.state) one in
        record {
          number = ap end_number (sym e) ∙ ended;
          state = state;
          over_next = q ∙ ap (over_after rom) (v ∙ ap (λ (t : State). walked_by sched s t over) state);
          line =
              at_front f z
              (writing.told
              (ap (λ (u : Walked). line_text rom u log a.written) v
              ∙ ap (λ (y : runners.RunAnswer State). line_text rom (walked_by sched s y.state over) y.log y.written) one)
              p)
              l;
          halted = tt;
        }
