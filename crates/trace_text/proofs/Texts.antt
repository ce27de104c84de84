-- Which text a run and an input have. Assumes nothing.
use mathlib.Core.Path.{◌≡◌}
use mathlib.Core.List.{List}
use Prim.Native.Nat.{ℕ, ◌+◌, ◌<◌, ◌≤◌}
use native.Mathlib.Omega.{arith}
use lib.ListN.{length, take, drop, replicate}
use borrow.Author.Tests.{lt-ltb, le-ltb}
use Rattle.upd546.specs.TheMachine.{rom_length}
use Rattle.upd546.specs.Bytes.{number_at}
use Rattle.upd546.specs.Reports.{refused_text, trace_log, trace_text, run_text}
use Rattle.text.specs.declared.Text.{Text}
use Rattle.text.specs.Writing.{Pushed}
use Rattle.trace_text.specs.Texts.{Traced}
use Rattle.text.proofs.Writing.{at_front, counted}

-- THE INPUT

module _ (input : List ℕ) where
  -- "under 2,004 bytes being 21"
  pub short_text : length input < 4 + rom_length → refused_text 21 ≡ trace_text input
  unfolding trace_text
  short_text h = rw (lt-ltb (length input) (4 + rom_length) h)

  -- n, ROM and schedule
  pub long_text : 4 + rom_length ≤ length input → {rom sched log : List ℕ} {n : ℕ} → rom ≡ take rom_length (drop 4 input)
      → sched ≡ drop (4 + rom_length) input → log ≡ replicate trace_log 0 → n ≡ number_at input 0 4 → run_text rom sched log n ≡ trace_text input
  unfolding trace_text run_text
  long_text h p q r s = rw (p, q, r, s, le-ltb (length input) (4 + rom_length) h)

-- A TEXT AT THE FRONT OF A BUFFER

pub traced : {input b : List ℕ} {t u : Text} {n : ℕ} → t.buffer.now ≡ b → t.size ≡ 0 → Pushed t (trace_text input) u → n ≡ u.size
    → Traced input b u.buffer.now n
traced e z p l =
    let a = at_front e z p l in
    record { counts = counted a; size = omega (arith, a.ends); text = a.stands }
