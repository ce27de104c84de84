-- The record of a reset and the room that it needs, and what looking at the line comes to, case by case. Assumes nothing.
use mathlib.Core.Path.{◌≡◌, ◌∙◌, refl, sym, ap}
use mathlib.Core.Bool.{Bool, true, false, cond, not, ◌&&◌}
use mathlib.Core.List.{List, []}
use Prim.Native.Nat.{ℕ, ◌+◌, ◌-◌, ◌<◌, ◌≤◌}
use native.Mathlib.Omega.{arith}
use lib.Dec.{eqb, ltb}
use lib.ListN.{length, replicate}
use borrow.Author.Tests.{ltb-true, ltb-false, eqb-true, eqb-false, eq-eqb, ne_eqb, le-leb, lt-leb, not-true}
use Rattle.upd546.specs.declared.Core.{Core}
use Rattle.upd546.specs.declared.Lines.{Lines}
use Rattle.upd546.specs.TheMachine.{latches, reset_count}
use Rattle.upd546.specs.Ports.{reset_record, log_record_length, log_bytes}
use Rattle.upd546.specs.OneMachineCycle.{taken, counted, cleared}
use Rattle.laws.proofs.Lists.{and_left, and_right}
use Rattle.reset.specs.Line.{records, appended, reset_to, reset_full, ordinary_next, looked_at}

module _ (n count : ℕ) where
  pub records-none : count ≡ reset_count → records n count ≡ []
  records-none e = ap (λ (b : Bool). log_bytes n (cond b [] reset_record)) (eq-eqb count reset_count e)

  pub records-one : (count ≡ reset_count → ⊥) → records n count ≡ log_bytes n reset_record
  records-one e = ap (λ (b : Bool). log_bytes n (cond b [] reset_record)) (ne_eqb count reset_count e)

  -- the room for them, as it is tested
  pub lacks : (room : ℕ) → (not (eqb count reset_count) && ltb room log_record_length) ≡ true → room < length (records n count)
  lacks room e =
      let other = not-true (eqb count reset_count) (and_left (not (eqb count reset_count)) (ltb room log_record_length) e) in
      let less = ltb-true room log_record_length (and_right (not (eqb count reset_count)) (ltb room log_record_length) e) in
      omega (arith, less, ap length (records-one (eqb-false count reset_count other)))

  pub fits : (room : ℕ) → (not (eqb count reset_count) && ltb room log_record_length) ≡ false → length (records n count) ≤ room
  fits room e = go (eqb count reset_count) refl e
    where
      go : (b : Bool) → eqb count reset_count ≡ b → (not b && ltb room log_record_length) ≡ false → length (records n count) ≤ room
      go true p q = omega (arith, ap length (records-none (eqb-true count reset_count p)))
      go false p q = omega (arith, ltb-false room log_record_length q, ap length (records-one (eqb-false count reset_count p)))

module _ (core : Core) (ports log : List ℕ) (at : ℕ) (l : Lines) (n limit count : ℕ) where
  pub looked_ordinary : (counted l.res count ≡ reset_count → ⊥)
      → looked_at core ports log at l n limit count ≡ ordinary_next core ports log at l n limit count (counted l.res count)
  unfolding looked_at
  looked_ordinary e = rw (ne_eqb (counted l.res count) reset_count e)

  module _ (e : counted l.res count ≡ reset_count) where
    looked_reset : length (records n count) ≤ length log - at → looked_at core ports log at l n limit count ≡ reset_to core ports log at l n limit count
    unfolding looked_at
    looked_reset h = rw (eq-eqb (counted l.res count) reset_count e, le-leb (length (records n count)) (length log - at) h)

    pub looked_full : length log - at < length (records n count) → looked_at core ports log at l n limit count ≡ reset_full core ports log at l n limit count
    unfolding looked_at
    looked_full h = rw (eq-eqb (counted l.res count) reset_count e, lt-leb (length (records n count)) (length log - at) h)

    pub resets_to : length (records n count) ≤ length log - at → {core' : Core} {at' count' : ℕ} {ports' log' : List ℕ} → core' ≡ cleared (taken l core)
        → at' ≡ at + length (records n count) → count' ≡ reset_count → ports' ≡ replicate latches 0 → log' ≡ appended log at (records n count)
        → record { full = false; core = core'; at = at'; number = limit; limit = limit; count = count'; ports = ports'; log = log' } ≡ looked_at core ports log at l n limit count
    resets_to h a b c d f =
        (λ i. record { full = false; core = a i; at = b i; number = limit; limit = limit; count = c i; ports = d i; log = f i }) ∙ sym (looked_reset h)
