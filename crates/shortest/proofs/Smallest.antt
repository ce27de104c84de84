-- The search for the smallest number that passes a test: one try more, and what it finds. Assumes nothing.
use mathlib.Core.Path.{◌≡◌, ◌∙◌, refl, sym, ap}
use mathlib.Core.Bool.{Bool, true, false}
use mathlib.Core.Logic.{⊎_elim}
use Prim.Native.Nat.{ℕ, zero, suc, ◌+◌, ◌-◌, ◌<◌, ◌≤◌}
use native.Mathlib.Nat.{eq-or-lt_of_le}
use native.Mathlib.Numerals.{add-one}
use native.Mathlib.Omega.{arith}
use Rattle.shortest.specs.Search.{smallest_from}

module _ (test : ℕ → Bool) where
  -- where the test fails, the search goes on at the next number
  fails : (tries k : ℕ) → test k ≡ false → smallest_from test (suc tries) k ≡ smallest_from test tries (suc k)
  unfolding smallest_from
  fails tries k e = ap (λ (t : Bool). elim t [ true ↦ k | false ↦ smallest_from test tries (suc k) ]) e

  -- where it holds, it ends there
  holds : (tries k : ℕ) → test k ≡ true → smallest_from test (suc tries) k ≡ k
  unfolding smallest_from
  holds tries k e = rw (e, smallest_from)

  -- the same of a loop that tries the numbers up to `most`
  pub goes_on : (most k : ℕ) → k < most → test k ≡ false → smallest_from test (most - k) k ≡ smallest_from test (most - (k + 1)) (k + 1)
  goes_on most k h e =
      let one : most - k ≡ suc (most - suc k) = omega arith in
      rw (add-one k, one) (fails (most - suc k) k e)

  pub ends_at : (most k : ℕ) → k < most → test k ≡ true → smallest_from test (most - k) k ≡ k
  ends_at most k h e =
      let one : most - k ≡ suc (most - suc k) = omega arith in
      rw one (holds (most - suc k) k e)

  pub ends_behind : (most k : ℕ) → most ≤ k → smallest_from test (most - k) k ≡ k
  unfolding smallest_from
  ends_behind most k h = let none : most - k ≡ 0 = omega arith in rw none

  -- what is found
  pub record Smallest (tries k r : ℕ) : Type 0 where
    pub from : k ≤ r
    pub to : r ≤ k + tries
    pub before : (j : ℕ) → k ≤ j → j < r → test j ≡ false
    pub at : r < k + tries → test r ≡ true

  pub smallest_is : (tries k : ℕ) → Smallest tries k (smallest_from test tries k)
  unfolding smallest_from
  smallest_is zero k = record { from = omega arith; to = omega arith; before = λ j p q. absurd (omega arith); at = λ p. absurd (omega arith) }
  smallest_is (suc tries) k = go (test k) refl (smallest_is tries (suc k))
    where
      go : (t : Bool) → test k ≡ t → Smallest tries (suc k) (smallest_from test tries (suc k)) → Smallest (suc tries) k (smallest_from test (suc tries) k)
      go true e ih =
          rw (holds tries k e)
          (record { from = omega arith; to = omega arith; before = λ j p q. absurd (omega arith); at = λ p. e })
      go false e ih =
          rw (fails tries k e)
          (record {
            from = omega (arith, ih.from);
            to = omega (arith, ih.to);
            before = λ j p q. ⊎_elim (λ z. ap test (sym z) ∙ e) (λ l. ih.before j (omega arith) q) (eq-or-lt_of_le p);
            at = λ p. ih.at (omega arith);
          })
