-- An image that is refused, one that isn't, a buffer that is too short, and one that isn't. Assumes nothing.
use mathlib.Core.Path.{◌≡◌, ◌∙◌, refl, sym, ap, subst}
use mathlib.Core.Bool.{Bool, true, false}
use mathlib.Core.List.{List, ◌++◌}
use Prim.Native.Nat.{ℕ, suc, ◌<◌, ◌≤◌}
use lib.Dec.{leb}
use lib.ListN.{length, drop}
use borrow.Author.Tests.{le-leb, lt-leb}
use Rattle.runs.specs.Machine.{Machine}
use Rattle.runs.specs.TwoRunners.{RestoreAnswer, current_answer}
use Rattle.upd546.specs.Bytes.{bytes_of}
use Rattle.shortest.specs.Search.{Found, shortest_answer, LogLeft}
use Rattle.shortest_calls.specs.Call.{found_length, on_length, on_restored, image_found, call_answer, LeftBy, ImageLeft, LeftOnLength, Called, FoundIn}

module _ {S : Type 0} (M : Machine S) (image rom sched : List ℕ) (n : ℕ) (log : List ℕ) where
  -- by what a restore answers
  by_restored : (a : RestoreAnswer S) → a ≡ current_answer M image → (f : Found) (after : List ℕ)
      → f ≡ on_restored M image rom sched n log a.number a.state → LeftBy M image rom sched n log a.number a.state after
      → FoundIn M image rom sched n log f after
  unfolding image_found ImageLeft
  by_restored a e f after q l = record {
    found = q ∙ ap (λ (b : RestoreAnswer S). on_restored M image rom sched n log b.number b.state) e;
    left = subst (λ (b : RestoreAnswer S). LeftBy M image rom sched n log b.number b.state after) e l;
  }

  pub refused-in : (j k : ℕ) (s : S) → j ≡ suc k → record { number = j; state = s } ≡ current_answer M image
      → FoundIn M image rom sched n log (record { number = j; records = 0 }) log
  refused-in j k s q e =
      by_restored (record { number = suc k; state = s }) (ap (λ (i : ℕ). record { number = i; state = s }) (sym q) ∙ e)
      (record { number = j; records = 0 }) log (ap (λ (i : ℕ). record { number = i; records = 0 }) q) refl

  pub done_in : (s : S) → record { number = 0; state = s } ≡ current_answer M image → (f : Found) (after : List ℕ)
      → f ≡ shortest_answer M rom sched s n log → LogLeft M rom sched s n log after → FoundIn M image rom sched n log f after
  done_in s e f after q l = by_restored (record { number = 0; state = s }) e f after q l

  module _ (found : List ℕ) where
    pub too_short : length found < found_length → Called M image rom sched n log found 1 log found
    unfolding call_answer
    too_short h =
        let e : leb found_length (length found) ≡ false = lt-leb found_length (length found) h in
        record {
          answer = sym (ap (λ (b : Bool). on_length b (image_found M image rom sched n log) found) e);
          left = subst (λ (b : Bool). LeftOnLength M image rom sched n log b log) (sym e) refl;
        }

    pub long_enough : found_length ≤ length found → (f : Found) (after : List ℕ) → FoundIn M image rom sched n log f after → (r : ℕ) (found' : List ℕ)
        → r ≡ f.number → found' ≡ bytes_of found_length f.records ++ drop found_length found → Called M image rom sched n log found r after found'
    unfolding call_answer
    long_enough h f after w r found' p q =
        let e : leb found_length (length found) ≡ true = le-leb found_length (length found) h in
        let told : record { number = r; found = found' } ≡ on_length true f found = cc in
        record {
          answer =
              told
              ∙ ap (λ (g : Found). on_length true g found) w.found
              ∙ sym (ap (λ (b : Bool). on_length b (image_found M image rom sched n log) found) e);
          left = subst (λ (b : Bool). LeftOnLength M image rom sched n log b after) (sym e) w.left;
        }
