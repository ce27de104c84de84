-- Images of two versions: conversions refuse in order, and what is taken forward and back is the same. Assumes nothing.
use mathlib.Core.Path.{◌≡◌, ◌∙◌, refl, sym, ap, subst}
use mathlib.Core.List.{List, [], ◌∷◌, ◌++◌}
use mathlib.Core.Option.{Option, none, some}
use Prim.Native.Nat.{ℕ, zero, suc, ◌≤◌}
use lib.ListN.{length, take, drop}
use Rattle.runs.specs.declared.Version.{Version}
use Rattle.runs.specs.declared.Version.TheVariants.{One, Two}
use Rattle.runs.specs.Machine.{Machine}
use Rattle.runs.specs.Refusals.{first_of}
use Rattle.runs.specs.TwoRunners.{SaveAnswer, RestoreAnswer, save_number, save_answer, got, restore_number, restore_answer}
use Rattle.runs.specs.Laws.{Bytes, ImageLaws}
use Rattle.runs.specs.Versions.{version_named, save_wanted, on_taken, convert_answer, wanted_number, EveryConversionRefusesInOrder, ImageOf, AcceptedLaws}
use Rattle.runs.specs.Versions.{saved_as, EveryVersionOneImageComesBack, EveryConversionComesBack, EveryImageWrittenAsVersionOneRestores}
use Rattle.runs.proofs.Refusals.{first_at, first_past, first_under, last_one, first_append}
use Rattle.runs.proofs.Calls.{fit_save, save_number_lem, restore-number, restore-fit, restore_same}

-- a number that names no version
pub unnamed : (k : ℕ) → (k ≡ 1 → ⊥) → (k ≡ 2 → ⊥) → version_named k ≡ none
unnamed zero h g = refl
unnamed (suc zero) h g = absurd (h refl)
unnamed (suc (suc zero)) h g = absurd (g refl)
unnamed (suc (suc (suc k))) h g = refl

module _ {S : Type 0} (M : Machine S) where
  -- a save that isn't refused
  pub saves : (v : Version) (s : S) (buffer : List ℕ) → M.own_number ≡ 0 → M.state_number s ≡ 0 → M.version_number v s ≡ 0
      → M.image_length v ≤ length buffer
      → save_answer M v s buffer ≡ record { number = 0; buffer = M.image v s ++ drop (M.image_length v) buffer }
  unfolding save_answer
  saves v s buffer o e f h = rw (fit_save M v s buffer o e f h)

  -- and what a restore makes of the bytes that it wrote
  pub saved_restores : ImageLaws M → (v : Version) (s : S) (buffer : List ℕ) → M.own_number ≡ 0 → M.state_number s ≡ 0
      → M.version_number v s ≡ 0
      → M.image_length v ≤ length buffer → restore_answer M (saved_as M v s buffer) ≡ record { number = 0; state = s }
  saved_restores L v s buffer o e f h =
      restore_same M L o s (saved_as M v s buffer)
      (record { version = v; buffer = buffer; done = save_number_lem M v s buffer ∙ fit_save M v s buffer o e f h; same = refl })

  -- WHAT A CONVERSION ANSWERS

  -- where the restore is refused
  pub convert_refused : (from to : List ℕ) (k : ℕ) (s : S) (version : ℕ) → restore_answer M from ≡ record { number = k; state = s }
      → (k ≡ 0 → ⊥)
      → convert_answer M from to version ≡ record { number = k; buffer = to }
  unfolding convert_answer
  convert_refused from to zero s version e h = absurd (h refl)
  convert_refused from to (suc k) s version e h = ap (λ (a : RestoreAnswer S). on_taken M a.number a.state (version_named version) to) e

  -- where it isn't: a save of its state
  pub converts : (from to : List ℕ) (s : S) (version : ℕ) → restore_answer M from ≡ record { number = 0; state = s }
      → convert_answer M from to version ≡ save_wanted M (version_named version) s to
  unfolding convert_answer
  converts from to s version e = ap (λ (a : RestoreAnswer S). on_taken M a.number a.state (version_named version) to) e

  -- THE ORDER OF REFUSALS

  pub accepted-sound : AcceptedLaws M → (bytes : List ℕ) → Bytes bytes → M.image_number bytes ≡ 0 → M.state_number (M.of_image bytes) ≡ 0
  accepted-sound L bytes b e = let v = L.some_version bytes e in (L.exact v.0 bytes b v.1 e).sound

  wanted_number_lem : (wanted : Option Version) (s : S) (to : List ℕ) → M.own_number ≡ 0 → M.state_number s ≡ 0
      → (save_wanted M wanted s to).number ≡ wanted_number M wanted s to
  unfolding save_number
  wanted_number_lem none s to o e = refl
  wanted_number_lem (some v) s to o e = save_number_lem M v s to ∙ first_past M.own_number _ o ∙ first_past (M.state_number s) _ e

  pub refuses_in_order : (M.own_number ≡ 0 → AcceptedLaws M) → EveryConversionRefusesInOrder M
  unfolding convert_answer restore_answer restore_number first_of
  refuses_in_order laws from to version b =
      go (restore_number M from) refl ∙ sym (first_append (M.own_number ∷ M.image_number from ∷ []) (wanted ∷ []))
    where
      s : S
      s = M.of_image from

      wanted : ℕ
      wanted = wanted_number M (version_named version) s to

      go : (k : ℕ) → restore_number M from ≡ k
          → (on_taken M (got M k s).number (got M k s).state (version_named version) to).number
          ≡ first_of (k ∷ wanted_number M (version_named version) s to ∷ [])
      go zero e =
          let f = restore-fit M from e in
          wanted_number_lem (version_named version) s to f.0 (accepted-sound (laws f.0) from b f.1) ∙ sym (last_one _)
      go (suc k) e = refl

  -- FORWARD AND BACK

  -- bytes that a restore takes
  record Taken (bytes : List ℕ) : Type 0 where
    legal : M.own_number ≡ 0
    accepted : M.image_number bytes ≡ 0
    state : M.of_image bytes ≡ (restore_answer M bytes).state
    answer : restore_answer M bytes ≡ record { number = 0; state = (restore_answer M bytes).state }

  taken : (bytes : List ℕ) → (restore_answer M bytes).number ≡ 0 → Taken bytes
  unfolding restore_answer
  taken bytes e =
      let z : restore_number M bytes ≡ 0 = sym (restore-number M bytes) ∙ e in
      record {
        legal = (restore-fit M bytes z).0;
        accepted = (restore-fit M bytes z).1;
        state = ap (λ (k : ℕ). (got M k (M.of_image bytes)).state) (sym z);
        answer = ap (λ (k : ℕ). record { number = k; state = (restore_answer M bytes).state }) e;
      }

  module _ (I : M.own_number ≡ 0 → ImageLaws M) (L : M.own_number ≡ 0 → AcceptedLaws M) where
    pub forward_and_back : EveryVersionOneImageComesBack M
    forward_and_back bytes forth back b h e room room' =
        let s : S = (restore_answer M bytes).state in
        let x = taken bytes e in
        let legal : M.own_number ≡ 0 = x.legal in
        let o : ImageOf M One bytes s = subst (λ (t : S). ImageOf M One bytes t) x.state ((L legal).exact One bytes b h x.accepted) in
        let all : M.version_number Two s ≡ 0 = (I legal).two_holds_all s in
        let again : restore_answer M (saved_as M Two s forth) ≡ record { number = 0; state = s }
        = saved_restores (I legal) Two s forth legal o.sound all room in
        record {
          forward = ap (λ (a : SaveAnswer). a.number) (saves Two s forth legal o.sound all room);
          taken = again ∙ sym x.answer;
          backward =
              ap (λ (a : RestoreAnswer S). save_answer M One a.state back) again
              ∙ saves One s back legal o.sound o.held room'
              ∙ ap (λ (l : List ℕ). record { number = 0; buffer = l ++ drop (M.image_length One) back }) (sym o.same);
        }

    pub converted_forward_and_back : EveryConversionComesBack M
    converted_forward_and_back bytes forth back b h e room room' =
        let s : S = (restore_answer M bytes).state in
        let f = forward_and_back bytes forth back b h e room room' in
        let read : restore_answer M bytes ≡ record { number = 0; state = s } = (taken bytes e).answer in
        let forward : convert_answer M bytes forth 2 ≡ save_answer M Two s forth = converts bytes forth s 2 read in
        record {
          forward = ap (λ (a : SaveAnswer). a.number) forward ∙ f.forward;
          backward =
              ap (λ (a : SaveAnswer). convert_answer M (take (M.image_length Two) a.buffer) back 1) forward
              ∙ converts (saved_as M Two s forth) back s 1 (f.taken ∙ read)
              ∙ ap (λ (a : RestoreAnswer S). save_answer M One a.state back) (sym f.taken)
              ∙ f.backward;
        }

    pub written_as_one_restores : EveryImageWrittenAsVersionOneRestores M
    written_as_one_restores bytes buffer b e held room =
        let x = taken bytes e in
        let legal : M.own_number ≡ 0 = x.legal in
        let sound : M.state_number (restore_answer M bytes).state ≡ 0
        = subst (λ (t : S). M.state_number t ≡ 0) x.state (accepted-sound (L legal) bytes b x.accepted) in
        saved_restores (I legal) One (restore_answer M bytes).state buffer legal sound held room ∙ sym x.answer
