-- A property of the instruction of every code, from a proof for each instruction: the rows of the table of codes are gone through
-- here, once. Assumes nothing.
use mathlib.Core.Path.{◌≡◌, ap}
use mathlib.Core.List.{List, [], ◌∷◌, ◌++◌, map}
use Prim.Native.Nat.{ℕ, zero, suc, ◌/◌, ◌%◌}
use lib.ListN.{get_or, take, drop, replicate}
use Rattle.upd546.specs.Instructions as chip
use Rattle.upd546.specs.Instructions.{Instruction, codes, instruction}
use Rattle.laws.specs.Writes.{All, none, ◌▹◌}

pub all_get_d : {A : Type 0} (P : A → Type 0) {l : List A} (d : A) → All P l → P d → (n : ℕ) → P (get_or l n d)
all_get_d P d none e n = e
all_get_d P d (h ▹ a) e zero = h
all_get_d P d (h ▹ a) e (suc n) = all_get_d P d a e n

-- each entry of a list so many times
abbrev spread : {A : Type 0} → ℕ → List A → List A
spread k [] = []
spread k (x ∷ l) = replicate k x ++ spread k l

module _ {A : Type 0} (P : A → Type 0) where
  all_append : {l m : List A} → All P l → All P m → All P (l ++ m)
  all_append none b = b
  all_append (h ▹ a) b = h ▹ all_append a b

  all_replicate : (n : ℕ) {x : A} → P x → All P (replicate n x)
  all_replicate zero h = none
  all_replicate (suc n) h = h ▹ all_replicate n h

  all_spread : (k : ℕ) {l : List A} → All P l → All P (spread k l)
  all_spread k none = none
  all_spread k (h ▹ a) = all_append (all_replicate k h) (all_spread k a)

  all_take : (n : ℕ) {l : List A} → All P l → All P (take n l)
  all_take zero a = none
  all_take (suc n) none = none
  all_take (suc n) (h ▹ a) = h ▹ all_take n a

  all_drop : (n : ℕ) {l : List A} → All P l → All P (drop n l)
  all_drop zero a = a
  all_drop (suc n) none = none
  all_drop (suc n) (h ▹ a) = all_drop n a

  all_head : {x : A} {l : List A} → All P (x ∷ l) → P x
  all_head (h ▹ a) = h

  -- the first n entries by one computed equation, where f and g say the same of each, and the others by hand
  module _ {X : Type 0} (f g : A → X) (same : (x : A) → f x ≡ g x → P x) where
    pub all_same : (n : ℕ) {l : List A} → map f (take n l) ≡ map g (take n l) → All P (drop n l) → All P l
    all_same zero e a = a
    all_same (suc n) {l = []} e a = none
    all_same (suc n) {l = x ∷ l} e a = same x (ap (λ (t : List X). get_or t 0 (f x)) e) ▹ all_same n (ap (λ (t : List X). drop 1 t) e) a

-- every instruction once, in the order of the codes
abbrev pub instructions : List Instruction
instructions =
    chip.nop ∷ chip.di ∷ chip.s_m ∷ chip.tit ∷ chip.tc ∷ chip.ttm ∷ chip.daa ∷ chip.tal
    ∷ chip.ad ∷ chip.ads ∷ chip.das ∷ chip.clc ∷ chip.cm ∷ chip.inc ∷ chip.op ∷ chip.dec
    ∷ chip.cma ∷ chip.cia ∷ chip.tla ∷ chip.ded ∷ chip.stm ∷ chip.ldi ∷ chip.cli ∷ chip.ci
    ∷ chip.exl ∷ chip.adc ∷ chip.xc ∷ chip.stc ∷ chip.none ∷ chip.inm ∷ chip.ocd ∷ chip.dem
    ∷ chip.fbf ∷ chip.tab ∷ chip.xm ∷ chip.xmd
    ∷ chip.rar ∷ chip.ei ∷ chip.ip ∷ chip.ind ∷ chip.cmb ∷ chip.lm ∷ chip.xmi
    ∷ chip.ia ∷ chip.jpa ∷ chip.taz ∷ chip.taw ∷ chip.oe ∷ chip.none ∷ chip.tly ∷ chip.thx
    ∷ chip.rt ∷ chip.rts ∷ chip.xaz ∷ chip.xaw ∷ chip.xls ∷ chip.xhr ∷ chip.xly ∷ chip.xhx
    ∷ chip.tpb ∷ chip.tpa ∷ chip.tmb ∷ chip.fbt
    ∷ chip.rpb ∷ chip.reb ∷ chip.rmb ∷ chip.rfb
    ∷ chip.spb ∷ chip.seb ∷ chip.smb ∷ chip.sfb
    ∷ chip.ldz ∷ chip.li ∷ chip.jmp ∷ chip.cal ∷ chip.czp ∷ chip.jcp ∷ []

module _ (P : Instruction → Type 0) (each : All P instructions) where
  -- n instructions from a place on, of k codes each
  wide : (k place n : ℕ) → All P (spread k (take n (drop place instructions)))
  wide k place n = all_spread P k (all_take P n (all_drop P place each))

  rows : All (All P) codes
  rows =
      wide 1 0 16
      ▹ wide 1 16 16
      ▹ wide 4 32 4
      ▹ all_append P (wide 1 36 4) (wide 4 40 3)
      ▹ wide 1 43 16
      ▹ wide 4 59 4
      ▹ wide 4 63 4
      ▹ wide 4 67 4
      ▹ wide 16 71 1
      ▹ wide 16 72 1
      ▹ wide 8 73 2
      ▹ wide 16 75 1
      ▹ none

  -- no instruction stands at place 28, JCP at 76
  pub every_code : (code : ℕ) → P (instruction code)
  unfolding instruction
  every_code code =
      all_get_d P chip.none (all_get_d (All P) (replicate 16 chip.jcp) rows (wide 16 76 1) (code / 16)) (all_head P (all_drop P 28 each)) (code % 16)
