-- How many waits the bars of a row are, as bars are put behind them or joined. Assumes nothing.
use Rattle.std.proofs.Common.{ℕ, ◌+◌, ◌-◌, ◌<◌, ◌≤◌, ◌^◌, ◌≡◌, ◌∙◌, List, [], ◌∷◌, ◌++◌, ap, length, get_or, take, set, min, arith, add-one, take-suc, take-suc-set}
use Rattle.std.proofs.lemmas.List.{get_or_default}
use Rattle.bar_rows.specs.declared.Joined.{Joined}
use Rattle.bar_rows.specs.declared.Row.{Row}
use Rattle.bar_rows.specs.Rows.{bars_in, waits_of, HasMore}

waits_push : (bars : List Joined) (b : Joined) → waits_of (bars ++ (b ∷ [])) ≡ waits_of bars + b.waits
waits_push [] b = omega arith
waits_push (x ∷ bars) b = omega (arith, waits_push bars b)

-- one bar more, at place n
pub pushed : (all : List Joined) (n : ℕ) (b : Joined) → n < length all → waits_of (take (n + 1) (set all n b)) ≡ waits_of (take n all) + b.waits
pushed all n b h = rw (add-one n, take-suc-set all n b h) (waits_push (take n all) b)

up_to : (all : List Joined) (n : ℕ) (d : Joined) → n < length all → waits_of (take (n + 1) all) ≡ waits_of (take n all) + (get_or all n d).waits
up_to all n d h = rw (add-one n, take-suc all n d h) (waits_push (take n all) (get_or all n d))

-- waits joined to the last of n bars
pub joined : (all : List Joined) (n k w : ℕ) (b d : Joined) → n ≡ k + 1 → k < length all → b.waits ≡ min ((get_or all k d).waits + w) (2 ^ 64 - 1)
    → waits_of (take n all) + w < 2 ^ 64 → waits_of (take n (set all k b)) ≡ waits_of (take n all) + w
joined all n k w b d e h p q =
    rw e
    (let last = up_to all k d h in
    let all_of = ap (λ (m : ℕ). waits_of (take m all)) e in
    omega (arith, pushed all k b h, last, all_of))

-- neighbours joined up to bar k: the row has their waits, and its bars stand before the others
pub record Thinned (none : Joined) (old : Row) (k : ℕ) (now : Row) : Type 0 where
  pub count : now.count ≤ k
  pub others : (j : ℕ) → k ≤ j → get_or now.all j none ≡ get_or old.all j none
  pub kept : waits_of (take k old.all) < 2 ^ 64 → waits_of (bars_in now) ≡ waits_of (take k old.all)

pub one_more : (none : Joined) (old now new : Row) (k : ℕ) (bar d : Joined) → Thinned none old k now → k < length old.all → k < length now.all
    → bar ≡ get_or now.all k d → HasMore bar.waits now new → new.count ≤ now.count + 1
    → ((j : ℕ) → now.count < j → get_or new.all j none ≡ get_or now.all j none) → Thinned none old (k + 1) new
one_more none old now new k bar d t h l e more count others =
    let same : bar ≡ get_or old.all k none = e ∙ get_or_default now.all k d none l ∙ t.others k (omega arith) in
    let waits = up_to old.all k none h in
    let of : bar.waits ≡ (get_or old.all k none).waits = ap (λ (b : Joined). b.waits) same in
    record {
      count = omega (arith, t.count);
      others = λ j p. others j (omega (arith, t.count)) ∙ t.others j (omega arith);
      kept = λ p.
          let before = t.kept (omega (arith, waits)) in
          omega (arith, more (omega (arith, before, waits, of)), before, waits, of);
    }

pub all_thinned : (none : Joined) (old : Row) (k : ℕ) (now : Row) → Thinned none old k now → k ≡ old.count → HasMore 0 old now
all_thinned none old k now t e = λ p.
    let same = ap (λ (m : ℕ). waits_of (take m old.all)) e in
    omega (arith, t.kept (omega (arith, same)), same)
