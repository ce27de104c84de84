-- The records of no, one and two writes. Assumes nothing.
use mathlib.Core.Path.{◌≡◌, ◌∙◌, refl, ap, ap₂, subst}
use mathlib.Core.List.{List, [], ◌∷◌, ◌++◌}
use Prim.Native.Nat.{ℕ, ◌+◌, ◌-◌, ◌/◌, ◌%◌, ◌≤◌}
use native.Mathlib.Omega.{arith}
use lib.ListN.{length, take, drop, set}
use lib.Seq.{drop-drop, drop-cons}
use borrow.Author.Tests.{ne_eqb}
use borrow.Rule.Slice.PartMut.{mid_of, put_mid}
use Rattle.upd546.specs.Bytes.{bytes_of}
use Rattle.upd546.specs.Ports.{Write, written, log_record, port_c, port_d}
use Rattle.laws.specs.Writes.{All, ◌▹◌, ValidWrite}
use Rattle.portlog.specs.Appending.{no_port, ports_c_and_d, writes_of, Written}
use Rattle.laws.proofs.Tails.{mid_tail, put_tail}

-- which writes there are, by the port
pub no_write : writes_of no_port 0 ≡ []
unfolding writes_of
no_write = refl

pub one_write : (p v : ℕ) → (p ≡ no_port → ⊥) → (p ≡ ports_c_and_d → ⊥) → writes_of p v ≡ written p v
unfolding writes_of
one_write p v a b = rw (ne_eqb p no_port a, ne_eqb p ports_c_and_d b)

pub none_of : (port v : ℕ) → port ≡ no_port → writes_of port v ≡ []
unfolding writes_of
none_of port v e = rw e

pub both_of : (port v : ℕ) → port ≡ ports_c_and_d → writes_of port v ≡ written port_c (v % 16) ++ written port_d (v / 16)
unfolding writes_of
both_of port v e = rw e

abbrev record_of : ℕ → ℕ → Write
record_of port v = record { port = port; value = v }

head_of : {w : Write} {ws : List Write} → All ValidWrite (w ∷ ws) → ValidWrite w
head_of (h ▹ a) = h

-- the port of one effective write
pub port_of : (port v : ℕ) → (port ≡ no_port → ⊥) → (port ≡ ports_c_and_d → ⊥) → All ValidWrite (writes_of port v) → (2 ≤ port) × (port ≤ 8)
port_of port v a b h =
    let w = head_of (subst (All ValidWrite) (one_write port v a b) h) in
    (w.first, w.last)

-- the cycle's six bytes, and two stores behind them
pub record_put : (log : List ℕ) (n port v : ℕ) → 8 ≤ length log → {m : List ℕ} → m ≡ bytes_of 6 n ++ drop 6 log
    → set (set m 6 port) 7 v ≡ log_record n (record_of port v) ++ drop 8 log
record_put log n port v h e = rw (e, drop-cons log 6 0 (omega arith), drop-cons log 7 0 (omega arith))

module _ (log ports : List ℕ) (n port v : ℕ) where
  pub writes_none : port ≡ no_port → Written log ports n (writes_of port v) log ports 0
  writes_none e = rw (none_of port v e) (record { appended = refl; latches = refl; count = refl })

  pub writes_one : (port ≡ no_port → ⊥) → (port ≡ ports_c_and_d → ⊥) → {log' ports' : List ℕ} → log' ≡ log_record n (record_of port v) ++ drop 8 log → ports' ≡ set ports (port - 2) v
      → Written log ports n (writes_of port v) log' ports' 8
  writes_one a b p q = rw (one_write port v a b) (record { appended = p; latches = q; count = refl })

  pub writes_both : port ≡ ports_c_and_d → {m ys p₁ p₂ : List ℕ} → m ≡ log_record n (record_of port_c (v % 16)) ++ drop 8 log
      → ys ≡ log_record n (record_of port_d (v / 16)) ++ drop 8 (mid_of 8 (length m - 8) m) → p₁ ≡ set ports 0 (v % 16) → p₂ ≡ set p₁ 1 (v / 16)
      → Written log ports n (writes_of port v) (put_mid 8 (length m - 8) m ys) p₂ 16
  writes_both e {m} {ys} p q r s =
      rw (both_of port v e)
      (record {
        appended =
            put_tail 8 m ys
            ∙ ap₂ ◌++◌ (ap (take 8) p) (q ∙ ap (λ (z : List ℕ). log_record n (record_of port_d (v / 16)) ++ drop 8 z) (mid_tail 8 m ∙ ap (drop 8) p))
            ∙ ap (λ (z : List ℕ). log_record n (record_of port_c (v % 16)) ++ (log_record n (record_of port_d (v / 16)) ++ z)) (drop-drop 8 8 log);
        latches = s ∙ ap (λ (l : List ℕ). set l 1 (v / 16)) r;
        count = refl;
      })
