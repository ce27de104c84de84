-- What a bit of a port writes, case by case. Assumes nothing.
use mathlib.Core.Path.{◌≡◌}
use mathlib.Core.List.{List, []}
use Prim.Native.Nat.{ℕ, ◌<◌, ◌≤◌}
use native.Mathlib.Omega.{arith}
use borrow.Author.Tests.{le-leb, lt-leb, ne_eqb}
use Rattle.upd546.specs.Ports.{bit_written, bit_outputs, port_e, port_i}

module _ (ports : List ℕ) (p b v : ℕ) where
  -- A to D
  pub bit_low : p < port_e → bit_outputs ports p b v ≡ []
  unfolding bit_outputs
  bit_low h = rw (lt-leb port_e p h)

  -- no port
  pub bit_past : port_e ≤ p → port_i < p → bit_outputs ports p b v ≡ []
  unfolding bit_outputs
  bit_past a h = rw (le-leb port_e p a, lt-leb p port_i h)

  -- E to H
  pub bit_below : port_e ≤ p → p < port_i → bit_outputs ports p b v ≡ bit_written ports p b v
  unfolding bit_outputs
  bit_below a h =
      let n : p ≡ port_i → ⊥ = λ e. omega arith in
      rw (le-leb port_e p a, le-leb p port_i (omega arith), ne_eqb p port_i n)

  -- bits 0 to 2 of I, and bit 3
  pub bit_i : p ≡ port_i → b < 3 → bit_outputs ports p b v ≡ bit_written ports port_i b v
  unfolding bit_outputs
  bit_i e h = rw (e, ne_eqb b 3 (λ q. omega arith))

  pub bit_i3 : p ≡ port_i → b ≡ 3 → bit_outputs ports p b v ≡ []
  unfolding bit_outputs
  bit_i3 e h = rw (e, h)
