-- Machine cycles as microseconds, and back, at a clock in hertz: in whole numbers, and at most the largest number of 64 bits. Assumes
-- nothing: these are definitions.
use Rattle.std.specs.Prelude.{ℕ, ◌+◌, ◌-◌, ◌*◌, ◌/◌, ◌%◌, ◌^◌, min, cond, eqb}

-- a number of 64 bits, at most
abbrev pub most : ℕ → ℕ
most n = min n (2 ^ 64 - 1)

-- n times `to` by `from`, cut to a whole number: what whole times of `from` give, and what the rest of n gives
abbrev pub scaled : (n to from : ℕ) → ℕ
scaled n to from = cond (eqb from 0) 0 (most (most (n / from * to) + most (n % from * to) / from))

-- a machine cycle has four clock cycles, a second a million microseconds
abbrev pub micros_of : (clock cycles : ℕ) → ℕ
micros_of clock cycles = scaled (most (cycles * 4)) 1000000 clock

abbrev pub cycles_of : (clock micros : ℕ) → ℕ
cycles_of clock micros = scaled micros clock 1000000 / 4
