-- The columns of a walked cycle's line, each of a fixed width. Assumes nothing: these are definitions.
use Rattle.std.specs.Prelude.{ℕ, ◌+◌, ◌*◌, ◌/◌, ◌%◌, cond, ◌&&◌, List, [], ◌∷◌, eqb, ltb}
use Rattle.upd546.specs.declared.State.{State}
use Rattle.upd546.specs.declared.Timer.{Timer}
use Rattle.upd546.specs.TheMachine.{word_at, mark_other, mark_ldi, mark_ei, mark_stm}
use Rattle.upd546.specs.TheSheet.{upd546_sheet}
use Rattle.upd546.specs.Timer.{ticks_left}
use Rattle.upd546.specs.Reports.{hex_digit}

-- the digit of the low four bits
abbrev pub digit_of : ℕ → ℕ
digit_of v = hex_digit (v % 16)

-- the decimal digit of n at a power of ten; before the first digit of n a space
unfoldable pub decimal_at : ℕ → ℕ → ℕ
decimal_at n power = cond (ltb n power) 32 (48 + n / power % 10)

-- the last digit is there also of 0
abbrev pub unit_of : ℕ → ℕ
unit_of n = 48 + n % 10

-- a cycle number, ten columns: a panel's n has four bytes
unfoldable pub cycle_column : ℕ → List ℕ
cycle_column n =
    decimal_at n 1000000000
    ∷ decimal_at n 100000000
    ∷ decimal_at n 10000000
    ∷ decimal_at n 1000000
    ∷ decimal_at n 100000
    ∷ decimal_at n 10000
    ∷ decimal_at n 1000
    ∷ decimal_at n 100
    ∷ decimal_at n 10
    ∷ unit_of n
    ∷ []

-- ticks, four columns: at most 4,032 are left
abbrev pub ticks_column : ℕ → List ℕ
ticks_column n = decimal_at n 1000 ∷ decimal_at n 100 ∷ decimal_at n 10 ∷ unit_of n ∷ []

-- the timer: the ticks left of a running one; of one that is stopped, whether TM is set
unfoldable pub timer_column : Timer → List ℕ
timer_column t =
    cond (ltb 0 t.register && ltb t.register 64) (ticks_column (ticks_left t))
    (cond (eqb t.tm 0) (32 ∷ 32 ∷ 32 ∷ 45 ∷ []) (32 ∷ 32 ∷ 84 ∷ 77 ∷ []))

-- an address, with a space before and behind it
unfoldable pub address_column : ℕ → List ℕ
address_column a = 32 ∷ digit_of (a / 256) ∷ digit_of (a / 16) ∷ digit_of a ∷ 32 ∷ []

-- the names of the marks, "other, LDI, EI or STM"; R-5: LI
unfoldable pub mark_column : ℕ → List ℕ
mark_column mark =
    cond (eqb mark mark_other) (111 ∷ 116 ∷ 104 ∷ 101 ∷ 114 ∷ [])
    (cond (eqb mark mark_ldi) (76 ∷ 68 ∷ 73 ∷ 32 ∷ 32 ∷ [])
    (cond (eqb mark mark_ei) (69 ∷ 73 ∷ 32 ∷ 32 ∷ 32 ∷ [])
    (cond (eqb mark mark_stm) (83 ∷ 84 ∷ 77 ∷ 32 ∷ 32 ∷ []) (76 ∷ 73 ∷ 32 ∷ 32 ∷ 32 ∷ []))))

-- "M is the 4-bit RAM word at DP."
unfoldable pub word_m : State → ℕ
word_m s = word_at upd546_sheet s.ram (16 * (s.core.registers.dph % 8) + s.core.registers.dpl % 16)

-- Acc, C, DP and M
unfoldable pub register_columns : State → List ℕ
register_columns s =
    32 ∷ 32 ∷ 32
    ∷ digit_of s.core.registers.acc
    ∷ 32
    ∷ digit_of s.core.registers.carry
    ∷ 32
    ∷ digit_of s.core.registers.dph
    ∷ digit_of s.core.registers.dpl
    ∷ 32
    ∷ digit_of (word_m s)
    ∷ []

-- INT and INTE, with a space behind them
unfoldable pub interrupt_columns : State → List ℕ
interrupt_columns s =
    32 ∷ 32 ∷ 32
    ∷ digit_of s.core.interrupt.int
    ∷ 32 ∷ 32 ∷ 32 ∷ 32
    ∷ digit_of s.core.interrupt.inte
    ∷ 32
    ∷ []

-- the cycles owed, with two spaces behind them
unfoldable pub owed_column : State → List ℕ
owed_column s = 32 ∷ 32 ∷ 32 ∷ 32 ∷ digit_of s.core.owed ∷ 32 ∷ 32 ∷ []
