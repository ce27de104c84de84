-- The effective writes of an instruction, and what they leave in the log and in the latches. Assumes nothing: these are definitions.
use Rattle.std.specs.Prelude.{ℕ, ◌%◌, ◌/◌, ◌≡◌, cond, List, [], ◌++◌, eqb, length, drop}
use Rattle.upd546.specs.Ports.{Write, written, latched, log_bytes, port_c, port_d}

-- What stands for a port where C and D are written, and where none is. Every port is below both.
abbrev pub ports_c_and_d : ℕ
ports_c_and_d = 9

abbrev pub no_port : ℕ
no_port = 10

-- the writes that a port and a value stand for: none, those of OCD, or one
unfoldable pub writes_of : ℕ → ℕ → List Write
writes_of port value =
    cond (eqb port no_port) [] (cond (eqb port ports_c_and_d) (written port_c (value % 16) ++ written port_d (value / 16)) (written port value))

-- the log and the latches after the writes of cycle n, and the bytes appended
pub record Written (log ports : List ℕ) (n : ℕ) (ws : List Write) (log' ports' : List ℕ) (bytes : ℕ) : Type 0 where
  pub appended : log' ≡ log_bytes n ws ++ drop (length (log_bytes n ws)) log
  pub latches : ports' ≡ latched ws ports
  pub count : bytes ≡ length (log_bytes n ws)
