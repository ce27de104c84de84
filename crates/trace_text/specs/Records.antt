-- Records of a log, as a report reads them. Assumes nothing: these are definitions.
use Rattle.std.specs.Prelude.{ℕ, ◌+◌, ◌*◌, ◌/◌, ◌<◌, ◌≤◌, List, length, get_or}
use Rattle.upd546.specs.Ports.{port_i, log_record_length}

-- the ports of the first records are written by a letter, R of a reset and else from A on to I, their values by one hexadecimal digit
pub record Legible (log : List ℕ) (count : ℕ) : Type 0 where
  pub port : (i : ℕ) → i < count → get_or log (log_record_length * i + 6) 0 ≤ port_i
  pub value : (i : ℕ) → i < count → get_or log (log_record_length * i + 7) 0 < 16

-- so many bytes of the log are such records
pub record Recorded (written : ℕ) (log : List ℕ) : Type 0 where
  pub within : written ≤ length log
  pub legible : Legible log (written / log_record_length)
