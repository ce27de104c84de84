-- The form of a port log, passed on from the definitions of document 01: a record and its bytes, the ports, and the words in which
-- definitions test them. Assumes nothing.
pub use Rattle.upd546.specs.Bytes.{bit_at, number_of, bytes_of}
pub use Rattle.upd546.specs.Ports.{port_c, port_i, Write, reset_record, log_record_length, log_record, log_bytes}
unfoldable pub use Rattle.upd546.specs.Sequences.{all_of}
