pub mod Bits
pub mod Writes
