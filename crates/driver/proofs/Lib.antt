pub mod Tail
pub mod Refused
