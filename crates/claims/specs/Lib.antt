pub mod Interval
pub mod Strings
