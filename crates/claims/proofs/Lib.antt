pub mod Interval
pub mod Strings
pub mod Falls
