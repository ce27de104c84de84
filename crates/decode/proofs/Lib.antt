pub mod Keys
pub mod Rows
