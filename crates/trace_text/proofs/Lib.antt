pub mod Writing
pub mod Records
pub mod Texts
pub mod Inputs
pub mod Calls
