pub mod Grammar
pub mod Assembling
pub mod Places
