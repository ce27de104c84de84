pub mod Lines
pub mod Numbers
pub mod Puts
pub mod Filling
