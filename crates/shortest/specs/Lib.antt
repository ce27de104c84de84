pub mod Search
pub mod Tried
pub mod Returns
pub mod EveryAnswer
pub mod Figures
