pub mod Rounds
pub mod Lists
pub mod Opened
pub mod Figures
