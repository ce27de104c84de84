pub mod Rounds
pub mod Lists
pub mod Figures
