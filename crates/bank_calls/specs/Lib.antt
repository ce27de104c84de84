pub mod Entries
pub mod Round
pub mod InTurn
pub mod OwnRuns
