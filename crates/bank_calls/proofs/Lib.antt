pub mod Told
pub mod Span
pub mod Turning
pub mod Lots
pub mod Rounds
pub mod OwnRuns
