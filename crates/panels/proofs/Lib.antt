pub mod Alone
pub mod Courses
pub mod Cuts
pub mod Fairness
pub mod Rounds
