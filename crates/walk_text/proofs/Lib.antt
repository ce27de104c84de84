pub mod Joined
pub mod Stepping
