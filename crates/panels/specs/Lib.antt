pub mod Grants
pub mod Places
pub mod Courses
pub mod Round
pub mod Alone
