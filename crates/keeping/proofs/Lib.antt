mod Spans
pub mod Names
pub mod Laid
pub mod Book
pub mod Replaced
pub mod Lists
pub mod Chip
