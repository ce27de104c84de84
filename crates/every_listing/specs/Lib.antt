pub mod EveryListing
