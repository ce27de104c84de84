pub mod Fields
pub mod CycleLine
