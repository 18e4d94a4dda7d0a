pub mod Limits
pub mod Finds
