pub mod Values
pub mod Right
pub mod Taken
