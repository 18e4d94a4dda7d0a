pub mod Readings
pub mod Large
