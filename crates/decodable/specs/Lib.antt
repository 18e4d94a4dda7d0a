pub mod Words
pub mod Claims
pub mod Formats
