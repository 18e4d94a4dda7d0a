pub mod Words
pub mod Conditions
pub mod Claims
