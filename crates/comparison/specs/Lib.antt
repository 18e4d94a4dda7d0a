pub mod Comparing
pub mod Words
pub mod Passing
