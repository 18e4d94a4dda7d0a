pub mod Expectation
pub mod Bytes
