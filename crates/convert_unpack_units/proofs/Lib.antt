pub mod Pairs
pub mod First
