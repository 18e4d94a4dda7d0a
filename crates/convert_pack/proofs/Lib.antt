pub mod Pairs
pub mod Left
