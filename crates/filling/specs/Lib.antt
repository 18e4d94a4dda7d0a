pub mod Stores
pub mod Filling
