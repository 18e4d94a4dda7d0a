pub mod Limits
pub mod Proved
pub mod Orders
