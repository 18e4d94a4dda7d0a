pub mod Short
pub mod Lookup
pub mod Text
pub mod Proved
pub mod Deeper
