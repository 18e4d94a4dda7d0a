pub mod Passing
pub mod Looked
