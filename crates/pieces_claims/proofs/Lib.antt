pub mod Joining
pub mod Timing
pub mod Proved
