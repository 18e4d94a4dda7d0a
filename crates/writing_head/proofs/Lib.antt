pub mod Heads
pub mod Bytes
