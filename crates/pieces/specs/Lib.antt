pub mod Headers
pub mod Steps
pub mod Feeding
pub mod Calls
